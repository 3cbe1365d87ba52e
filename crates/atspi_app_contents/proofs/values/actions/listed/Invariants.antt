use Rattle.std.proofs.Common.{◌≡◌, List, ℕ, [], ◌∷◌, map, take}
use Rattle.atspi_types.specs.Data.{Data, text_data, structure_data, items_of}
use Rattle.atspi_types.specs.DataView.{data_of}
use Rattle.atspi_app_contents.proofs.values.actions.listed.Given as goal

-- an action with no description and no key
abbrev pub action_data : List ℕ → Data
action_data name = structure_data (items_of (text_data name ∷ text_data [] ∷ text_data [] ∷ []))

abbrev pub invariant-loop-name : goal.invariant-loop-name
invariant-loop-name l = map data_of l.elements.items ≡ map action_data (take l.name-index l.names)
