-- The relations of a node whose targets are known by their numbers.
use Rattle.std.specs.Prelude.{ℕ, ◌==◌, Bool, not, List, [], ◌∷◌, map, filter, length, Option}
use Rattle.atspi_types.specs.Kinds.{Kind, number, u32, structure, kinds_of, array}
use Rattle.atspi_types.specs.Data.{Data, number_data, structure_data, array_data, items_of}
use Rattle.atspi_tree_model.specs.declared.limits.TheConstants.{RELATION_KINDS}
use Rattle.atspi_tree_model.specs.Row.{ShapeRow}
use Rattle.atspi_tree_model.specs.Edits.{node_targets, numbers_to}
use Rattle.atspi_protocol.specs.ends.Places.{reference_kind}
use Rattle.atspi_app_values.specs.Numbers.{numbered_references}

abbrev pub relation_kind : Kind
relation_kind = structure (kinds_of (number u32 ∷ array reference_kind ∷ []))

-- a kind with its targets
abbrev pub relation : List ℕ → ℕ → List ℕ → Data
relation name kind targets = structure_data (items_of (number_data u32 kind ∷ numbered_references name targets ∷ []))

abbrev pub has_some : ℕ → Option ShapeRow → Bool
has_some kind row = not (length (node_targets kind row) == 0)

-- of these kinds those that have a target
abbrev pub relations_among : List ℕ → Option ShapeRow → List ℕ → List Data
relations_among name row kinds =
    map (λ kind. relation name kind (node_targets kind row)) (filter (λ kind. has_some kind row) kinds)

abbrev pub relations_told : List ℕ → Option ShapeRow → Data
relations_told name row = array_data relation_kind (items_of (relations_among name row (numbers_to RELATION_KINDS)))
