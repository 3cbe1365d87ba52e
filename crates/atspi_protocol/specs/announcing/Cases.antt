-- The steps, signals and items of the worked cases.
use Rattle.std.specs.Prelude.{ℕ, pos, false, List, [], ◌∷◌, map, Option, None, Some, codes}
use Rattle.atspi_types.specs.Kinds.{u32}
use Rattle.atspi_types.specs.Data.{Data, number_data, text_data, structure_data, items_of}
use Rattle.atspi_tree_model.specs.declared.step.Seed.{Seed}
use Rattle.atspi_tree_model.specs.declared.step.Step.{Step}
use Rattle.atspi_protocol.specs.members.Arguments.{int}
use Rattle.atspi_protocol.specs.objects.Values.{texts_data, words_data}
use Rattle.atspi_protocol.specs.objects.Cases.{app, to}
use Rattle.atspi_protocol.specs.announcing.Signals.{Signal, caret_moved}
use Rattle.atspi_protocol.specs.announcing.Announced.{announced}

-- the application's name
abbrev pub bus : List ℕ
bus = codes ":1.1"

-- the signals of a step of its tree
abbrev pub signals : Step → List Signal
signals step = announced bus app.tree step

-- the event and the minor word of each, and its member
abbrev pub events : Step → List (List ℕ × List ℕ × List ℕ)
events step = map (λ (s : Signal). (s.event, s.minor, member s.message.member)) (signals step)
  where
    member : Option (List ℕ) → List ℕ
    member None = []
    member (Some name) = name

-- the path of each, and its body
abbrev pub bodies : Step → List (Option (List ℕ) × List Data)
bodies step = map (λ (s : Signal). (s.message.path, s.message.body)) (signals step)

-- the first of them
abbrev pub first : Step → Signal
first step = at (signals step)
  where
    at : List Signal → Signal
    at [] = caret_moved 0 0
    at (s ∷ ss) = s

-- a label that is to be added
abbrev pub new : Seed
new =
    record { role = 29; name = codes "N"; text = None; editable = false; columns = None; select = false; actions = [] }

-- the item of the button below a parent
abbrev pub button_item : Data → ℕ → Data
button_item parent index =
    structure_data (items_of (
    to 12 ∷ to 0 ∷ parent ∷ int (pos index) ∷ int (pos 0)
    ∷ texts_data (codes "org.a11y.atspi.Accessible" ∷ codes "org.a11y.atspi.Action" ∷ [])
    ∷ text_data [] ∷ number_data u32 117 ∷ text_data [] ∷ words_data 16 ∷ []
    ))
