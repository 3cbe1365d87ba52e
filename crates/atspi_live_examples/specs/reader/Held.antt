-- An application that a reader holds, with a button below its root, and what was spoken of it.
use Rattle.std.specs.Prelude.{ℕ, false, List, [], ◌∷◌, ◌++◌, Option, None, Some, pos, negsuc, codes}
use Rattle.atspi_trace_events.specs.declared.shown.ShownRow.{ShownRow}
use Rattle.atspi_tree_model.specs.Forest.{Forest, nil, tree}
use Rattle.atspi_tree_model.specs.declared.view.Row.{Row}
use Rattle.atspi_tree_model.specs.declared.view.Part.TheVariants as part
use Rattle.atspi_tree_model.specs.declared.view.NumPart.TheVariants as number
use Rattle.atspi_protocol.specs.following.ReaderState.{Done, Followed, ReaderState, begins, speaks, tells_end}

abbrev pub name : List ℕ
name = codes ":1.2"

-- a row with nothing but a role and a name
abbrev row_of : List ℕ → ℕ → List ℕ → Row
row_of path role name = record {
  path = path;
  name = name;
  description = [];
  role = role;
  states = 1124073728;
  faces = 0;
  text = part.Absent;
  caret = number.Absent;
  columns = number.Absent;
}

abbrev root_path : List ℕ
root_path = codes "/org/a11y/atspi/accessible/root"

abbrev root : Row
root = row_of root_path 75 (codes "Demo")

abbrev button : Row
button = row_of (codes "/org/a11y/atspi/accessible/1") 43 (codes "Save")

-- the rows as they are shown
abbrev pub shown_root : ShownRow
shown_root = record { parent = None; index = negsuc 0; row = root }

abbrev pub shown_button : ShownRow
shown_button = record { parent = Some root_path; index = pos 0; row = button }

-- their lines
abbrev pub root_line : List ℕ
root_line = codes "| root - -1 application 0000000043000100 " ++ 34
    ∷ (codes "Demo" ++ 34 ∷ (codes " " ++ 34 ∷ 34 ∷ (codes " - - - -" ++ 10 ∷ [])))

abbrev pub button_line : List ℕ
button_line = codes "| 1 root 0 push-button 0000000043000100 " ++ 34
    ∷ (codes "Save" ++ 34 ∷ (codes " " ++ 34 ∷ 34 ∷ (codes " - - - -" ++ 10 ∷ [])))

abbrev pub shows : List ℕ
shows = codes "show :1.2 2" ++ 10 ∷ (root_line ++ button_line)

-- an application of which this view is held, or none
abbrev known : List ℕ → Option (Forest Row) → Followed
known bus view = record { name = bus; root = root_path; view = view; reload = false; last = 0; refused = [] }

-- two applications are known, of which the first is held
abbrev pub two_known : ReaderState
two_known =
    record begins { apps = known name (Some (tree root (tree button nil nil) nil)) ∷ known (codes ":1.3") None ∷ [] }

-- what was done of it, and the lines of that
abbrev pub told : List Done
told = speaks name (codes "OK") ∷ tells_end name ∷ speaks name (codes "Save") ∷ []

abbrev pub said : List ℕ
said = codes "say :1.2 " ++ 34 ∷ (codes "OK" ++ 34 ∷ 10 ∷ (codes "say :1.2 " ++ 34 ∷ (codes "Save" ++ 34 ∷ 10 ∷ [])))
