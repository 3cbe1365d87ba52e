-- Nodes of a shape as they are spoken of.
use Rattle.std.specs.Prelude.{ℕ, List, [], Option, codes}
use Rattle.std.specs.Option.{option_map}
use Rattle.atspi_tree_model.specs.declared.step.Step.{Step}
use Rattle.atspi_tree_model.specs.declared.step.Step.TheVariants.{Add, SetName, SetState, Insert, Delete}
use Rattle.atspi_tree_model.specs.Row.{ShapeRow}
use Rattle.atspi_speech.specs.Speech.{Subject, of_found, alert_lines, name_lines, state_lines, text_lines}
use Rattle.atspi_tree.specs.TreeShape.{TreeShape, row_of}
use Rattle.atspi_due_lines.specs.declared.subject.Subject as held

-- what code holds of a node
abbrev pub subject_of : held.Subject → Subject
subject_of s = record { name = s.name.now; role = s.role; states = s.states }

-- the node of a shape, where it is there
abbrev pub of_shape : ShapeRow → Subject
of_shape row = record { name = row.name; role = row.role; states = row.states }

abbrev pub shape_at : ℕ → TreeShape → Option Subject
shape_at n t = option_map of_shape (row_of n t)

-- the lines of a step that made this shape
abbrev pub shape_says : TreeShape → Step → List (List ℕ)
shape_says t (Add n parent index seed) = of_found alert_lines (shape_at n t)
shape_says t (SetName n text) = of_found name_lines (shape_at n t)
shape_says t (SetState n state on) = of_found (state_lines state on) (shape_at n t)
shape_says t (Insert n at text) = of_found (text_lines (codes "typed: ") text) (shape_at n t)
shape_says t (Delete n at text) = of_found (text_lines (codes "deleted: ") text) (shape_at n t)
shape_says t _ = []
