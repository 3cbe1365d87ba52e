-- The interfaces that edits ask for.
use Rattle.std.specs.Prelude.{Bool}
use Rattle.atspi_tree_model.specs.declared.contents.Kinds.{Kinds}
use Rattle.atspi_tree_edits.specs.declared.refusals.Face.{Face}
use Rattle.atspi_tree_edits.specs.declared.refusals.Face.TheVariants.{Text, Editable, Selection, Action}

-- whether a node has the interface
abbrev pub kind_of : Face → Kinds → Bool
kind_of Text = λ k. k.text
kind_of Editable = λ k. k.editable
kind_of Selection = λ k. k.selection
kind_of Action = λ k. k.action
