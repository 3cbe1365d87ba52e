-- A line of a script that is an edit has one that can be asked for.
use Rattle.std.proofs.Common.{ℕ, List, Ok}
use Rattle.atspi_tree_model.specs.declared.edit.Edit.{Edit}
use Rattle.atspi_tree_model.specs.Edits.{IsEdit}
use Rattle.atspi_script_lines.specs.declared.line.Line.TheVariants.{Edit as EditLine}
use Rattle.atspi_script_lines.specs.Line.{ReadsLine}

pub is_edit : (app : ℕ) (edit : Edit) (bytes : List ℕ) → ReadsLine (Ok (EditLine app edit)) bytes → IsEdit edit
is_edit app edit bytes h = h.form.0
