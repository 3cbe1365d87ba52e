-- An edit that is a line by itself.
use Rattle.std.specs.Prelude.{ℕ, List, ◌++◌, Option, None, Some, Result, Ok, Err, codes}
use Rattle.atspi_tree_model.specs.declared.edit.Edit.{Edit}
use Rattle.atspi_script_lines.specs.declared.line.Line.{Line}
use Rattle.atspi_script_lines.specs.declared.line.Line.TheVariants as line
use Rattle.atspi_script_lines.specs.declared.line.LineFault.{LineFault}
use Rattle.atspi_script_lines.specs.declared.line.LineFault.TheVariants as faults
use Rattle.atspi_script_lines.specs.Line.{Spells}

-- an edit as in a script, without the words `edit A`
abbrev pub IsEditLine : Edit → List ℕ → Type 0
IsEditLine edit bytes = (app : ℕ) × Spells (line.Edit app edit) (codes "edit a0 " ++ bytes)

-- the edit of an edit line
abbrev pub edit_in : Line → Option Edit
edit_in (line.Edit app edit) = Some edit
edit_in other = None

-- what reading bytes as an edit alone answers
abbrev pub EditIn : Result Edit LineFault → List ℕ → Type 0
EditIn (Ok edit) bytes = IsEditLine edit bytes
EditIn (Err faults.Long) bytes = ⊥
EditIn (Err faults.NotUtf8) bytes = ⊥
EditIn (Err faults.Form) bytes = (edit : Edit) → IsEditLine edit bytes → ⊥
EditIn (Err faults.NoMemory) bytes = Unit {0}
