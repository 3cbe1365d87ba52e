-- Words behind `Asking` that only private contracts and proofs use.
use Rattle.std.specs.Prelude.{ℕ, List, Option, None, Some, Result, Ok, Err}
use Rattle.atspi_tree_model.specs.declared.edit.Edit.{Edit}
use Rattle.atspi_script_lines.specs.declared.line.Line.{Line}
use Rattle.atspi_script_lines.specs.declared.line.Line.TheVariants as line
use Rattle.atspi_script_lines.specs.declared.line.LineFault.{LineFault}
use Rattle.atspi_script_lines.specs.declared.line.LineFault.TheVariants as faults
use Rattle.atspi_script_lines.specs.Line.{ReadsLine}
use Rattle.atspi_live_app.specs.declared.asking.Ask.{Ask}
use Rattle.atspi_live_app.specs.declared.asking.Ask.TheVariants as ask
use Rattle.atspi_live_app.specs.Asking.{IsWait, IsEditLine, IsAsk}

-- the edit of an edit line, and what an input has of other lines of a script
abbrev pub edit_in : Line → Option Edit
edit_in (line.Edit app edit) = Some edit
edit_in other = None

abbrev pub plain_in : Line → Option Ask
plain_in line.Blank = Some ask.Nothing
plain_in (line.App name) = Some (ask.Start name)
plain_in other = None

-- what reading bytes as an edit alone answers
abbrev pub EditIn : Result Edit LineFault → List ℕ → Type 0
EditIn (Ok edit) bytes = IsEditLine edit bytes
EditIn (Err faults.Long) bytes = ⊥
EditIn (Err faults.NotUtf8) bytes = ⊥
EditIn (Err faults.Form) bytes = (edit : Edit) → IsEditLine edit bytes → ⊥
EditIn (Err faults.NoMemory) bytes = Unit {0}

-- the same of all but empty lines, comments and starts
abbrev pub OtherIn : Result Ask LineFault → List ℕ → Type 0
OtherIn (Ok what) bytes = IsAsk what bytes
OtherIn (Err faults.Long) bytes = ⊥
OtherIn (Err faults.NotUtf8) bytes = ⊥
OtherIn (Err faults.Form) bytes = ((edit : Edit) → IsEditLine edit bytes → ⊥) × ((n : ℕ) → IsWait n bytes → ⊥)
OtherIn (Err faults.NoMemory) bytes = Unit {0}

-- what reading bytes as a line of an input answers: what they ask for; else the first reason that holds: too many, no
-- UTF-8, or they ask for nothing
abbrev pub AsksFor : Result Ask LineFault → List ℕ → Type 0
AsksFor (Ok what) bytes = IsAsk what bytes
AsksFor (Err faults.Long) bytes = ReadsLine (Err faults.Long) bytes
AsksFor (Err faults.NotUtf8) bytes = ReadsLine (Err faults.NotUtf8) bytes
AsksFor (Err faults.Form) bytes = (what : Ask) → IsAsk what bytes → ⊥
AsksFor (Err faults.NoMemory) bytes = Unit {0}
