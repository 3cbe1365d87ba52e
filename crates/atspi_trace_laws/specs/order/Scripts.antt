-- The lines of a script, as its text gives them.
use Rattle.std.specs.Prelude.{List}
use Rattle.std.specs.List.{AllByRecursion}
use Rattle.atspi_tree_model.specs.Edits.{IsEdit}
use Rattle.atspi_script_lines.specs.declared.line.Line.{Line}
use Rattle.atspi_script_lines.specs.declared.line.Line.TheVariants.{Edit as Edit_line}

-- an edit that a line asks for can be asked for: no other is spelled by a line
abbrev pub CanStand : Line → Type 0
CanStand (Edit_line app edit) = IsEdit edit
CanStand line = Unit {0}

abbrev pub CanAllStand : List Line → Type 0
CanAllStand lines = AllByRecursion CanStand lines
