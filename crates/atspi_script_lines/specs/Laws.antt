-- What holds of lines.
use Rattle.std.specs.Prelude.{◌≡◌, ℕ, List}
use Rattle.atspi_script_lines.specs.declared.line.Line.{Line}
use Rattle.atspi_script_lines.specs.Line.{Spells}

-- bytes spell at most one line
abbrev pub LinesHaveOneReading : Type 0
LinesHaveOneReading = (bytes : List ℕ) (a b : Line) → Spells a bytes → Spells b bytes → a ≡ b
