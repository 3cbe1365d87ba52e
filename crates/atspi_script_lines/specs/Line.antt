-- Which bytes spell a line of a script, and what reading bytes as a line answers.
use Rattle.std.specs.Prelude.{◌≡◌, ◌≤◌, ℕ, List, [], ◌∷◌, length, Result, Ok, Err, IsUtf8}
use Rattle.atspi_tree_model.specs.Edits.{IsEdit}
use Rattle.atspi_script_lines.specs.declared.limits.TheConstants.{LINE_LIMIT}
use Rattle.atspi_script_lines.specs.declared.line.Line.{Line}
use Rattle.atspi_script_lines.specs.declared.line.Line.TheVariants.{Blank, Edit as EditLine}
use Rattle.atspi_script_lines.specs.declared.line.LineFault.{LineFault}
use Rattle.atspi_script_lines.specs.declared.line.LineFault.TheVariants.{Long, NotUtf8, Form, NoMemory}
use Rattle.atspi_script_lines.specs.Words.{SpellsWords}
use Rattle.atspi_script_lines.specs.Forms.{line_form}

-- nothing, or a comment: it begins with `#`
abbrev pub IsBlank : List ℕ → Type 0
IsBlank [] = Unit {0}
IsBlank (b ∷ bytes) = b ≡ 35

-- how each line is spelled; of the edits only those that can be asked for are
abbrev pub SpelledAs : Line → List ℕ → Type 0
SpelledAs Blank bytes = IsBlank bytes
SpelledAs (EditLine app edit) bytes = IsEdit edit × SpellsWords (line_form (EditLine app edit)) (32 ∷ bytes)
SpelledAs line bytes = SpellsWords (line_form line) (32 ∷ bytes)

-- the bytes, without their line feed, spell this line: not too many of them, in UTF-8
pub record Spells (line : Line) (bytes : List ℕ) : Type 0 where
  pub short : length bytes ≤ LINE_LIMIT
  pub utf8 : IsUtf8 bytes
  pub form : SpelledAs line bytes

-- what reading bytes as a line answers: the line that they spell; else `Long` where they are too many, else `NotUtf8`
-- where they are not UTF-8, else `Form` where they spell no line
abbrev pub ReadsLine : Result Line LineFault → List ℕ → Type 0
ReadsLine (Ok line) bytes = Spells line bytes
ReadsLine (Err Long) bytes = length bytes ≤ LINE_LIMIT → ⊥
ReadsLine (Err NotUtf8) bytes = (length bytes ≤ LINE_LIMIT) × (IsUtf8 bytes → ⊥)
ReadsLine (Err Form) bytes = (length bytes ≤ LINE_LIMIT) × IsUtf8 bytes × ((line : Line) → SpelledAs line bytes → ⊥)
ReadsLine (Err NoMemory) bytes = Unit {0}
