-- What the parts of reading a line answer.
use Rattle.std.specs.Prelude.{◌≡◌, ◌≤◌, ◌<◌, ℕ, suc, ℤ, pos, negsuc, List, [], length, Option, None, Some, Result, Ok}
use Rattle.std.specs.Prelude.{Err, MatchOption, IsUtf8}
use Rattle.std.specs.Prelude.{FitsSigned}
use Rattle.std.specs.Fmt.{decimal, signed_decimal}
use Rattle.std.specs.Int.{w32}
use Rattle.atspi_script_lines.specs.declared.limits.TheConstants.{LINE_LIMIT}
use Rattle.atspi_script_lines.specs.declared.line.Line.{Line}
use Rattle.atspi_script_lines.specs.declared.line.Line.TheVariants as script
use Rattle.atspi_script_lines.specs.declared.line.LineFault.{LineFault}
use Rattle.atspi_script_lines.specs.declared.line.LineFault.TheVariants.{Long, NotUtf8, Form, NoMemory}
use Rattle.atspi_script_lines.specs.Line.{ReadsLine}
use Rattle.atspi_script_lines.specs.Words.{Word, SpellsWords}
use Rattle.atspi_script_lines.specs.inner.Reading.{first_word, other_words}
use Rattle.atspi_run_input.specs.Edits.{IsEditLine}
use Rattle.atspi_run_hit.specs.declared.line.HitLine.{HitLine}
use Rattle.atspi_run_hit.specs.declared.line.HitLine.TheVariants.{Nothing, App, Edit, Place, Call, Cell, Follow}
use Rattle.atspi_run_hit.specs.Words.{AreOwn, IsAsk, IsRect, SpellsLine, place_words, ask_words, cell_words}
use Rattle.atspi_run_hit.specs.Words.{follow_words}

-- the number of 32 bits that a word spells, or it spells none
abbrev pub ReadsSigned : Option ℤ → List ℕ → Type 0
ReadsSigned found word = MatchOption found ((z : ℤ) → FitsSigned w32 z → word ≡ signed_decimal z → ⊥)
    (λ z. FitsSigned w32 z × (word ≡ signed_decimal z))

-- the number below 0 whose size digits spell, and that not below 0 which they spell
abbrev pub ReadsBelow : Option ℤ → List ℕ → Type 0
ReadsBelow found digits = MatchOption found ((k : ℕ) → k < 2147483648 → digits ≡ decimal (suc k) → ⊥)
    (λ z. (k : ℕ) × (k < 2147483648) × (digits ≡ decimal (suc k)) × (z ≡ negsuc k))

abbrev pub ReadsFrom : Option ℤ → List ℕ → Type 0
ReadsFrom found word = MatchOption found ((n : ℕ) → n < 2147483648 → word ≡ decimal n → ⊥)
    (λ z. (n : ℕ) × (n < 2147483648) × (word ≡ decimal n) × (z ≡ pos n))

-- the words of a line of its own
abbrev pub own_words : HitLine → List Word
own_words (Place n r) = place_words n r
own_words (Call n ask) = ask_words n ask
own_words (Cell n i way) = cell_words n i way
own_words (Follow n k) = follow_words n k
own_words line = []

-- a line of its own, with numbers that it can have
abbrev pub CanBeSaid : HitLine → Type 0
CanBeSaid (Place n r) = IsRect r
CanBeSaid (Call n ask) = IsAsk ask
CanBeSaid (Cell n i way) = Unit {0}
CanBeSaid (Follow n k) = Unit {0}
CanBeSaid line = ⊥

-- such a line with this first word, and the others spelled by the bytes
pub record IsOwnOf (word bytes : List ℕ) (line : HitLine) : Type 0 where
  pub can : CanBeSaid line
  pub first : first_word (own_words line) ≡ word
  pub others : SpellsWords (other_words (own_words line)) bytes

-- what an input has of other lines of a script, but for edits
abbrev pub plain_in : Line → Option HitLine
plain_in script.Blank = Some Nothing
plain_in (script.App name) = Some (App name)
plain_in other = None

-- the bytes spell a line of its own, or an edit
abbrev pub IsOther : HitLine → List ℕ → Type 0
IsOther (Edit edit) bytes = IsEditLine edit bytes
IsOther line bytes = AreOwn line bytes

-- what reading such a line answers
abbrev pub OtherIn : Result HitLine LineFault → List ℕ → Type 0
OtherIn (Ok line) bytes = IsOther line bytes
OtherIn (Err Long) bytes = ⊥
OtherIn (Err NotUtf8) bytes = ⊥
OtherIn (Err Form) bytes = (line : HitLine) → IsOther line bytes → ⊥
OtherIn (Err NoMemory) bytes = Unit {0}

-- what reading bytes as a line of the input answers: the line that they spell; else the first reason that holds: too
-- many, no UTF-8, or they spell none
abbrev pub ReadsHit : Result HitLine LineFault → List ℕ → Type 0
ReadsHit (Ok line) bytes = SpellsLine line bytes
ReadsHit (Err Long) bytes = ReadsLine (Err Long) bytes
ReadsHit (Err NotUtf8) bytes = ReadsLine (Err NotUtf8) bytes
ReadsHit (Err Form) bytes = (length bytes ≤ LINE_LIMIT) × IsUtf8 bytes × ((line : HitLine) → SpellsLine line bytes → ⊥)
ReadsHit (Err NoMemory) bytes = Unit {0}
