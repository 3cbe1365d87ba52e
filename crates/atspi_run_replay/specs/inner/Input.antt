-- What was read of a source.
use Rattle.std.specs.Prelude.{◌≡◌, ℕ, ◌<◌, List, ◌++◌, length, Bool, true, false, Option, Result, MatchResult}
use Rattle.std.specs.Io.KnownBytes.{Consumes, IsAtEnd}
use Rattle.atspi_base.specs.Outside.{Rose}
use Rattle.atspi_base.specs.declared.outside.NoMemory.{NoMemory}
use Rattle.atspi_run_replay.specs.declared.input.TheConstants.{SCRIPT_LIMIT}
use Rattle.atspi_run_replay.specs.declared.input.End.{End}
use Rattle.atspi_run_replay.specs.declared.input.End.TheVariants.{Whole, TooLong, Failed}

-- the text was read; and nothing is left, or it has the limit's length and more came, or the source failed behind it
abbrev pub HasRead : End → Option (List ℕ) → Option (List ℕ) → List ℕ → Type 0
HasRead Whole old new text = Consumes old new text × IsAtEnd new
HasRead TooLong old new text =
    (length text ≡ SCRIPT_LIMIT) × ((more : List ℕ) × (0 < length more) × Consumes old new (text ++ more))
HasRead Failed old new text = Consumes old new text

-- the count rose where the source failed, and else is the same
abbrev pub BlamesEnd : ℕ → ℕ → End → Type 0
BlamesEnd before after Failed = Rose before after
BlamesEnd before after _ = after ≡ before

abbrev pub Blames : Result End NoMemory → ℕ → ℕ → Type 0
Blames r before after = MatchResult r (BlamesEnd before after) (λ _. after ≡ before)

abbrev pub is_whole : End → Bool
is_whole Whole = true
is_whole TooLong = false
is_whole Failed = false
