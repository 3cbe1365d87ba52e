-- What was read of a source, and the lines of it that are still to come.
use Rattle.std.specs.Prelude.{◌≡◌, ℕ, ◌<◌, ◌+◌, List, ◌++◌, length, drop, Option}
use Rattle.std.specs.Io.KnownBytes.{Consumes, IsAtEnd}
use Rattle.atspi_base.specs.Outside.{Rose}
use Rattle.atspi_live_app.specs.Lines.{lines_of}
use Rattle.atspi_live_app.specs.declared.input.TheConstants.{INPUT_LIMIT}
use Rattle.atspi_live_app.specs.declared.input.End.{End}
use Rattle.atspi_live_app.specs.declared.input.End.TheVariants.{Whole, TooLong, Failed}

-- the text was read; and nothing is left, or it has the limit's length and more came, or the source failed behind it
abbrev pub HasRead : End → Option (List ℕ) → Option (List ℕ) → List ℕ → Type 0
HasRead Whole old new text = Consumes old new text × IsAtEnd new
HasRead TooLong old new text =
    (length text ≡ INPUT_LIMIT) × ((more : List ℕ) × (0 < length more) × Consumes old new (text ++ more))
HasRead Failed old new text = Consumes old new text

-- the count rose where the source failed, and else is the same
abbrev pub BlamesEnd : ℕ → ℕ → End → Type 0
BlamesEnd before after Failed = Rose before after
BlamesEnd before after _ = after ≡ before

-- the lines of a text that are still to come
abbrev pub left_in : List ℕ → ℕ → List (List ℕ)
left_in text at = lines_of (drop at text)
