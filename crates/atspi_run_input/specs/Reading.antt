-- What was read of a source, and what holds of the lines of an input by how its reading ended.
use Rattle.std.specs.Prelude.{◌≡◌, ℕ, ◌<◌, ◌≤◌, List, ◌++◌, length, take, Bool, true, false, Option, Some, IfSome}
use Rattle.std.specs.Prelude.{Result, MatchResult}
use Rattle.std.specs.Io.KnownBytes.{Consumes, IsAtEnd}
use Rattle.atspi_base.specs.Outside.{Rose}
use Rattle.atspi_base.specs.declared.outside.NoMemory.{NoMemory}
use Rattle.atspi_run_input.specs.Lines.{lines_read, lines_of, whole_lines}
use Rattle.atspi_run_input.specs.declared.input.TheConstants.{INPUT_LIMIT}
use Rattle.atspi_run_input.specs.declared.input.End.{End}
use Rattle.atspi_run_input.specs.declared.input.End.TheVariants.{Whole, TooLong, Failed}

-- the text was read; and nothing is left, or it has the limit's length and more came, or the source failed behind it
abbrev pub HasRead : End → Option (List ℕ) → Option (List ℕ) → List ℕ → Type 0
HasRead Whole old new text = Consumes old new text × IsAtEnd new
HasRead TooLong old new text =
    (length text ≡ INPUT_LIMIT) × ((more : List ℕ) × (0 < length more) × Consumes old new (text ++ more))
HasRead Failed old new text = Consumes old new text

-- the count rose where the source failed, and else is the same
abbrev pub BlamesEnd : ℕ → ℕ → End → Type 0
BlamesEnd before after Failed = Rose before after
BlamesEnd before after _ = after ≡ before

abbrev pub Blames : Result End NoMemory → ℕ → ℕ → Type 0
Blames r before after = MatchResult r (BlamesEnd before after) (λ _. after ≡ before)

abbrev pub is_whole : End → Bool
is_whole Whole = true
is_whole TooLong = false
is_whole Failed = false

-- the status where all lines were done, by how the reading ended
abbrev pub end_status : End → ℕ
end_status Whole = 0
end_status TooLong = 8
end_status Failed = 3

-- the text is what was read of the input: all of it, or its front; no more than the limit
pub record WasRead (limit : ℕ) (ended : Bool) (input text : List ℕ) : Type 0 where
  pub rest : List ℕ
  pub front : input ≡ text ++ rest
  pub whole : ended ≡ true → input ≡ text
  pub within : length text ≤ limit

-- P holds of the lines of some reading of the input
abbrev pub OfReading : ℕ → Option (List ℕ) → (List (List ℕ) → Type 0) → Type 0
OfReading limit left P =
    IfSome left (λ input. (ended : Bool) × (text : List ℕ) × WasRead limit ended input text × P (lines_read ended text))

-- the input is inside the limit, and P holds of all its lines
abbrev pub OfAll : ℕ → Option (List ℕ) → (List (List ℕ) → Type 0) → Type 0
OfAll limit left P = IfSome left (λ input. (length input ≤ limit) × P (lines_of input))

-- P holds of the whole lines of what was taken of the input, which is inside the limit; the rest is left
abbrev pub OfFront : ℕ → Option (List ℕ) → Option (List ℕ) → (List (List ℕ) → Type 0) → Type 0
OfFront limit left left' P =
    IfSome left (λ input. (text : List ℕ) × (length text ≤ limit) × Consumes (Some input) left' text
    × P (whole_lines text))

-- the input passes the limit, and P holds of the whole lines inside it
abbrev pub OfLimit : ℕ → Option (List ℕ) → (List (List ℕ) → Type 0) → Type 0
OfLimit limit left P = IfSome left (λ input. (limit < length input) × P (whole_lines (take limit input)))
