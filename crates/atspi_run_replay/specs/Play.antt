-- What playing lines writes.
use Rattle.std.specs.Prelude.{◌≡◌, ◌⊎◌, ℕ, suc, List, ◌∷◌, ◌++◌, length, Option}
use Rattle.std.specs.Io.KnownBytes.{Appends}
use Rattle.atspi_base.specs.Outside.{AppendsPart}
use Rattle.atspi_trace_texts.specs.declared.options.TraceOptions.{TraceOptions}
use Rattle.atspi_run_replay.specs.declared.naming.Halt.{Halt}
use Rattle.atspi_run_replay.specs.declared.naming.Refused as refused
use Rattle.atspi_run_replay.specs.Names.{refused_text}
use Rattle.atspi_run_replay.specs.Told.{Told, told_text}
use Rattle.atspi_run_replay.specs.Done.{IsHaltedBehind, IsLawfulOf, IsRefusedBehind, Upto}

-- the text of a lawful trace of the first of the lines
pub record DoneText (options : TraceOptions) (lines : List (List ℕ)) (text : List ℕ) : Type 0 where
  pub rest : List (List ℕ)
  pub told : List Told
  pub upto : Upto lines rest told
  pub are : text ≡ told_text options told

-- the same, and behind it what the next line wrote up to where the world came to its end
pub record HaltedText (options : TraceOptions) (why : Halt) (lines : List (List ℕ)) (text : List ℕ) : Type 0 where
  pub line : List ℕ
  pub rest : List (List ℕ)
  pub told : List Told
  pub more : List Told
  pub upto : Upto lines (line ∷ rest) told
  pub halted : IsHaltedBehind upto.lawful.lines told more upto.lawful.now line why
  pub are : text ≡ told_text options (told ++ more)

-- the same, and behind it the refusal of the next line
pub record RefusedText (options : TraceOptions) (lines : List (List ℕ)) (text : List ℕ) : Type 0 where
  pub line : List ℕ
  pub rest : List (List ℕ)
  pub told : List Told
  pub why : refused.Refused
  pub upto : Upto lines (line ∷ rest) told
  pub refused : IsRefusedBehind upto.lawful.lines told line why
  pub are : text ≡ told_text options told ++ refused_text (suc (length upto.done)) why

-- THE TEXT OF A LAWFUL TRACE OF ALL THE LINES WAS WRITTEN
abbrev pub Played : TraceOptions → List (List ℕ) → Option (List ℕ) → Option (List ℕ) → Type 0
Played options lines old new = (told : List Told) × IsLawfulOf lines told × Appends old new (told_text options told)

-- that of the lines before the first that is refused, and the refusal
abbrev pub PlayedRefused : TraceOptions → List (List ℕ) → Option (List ℕ) → Option (List ℕ) → Type 0
PlayedRefused options lines old new = (text : List ℕ) × RefusedText options lines text × Appends old new text

-- that of the lines before the one at which the world came to its end, and what that one wrote
abbrev pub PlayedHalted : TraceOptions → Halt → List (List ℕ) → Option (List ℕ) → Option (List ℕ) → Type 0
PlayedHalted options why lines old new = (text : List ℕ) × HaltedText options why lines text × Appends old new text

-- a part of such a text
abbrev pub PlayedPart : TraceOptions → List (List ℕ) → Option (List ℕ) → Option (List ℕ) → Type 0
PlayedPart options lines old new = (text : List ℕ)
    × (DoneText options lines text
    ⊎ (((why : Halt) × HaltedText options why lines text) ⊎ RefusedText options lines text))
    × AppendsPart old new text
