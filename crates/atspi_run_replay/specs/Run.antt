-- What `replay` does, by its status.
use Rattle.std.specs.Prelude.{◌≡◌, ◌⊎◌, ℕ, ◌<◌, ◌≤◌, List, ◌++◌, length, take, Bool, Option, Some, IfSome, true}
use Rattle.std.specs.Io.KnownBytes.{Consumes, IsAtEnd}
use Rattle.atspi_run_replay.specs.Lines.{lines_read, lines_of, whole_lines}
use Rattle.atspi_trace_texts.specs.declared.options.TraceOptions.{TraceOptions}
use Rattle.atspi_run_replay.specs.declared.naming.Halt.{Halt}
use Rattle.atspi_run_replay.specs.declared.naming.Halt.TheVariants.{RegistryLost, Spent}
use Rattle.atspi_run_replay.specs.Play.{Played, PlayedHalted, PlayedPart, PlayedRefused}

-- the text is what was read of the input: all of it, or its front; no more than the limit
pub record WasRead (limit : ℕ) (ended : Bool) (input text : List ℕ) : Type 0 where
  pub rest : List ℕ
  pub front : input ≡ text ++ rest
  pub whole : ended ≡ true → input ≡ text
  pub within : length text ≤ limit

-- P holds of the lines of some reading of the input
abbrev pub OfReading : ℕ → Option (List ℕ) → (List (List ℕ) → Type 0) → Type 0
OfReading limit left P =
    IfSome left (λ input. (ended : Bool) × (text : List ℕ) × WasRead limit ended input text × P (lines_read ended text))

-- the input is inside the limit, and P holds of all its lines
abbrev pub OfAll : ℕ → Option (List ℕ) → (List (List ℕ) → Type 0) → Type 0
OfAll limit left P = IfSome left (λ input. (length input ≤ limit) × P (lines_of input))

-- P holds of the whole lines of what was taken of the input, which is inside the limit; the rest is left
abbrev pub OfFront : ℕ → Option (List ℕ) → Option (List ℕ) → (List (List ℕ) → Type 0) → Type 0
OfFront limit left left' P =
    IfSome left (λ input. (text : List ℕ) × (length text ≤ limit) × Consumes (Some input) left' text
    × P (whole_lines text))

-- the input passes the limit, and P holds of the whole lines inside it
abbrev pub OfLimit : ℕ → Option (List ℕ) → (List (List ℕ) → Type 0) → Type 0
OfLimit limit left P = IfSome left (λ input. (limit < length input) × P (whole_lines (take limit input)))

-- the statuses of `replay`
abbrev pub IsReplayStatus : ℕ → Type 0
IsReplayStatus status =
    (status ≡ 0)
    ⊎ ((status ≡ 1)
    ⊎ ((status ≡ 3) ⊎ ((status ≡ 4) ⊎ ((status ≡ 5) ⊎ ((status ≡ 8) ⊎ ((status ≡ 9) ⊎ (status ≡ 13)))))))

-- WHAT A RUN OVER THE LINES OF AN INPUT DOES, by its status, where all lines were done, one was refused, the world came
-- to its end at one, or a front of what some lines write was written. The source had `left` and has `left'` now. 0: the
-- source was read to its end, and all its lines were done. 1: a line of what was read is refused, and those before it
-- were done. 3: the whole lines of what was taken of the source were done. 8: those inside the limit. 9: the registry
-- was dropped at a line of what was read. 13: serials were spent at one. 4 and 5: a front of what some lines write was
-- written. What was read is inside the limit, with any status.
pub record RunOver (Does Refuses Writes : List (List ℕ) → Type 0) (Halts : Halt → List (List ℕ) → Type 0)
    (limit status : ℕ) (left left' : Option (List ℕ)) : Type 0 where
  pub known : IsReplayStatus status
  pub ended : status ≡ 0 → IsAtEnd left'
  pub done : status ≡ 0 → OfAll limit left Does
  pub refused : status ≡ 1 → OfReading limit left Refuses
  pub read : status ≡ 3 → OfFront limit left left' Does
  pub past : status ≡ 8 → OfLimit limit left Does
  pub lost : status ≡ 9 → OfReading limit left (Halts RegistryLost)
  pub spent : status ≡ 13 → OfReading limit left (Halts Spent)
  pub write : status ≡ 4 → OfReading limit left Writes
  pub memory : status ≡ 5 → OfReading limit left Writes

-- What `replay` does, by its status: `w` was written before, and `w'` is now.
abbrev pub Replayed : TraceOptions → ℕ → ℕ → Option (List ℕ) → Option (List ℕ) → Option (List ℕ) → Option (List ℕ)
    → Type 0
Replayed options limit status left left' w w' =
    RunOver (λ lines. Played options lines w w') (λ lines. PlayedRefused options lines w w')
    (λ lines. PlayedPart options lines w w') (λ why lines. PlayedHalted options why lines w w') limit status left left'
