-- What is played is lawful: where readers do what their own definitions say, each trace is a lawful one of its lines.
use Rattle.std.specs.Prelude.{◌≡◌, ◌⊎◌, ℕ, List, [], ◌∷◌, ◌++◌, None}
use Rattle.atspi_script_lines.specs.declared.line.Line.{Line}
use Rattle.atspi_script_lines.specs.declared.line.Party.TheVariants.{Registry}
use Rattle.atspi_trace.specs.Entry.{Entry, dropped}
use Rattle.atspi_trace.specs.Work as work
use Rattle.atspi_trace.specs.Work.{work_of}
use Rattle.atspi_trace.specs.Due.{Lawful, Begun}
use Rattle.atspi_trace_laws.specs.order.Scripts.{CanStand, CanAllStand}
use Rattle.atspi_trace.specs.play.Playing.{Playing}
use Rattle.atspi_trace.specs.play.Played.{refused, IsPlayed}
use Rattle.atspi_trace.specs.play.Breaking.{IsLostAt, IsSpentAt}

-- WHAT IS PLAYED IS LAWFUL: each own call may be sent where it is, each line is spoken that is due and no other, each
-- row shown is due, and at quiet each reader that is here holds each application that is here as it is now, with every
-- part known
abbrev pub PlayedIsLawful : Type 0
PlayedIsLawful = (lines : List Line) (es : List Entry) (p : Playing) → CanAllStand lines → IsPlayed lines es p
    → Lawful lines es

-- and a line is refused by a reader's own view just where a lawful trace refuses it
abbrev pub RefusalsAgree : Type 0
RefusalsAgree = (lines : List Line) (es : List Entry) (p : Playing) (line : Line) → CanAllStand lines
    → IsPlayed lines es p → CanStand line → refused p line ≡ work.refused p.world line

-- and where a line is broken off, since the registry is dropped or serials are spent, what was written is the front of
-- a lawful trace
abbrev pub BrokenOffIsBegun : Type 0
BrokenOffIsBegun =
    (lines : List Line) (es : List Entry) (p : Playing) (line : Line) (more : List Entry)
    → CanAllStand (lines ++ line ∷ []) → IsPlayed lines es p → refused p line ≡ None
    → (IsLostAt p (work_of p.world line) more ⊎ IsSpentAt p (work_of p.world line) more)
    → Begun (lines ++ line ∷ []) (es ++ more)

-- the registry's drop is the last that is written then
abbrev pub LostIsDropped : Type 0
LostIsDropped =
    (lines : List Line) (es : List Entry) (p : Playing) (line : Line) (more : List Entry)
    → CanAllStand (lines ++ line ∷ []) → IsPlayed lines es p → refused p line ≡ None
    → IsLostAt p (work_of p.world line) more
    → (front : List Entry) × (queued : ℕ) × (len : ℕ) × (more ≡ front ++ dropped Registry queued len ∷ [])
