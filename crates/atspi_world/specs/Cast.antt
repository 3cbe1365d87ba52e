-- The ends that the code has are those of a world of the definitions.
use Rattle.std.specs.Prelude.{◌≡◌, ◌⊎◌, ℕ, List, [], ◌++◌, Some, slice_get}
use Rattle.atspi_script_lines.specs.declared.line.Party.{Party}
use Rattle.atspi_protocol.specs.exporting.Exporter.{Exporter}
use Rattle.atspi_protocol.specs.declared.following.question.Question.{Question}
use Rattle.atspi_protocol.specs.following.ReaderState.{ReaderState, start_calls}
use Rattle.atspi_trace.specs.World.{Hearer, Role, an_application, a_reader, End}
use Rattle.atspi_trace.specs.Ends.{end_of}

-- an application plays a role: it is that of the definitions, and has queued nothing
pub record IsApp (s : Exporter) (role : Role) : Type 0 where
  pub role_is : role ≡ an_application s
  pub quiet : s.out ≡ []

-- the calls of a reader's start that are to come: the last of all of them, or none
abbrev pub IsLeftOfStart : List Question → Type 0
IsLeftOfStart to_come = ((early : List Question) × (early ++ to_come ≡ start_calls)) ⊎ (to_come ≡ [])

-- a reader does: its next message has the number that it has there, and it has queued nothing
pub record IsReader (s : ReaderState) (role : Role) : Type 0 where
  pub hearer : Hearer
  pub role_is : role ≡ a_reader hearer
  pub next : s.next ≡ hearer.next
  pub quiet : s.out ≡ []
  pub left : IsLeftOfStart s.to_come

-- the one with a number plays a role
pub record IsPlayed {X : Type 0} (Plays : X → Role → Type 0) (players : List X) (number : ℕ) (role : Role)
    : Type 0 where
  pub player : X
  pub there : slice_get players number ≡ Some player
  pub plays : Plays player role

-- each end of a kind is played by the one with its number
abbrev pub ArePlayed : {X : Type 0} → (ℕ → Party) → (X → Role → Type 0) → List X → List End → Type 0
ArePlayed kind Plays players ends = (number : ℕ) (e : End) → end_of ends (kind number) ≡ Some e
    → IsPlayed Plays players number e.role
