-- What is done of a line's work so far, and turns, as far as they were made.
use Rattle.std.specs.Prelude.{◌≡◌, ℕ, Bool, true, false, List, ◌++◌, None, IsSome}
use Rattle.atspi_trace.specs.Entry.{Entry, entries_of}
use Rattle.atspi_trace.specs.Work.{Work, turning, next_turn}
use Rattle.atspi_trace.specs.play.Breaking.{PlaysOn}
use Rattle.atspi_trace.specs.play.Playing.{Playing}
use Rattle.atspi_trace.specs.play.Played.{PlaysOut}
use Rattle.atspi_world.specs.Worlds.{Staged, IsPlaying}

-- a part of some work was done, and this is left: what was written so far, and what completes it
pub record PartDone (p : Playing) (work left : Work) (old new : Staged) : Type 0 where
  pub now : Playing
  pub entries : List Entry
  pub is : IsPlaying now new
  pub wrote : entries_of new.trace ≡ entries_of old.trace ++ entries
  pub on : PlaysOn p work entries now left
  pub completes : (es : List Entry) (q : Playing) → PlaysOut now left es q → PlaysOut p work (entries ++ es) q

-- so many turns of so many are left
abbrev pub Turned : Playing → ℕ → ℕ → ℕ → Staged → Staged → Type 0
Turned p count most left old new = PartDone p (turning count most) (turning count left) old new

-- whether something waits behind so many turns at most: all were made and something does, or some and nothing does
abbrev pub TurnsMade : Playing → ℕ → ℕ → Bool → Staged → Staged → Type 0
TurnsMade p count most true old new = (t : Turned p count most 0 old new) × IsSome (next_turn t.now.world)
TurnsMade p count most false old new = (left : ℕ) × (t : Turned p count most left old new)
    × (next_turn t.now.world ≡ None)
