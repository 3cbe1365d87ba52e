-- Turns that are broken off: the registry is dropped, or serials are spent, by the turn that is made then.
use Rattle.std.proofs.Common.{◌≡◌, ℕ, zero, suc, ◌+◌, ◌<◌, List, [], ◌++◌, Option, None, Some, refl, sym, ap, ◌∙◌, subst, append-nil, append_assoc, arith}
use Rattle.atspi_trace.specs.Entry.{Entry, entries_of}
use Rattle.atspi_trace.specs.Causes.{Cause}
use Rattle.atspi_trace.specs.Work.{Work, cause, next_of, next_turn, turning, draining, next_of_turns, next_of_drain}
use Rattle.atspi_world_moves.specs.inner.Waits.{turn_of, turn_next}
use Rattle.atspi_world_moves.specs.declared.waiting.Turn.{Turn}
use Rattle.atspi_trace.specs.play.Breaking.{PlayedTurns}
use Rattle.atspi_trace.specs.play.Playing.{Playing, Happened}
use Rattle.atspi_trace.specs.play.Plays.{plays}
use Rattle.atspi_world.specs.Halts.{ManyTurns}
use Rattle.atspi_world.specs.inner.Turns.{PartDone, Turned}
use Rattle.atspi_world.specs.Worlds.{Staged, IsPlaying}
use Rattle.atspi_world.proofs.Onward.{turned_on}
use Rattle.atspi_world.proofs.TurnsMade.{Finds, Does, SoFar}

-- a turn breaks off so
abbrev pub Breaks : (Happened → Staged → Staged → Type 0) → Turn → Staged → Staged → Type 0
Breaks By turn old new = (p : Playing) (c : Cause) → IsPlaying p old → next_turn p.world ≡ Some c → turn_of c ≡ Some turn → By (plays p c) old new

-- and so does the work
abbrev pub Breaking : (Happened → Staged → Staged → Type 0) → (Playing → Work → Staged → Staged → Type 0) → Type 0
Breaking By Broken = (p : Playing) (work left next : Work) (c : Cause) (old mid new : Staged) (t : PartDone p work left old mid) → next_of t.now.world left ≡ cause c t.now.world next → By (plays t.now c) mid new
    → Broken p work old new

module _ (By : Happened → Staged → Staged → Type 0) (Broken : Playing → Work → Staged → Staged → Type 0) (breaks : Breaking By Broken) where
  pub turned_broken : (p : Playing) (count most made : ℕ) (old mid new : Staged) (turn : Turn) → SoFar p count most made old mid → made < most → Finds (Some turn) mid → Breaks By turn mid new
      → Broken p (turning count most) old new
  turned_broken p count most made old mid new turn (zero, s) few finds broken = (let sum = s.0 in absurd (omega (arith, sum, few)))
  turned_broken p count most made old mid new turn (suc left, s) few finds broken = by (next_turn t.now.world) refl (finds t.now t.is)
    where
      t : Turned p count most (suc left) old mid
      t = s.1

      by : (o : Option Cause) → next_turn t.now.world ≡ o → Some turn ≡ turn_next o → Broken p (turning count most) old new
      by None is found = absurd cc
      by (Some c) is found =
          breaks p (turning count most) (turning count (suc left)) (turning count left) c old mid new t (ap (next_of_turns t.now.world count (suc left)) is) (broken t.now c t.is is (sym found))

  pub drained_broken : (p : Playing) (old mid new : Staged) (turn : Turn) → PartDone p draining draining old mid → Finds (Some turn) mid → Breaks By turn mid new → Broken p draining old new
  drained_broken p old mid new turn t finds broken = by (next_turn t.now.world) refl (finds t.now t.is)
    where
      by : (o : Option Cause) → next_turn t.now.world ≡ o → Some turn ≡ turn_next o → Broken p draining old new
      by None is found = absurd cc
      by (Some c) is found = breaks p draining draining draining c old mid new t (ap (next_of_drain t.now.world) is) (broken t.now c t.is is (sym found))

-- SO MANY TURNS, one behind the other
pub record AreMade (count : ℕ) (p : Playing) (old now : Staged) : Type 0 where
  pub entries : List Entry
  pub after : Playing
  pub made : PlayedTurns count p entries after
  pub is : IsPlaying after now
  pub wrote : entries_of now.trace ≡ entries_of old.trace ++ entries

pub none_made : (p : Playing) (s : Staged) → IsPlaying p s → AreMade 0 p s s
none_made p s is = record { entries = []; after = p; made = (refl, refl); is = is; wrote = sym (append-nil (entries_of s.trace)) }

pub one_made : (made : ℕ) (p : Playing) (old mid new : Staged) (turn : Turn) → AreMade made p old mid → Finds (Some turn) mid → Does turn mid new → AreMade (made + 1) p old new
one_made made p old mid new turn t finds does_ = by (next_turn t.after.world) refl (finds t.after t.is)
  where
    more : made + 1 ≡ suc made
    more = omega arith

    by : (o : Option Cause) → next_turn t.after.world ≡ o → Some turn ≡ turn_next o → AreMade (made + 1) p old new
    by None is found = absurd cc
    by (Some c) is found =
        let h = plays t.after c in
        let done = does_ t.after c t.is is (sym found) in
        record {
          entries = t.entries ++ h.entries;
          after = h.now;
          made = subst (λ n. PlayedTurns n p (t.entries ++ h.entries) h.now) (sym more) (turned_on made p t.after c t.entries t.made is);
          is = done.is;
          wrote = done.wrote ∙ ap (λ l. l ++ h.entries) t.wrote ∙ append_assoc (entries_of old.trace) t.entries h.entries;
        }

pub many_made : (made : ℕ) (p : Playing) (old now : Staged) → made ≡ 4398046511104 → AreMade made p old now → ManyTurns p old now
many_made made p old now all t = (t.entries, t.after, subst (λ n. PlayedTurns n p t.entries t.after) all t.made, t.is.is.lives, t.wrote)
