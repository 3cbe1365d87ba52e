-- Turns that were made, of so many; and turns until nothing waits.
use Rattle.std.proofs.Common.{◌≡◌, ℕ, zero, suc, ◌+◌, ◌<◌, ◌≤◌, Bool, true, false, List, [], ◌∷◌, ◌++◌, length, Option, None, Some, refl, sym, ap, ◌∙◌, subst, arith}
use Rattle.std.specs.Prelude.{IsSome, is_some}
use Rattle.atspi_trace_events.specs.declared.event.Event.{Event}
use Rattle.atspi_trace_events.specs.declared.event.Event.TheVariants.{Busy, Quiet}
use Rattle.atspi_tree_model.specs.Forest.{first_of}
use Rattle.atspi_trace.specs.World.{World}
use Rattle.atspi_trace.specs.Causes.{Cause, tells_busy, tells_quiet}
use Rattle.atspi_trace.specs.Work.{next_turn, turning, draining, resting, next_of_turns, next_of_drain}
use Rattle.atspi_world_moves.specs.Waits as waits
use Rattle.atspi_world_moves.specs.inner.Waits.{turn_of, turn_next}
use Rattle.atspi_world_moves.specs.declared.waiting.Turn.{Turn}
use Rattle.atspi_world_moves.proofs.Turning.{turns_agree}
use Rattle.atspi_trace.specs.play.Playing.{Playing}
use Rattle.atspi_trace.specs.play.Plays.{plays}
use Rattle.atspi_world.specs.Lines.{IsSegment}
use Rattle.atspi_world.specs.inner.Turns.{PartDone, Turned, TurnsMade}
use Rattle.atspi_world.specs.Worlds.{Staged, IsPlaying, Happens}
use Rattle.atspi_world.proofs.Parts.{none_done, one_done, all_done, noted}
use Rattle.atspi_world.proofs.Turns.{turn_some}

-- what the code found is the next turn of the world
abbrev pub Finds : Option Turn → Staged → Type 0
Finds o s = (p : Playing) → IsPlaying p s → o ≡ turn_next (next_turn p.world)

pub finds_so : (o : Option Turn) (s : Staged) → (length s.posts ≤ 4294967296 → o ≡ first_of (waits.first_up 0 s.posts) (waits.first_down s.bus s.given 0 s.posts)) → Finds o s
finds_so o s found = λ p playing. found playing.is.carried.few ∙ turns_agree p.world s.bus s.posts s.given playing.is.carried playing.is.linked

pub finds_as : (o found : Option Turn) (s : Staged) → found ≡ o → (length s.posts ≤ 4294967296 → found ≡ first_of (waits.first_up 0 s.posts) (waits.first_down s.bus s.given 0 s.posts)) → Finds o s
finds_as o found s is finds = subst (λ x. Finds x s) is (finds_so found s finds)

-- and it does it
abbrev pub Does : Turn → Staged → Staged → Type 0
Does turn old new = (p : Playing) (c : Cause) → IsPlaying p old → next_turn p.world ≡ Some c → turn_of c ≡ Some turn → Happens (plays p c) old new

-- where it found none, nothing waits
pub none_waits : (w : World) → None ≡ turn_next (next_turn w) → next_turn w ≡ None
none_waits w h = by (next_turn w) refl h
  where
    no : IsSome (turn_next None) → ⊥
    no h = cc

    by : (o : Option Cause) → next_turn w ≡ o → None ≡ turn_next o → o ≡ None
    by None is found = refl
    by (Some c) is found = let some : IsSome (turn_of c) = turn_some w c is in absurd (no (subst IsSome (sym found) some))

some_waits : (w : World) (turn : Turn) → Some turn ≡ turn_next (next_turn w) → IsSome (next_turn w)
some_waits w turn h = by (next_turn w) h
  where
    by : (o : Option Cause) → Some turn ≡ turn_next o → IsSome o
    by None found = absurd cc
    by (Some c) found = refl

-- SO MANY TURNS: those made and those left are all
abbrev pub SoFar : Playing → ℕ → ℕ → ℕ → Staged → Staged → Type 0
SoFar p count most made old new = (left : ℕ) × ((left + made ≡ most) × Turned p count most left old new)

pub turned_none : (p : Playing) (count most : ℕ) (s : Staged) → IsPlaying p s → SoFar p count most 0 s s
turned_none p count most s is = (most, ((omega arith), none_done p (turning count most) s is))

pub turned_more : (p : Playing) (count most made : ℕ) (old mid new : Staged) (turn : Turn) → SoFar p count most made old mid → made < most → Finds (Some turn) mid → Does turn mid new → SoFar p count most (made + 1) old new
turned_more p count most made old mid new turn (zero, s) few finds does_ = (let sum = s.0 in absurd (omega (arith, sum, few)))
turned_more p count most made old mid new turn (suc left, s) few finds does_ = (left, ((let sum = s.0 in omega (arith, sum)), by (next_turn t.now.world) refl (finds t.now t.is)))
  where
    t : Turned p count most (suc left) old mid
    t = s.1

    by : (o : Option Cause) → next_turn t.now.world ≡ o → Some turn ≡ turn_next o → Turned p count most left old new
    by None is found = absurd cc
    by (Some c) is found =
        one_done p (turning count most) (turning count (suc left)) (turning count left) c old mid new t (ap (next_of_turns t.now.world count (suc left)) is) (does_ t.now c t.is is (sym found))

pub made_some : (p : Playing) (count most made : ℕ) (old new : Staged) → SoFar p count most made old new → Finds None new → TurnsMade p count most false old new
made_some p count most made old new (left, s) finds = (left, s.1, none_waits s.1.now.world (finds s.1.now s.1.is))

pub made_all : (p : Playing) (count most made : ℕ) (old new : Staged) (o : Option Turn) → SoFar p count most made old new → most ≤ made → Finds o new → TurnsMade p count most (is_some o) old new
made_all p count most made old new None s all finds = made_some p count most made old new s finds
made_all p count most made old new (Some turn) (left, s) all finds =
    let none : left ≡ 0 = (let sum = s.0 in omega (arith, sum, all)) in
    let t : Turned p count most 0 old new = subst (λ n. Turned p count most n old new) none s.1 in
    (t, some_waits t.now.world turn (finds t.now t.is))

pub made_as : (p : Playing) (count most : ℕ) (more more' : Bool) (old new : Staged) → more ≡ more' → TurnsMade p count most more old new → TurnsMade p count most more' old new
made_as p count most more more' old new is t = subst (λ b. TurnsMade p count most b old new) is t

-- behind the last, that something waits is told
pub busy_told : (p : Playing) (count most : ℕ) (old mid : Staged) (trace : List Event) → TurnsMade p count most true old mid → trace ≡ mid.trace ++ Busy count ∷ [] → IsSegment p (turning count most) old (record mid { trace = trace })
busy_told p count most old mid trace (t, some) told = by (next_turn t.now.world) refl some
  where
    by : (o : Option Cause) → next_turn t.now.world ≡ o → IsSome o → IsSegment p (turning count most) old (record mid { trace = trace })
    by None is h = absurd cc
    by (Some c) is h =
        let said = noted t.now mid trace (tells_busy count) (Busy count) refl told t.is in
        let one = one_done p (turning count most) (turning count 0) resting (tells_busy count) old mid (record mid { trace = trace }) t (ap (next_of_turns t.now.world count 0) is) said in
        all_done p (turning count most) resting one.now.world old (record mid { trace = trace }) (record mid { trace = trace }) one refl one.is refl

pub none_told : (p : Playing) (count most : ℕ) (old new : Staged) → TurnsMade p count most false old new → IsSegment p (turning count most) old new
none_told p count most old new (left, t, none) = all_done p (turning count most) (turning count left) t.now.world old new new t (ap (next_of_turns t.now.world count left) none) t.is refl

-- TURNS UNTIL NOTHING WAITS, which is told
pub drained_more : (p : Playing) (old mid new : Staged) (turn : Turn) → PartDone p draining draining old mid → Finds (Some turn) mid → Does turn mid new → PartDone p draining draining old new
drained_more p old mid new turn t finds does_ = by (next_turn t.now.world) refl (finds t.now t.is)
  where
    by : (o : Option Cause) → next_turn t.now.world ≡ o → Some turn ≡ turn_next o → PartDone p draining draining old new
    by None is found = absurd cc
    by (Some c) is found = one_done p draining draining draining c old mid new t (ap (next_of_drain t.now.world) is) (does_ t.now c t.is is (sym found))

pub quiet_told : (p : Playing) (old mid : Staged) (trace : List Event) → PartDone p draining draining old mid → Finds None mid → trace ≡ mid.trace ++ Quiet ∷ [] → IsSegment p draining old (record mid { trace = trace })
quiet_told p old mid trace t finds told =
    let none : next_turn t.now.world ≡ None = none_waits t.now.world (finds t.now t.is) in
    let said = noted t.now mid trace tells_quiet Quiet refl told t.is in
    let one = one_done p draining draining resting tells_quiet old mid (record mid { trace = trace }) t (ap (next_of_drain t.now.world) none) said in
    all_done p draining resting one.now.world old (record mid { trace = trace }) (record mid { trace = trace }) one refl one.is refl
