use Rattle.std.proofs.Common.{◌≡◌, [], ◌∷◌, ◌++◌, refl, sym, subst, inl, inr, lit≤}
use Rattle.std.specs.Prelude.{ℕ, List, true}
use Rattle.atspi_live_host.specs.Calls.{IsOpen, taken}
use Rattle.atspi_live_host.specs.declared.call.Did.TheVariants.{Done, End}
use Rattle.atspi_live_host.specs.declared.call.Call.{Call}
use Rattle.atspi_live_host.specs.declared.call.Call.TheVariants.{Close, Read}
use Rattle.atspi_live_bus.specs.Rounds.{IsHeard}
use Rattle.atspi_live_bus.specs.inner.Seats.{left, numbers_of}
use Rattle.atspi_live_bus.proofs.Worked.{by_message, not_none}
use Rattle.atspi_live_bus_examples.proofs.Facts.{few_read, its_read, three_not_open}
use Rattle.atspi_live_bus_examples.proofs.Linked.{no_seat}
use Rattle.atspi_live_bus_examples.proofs.Seated.{hands_nothing, on_both, seated_first, stopped_there, without_first, without_second}
use Rattle.atspi_live_bus_examples.proofs.turning.turns_of_seated.Goals as goal

pub returns-clause-heard : goal.returns-clause-heard
returns-clause-heard c l m x y past bytes rest e d s connected steps is few on its waits = (
  without_second l m (Read 3 bytes (Done 7) ∷ Close 5 ∷ []) s refl,
  on_both (λ (ks : List ℕ). IsHeard true x past ks 3 0 (Read 3 bytes (Done 7) ∷ Close 5 ∷ []) y) l m s
      (bytes, Done 7, Close 5 ∷ [], few, by_message x y e d (taken 3 (past ++ Read 3 bytes (Done 7) ∷ [])) rest 7 connected steps is on its waits, refl),
)

pub returns-clause-closes_another : goal.returns-clause-closes_another
returns-clause-closes_another c l m x y past bytes rest e d s connected steps is few on its waits all = (
  without_second l m (Read 3 bytes (Done 7) ∷ Close 5 ∷ []) s refl,
  0,
  seated_first x.conn connected,
  (
    y,
    Read 3 bytes (Done 7) ∷ Close 5 ∷ [],
    [],
    (returns-clause-heard c l m x y past bytes rest e d s connected steps is few on its waits).1,
    inr (inl (subst (λ (ss : List (ℕ × ℕ)). IsOpen 3 (numbers_of (left ss (Read 3 bytes (Done 7) ∷ Close 5 ∷ [])))) (sym s) (inl refl), hands_nothing y, all, refl)),
    refl,
  ),
)

pub returns-clause-ended : goal.returns-clause-ended
returns-clause-ended c l m x y past s connected parts = (
  without_first l m (Read 3 [] End ∷ Close 3 ∷ []) s refl,
  0,
  seated_first x.conn connected,
  (
    y,
    Read 3 [] End ∷ Close 3 ∷ [],
    [],
    on_both (λ (ks : List ℕ). IsHeard true x past ks 3 0 (Read 3 [] End ∷ Close 3 ∷ []) y) l m s ([], End, Close 3 ∷ [], lit≤ tt, inl (inl refl, parts), refl),
    inl ((λ o. three_not_open (subst (λ (ss : List (ℕ × ℕ)). IsOpen 3 (numbers_of (left ss (Read 3 [] End ∷ Close 3 ∷ [])))) s o)), refl, refl),
    refl,
  ),
)

pub returns-clause-not_left : goal.returns-clause-not_left
returns-clause-not_left c l x y past h = no_seat (l.number, l.conn) [] (sym h.0)

pub returns-clause-more_heard : goal.returns-clause-more_heard
returns-clause-more_heard c l x y past closes bytes did many h = few_read closes h.1.2 bytes h.1.0 did h.1.1 many h.1.3 h.1.5

pub returns-clause-of_another : goal.returns-clause-of_another
returns-clause-of_another c l x y past closes bytes did h = its_read closes h.1.2 bytes h.1.0 did h.1.1 h.1.5

pub returns-clause-no_read : goal.returns-clause-no_read
returns-clause-no_read c l x y past h = not_none (Read 3 h.3.0 h.3.1) (h.3.2 ++ h.2) (subst (λ (w : List Call). [] ≡ w ++ h.2) h.3.5 h.5)

pub returns-clause-cut : goal.returns-clause-cut
returns-clause-cut c l m x past connected = (0, seated_first x.conn connected, inl ([], End, [], lit≤ tt, inl (refl, refl), refl))

pub returns-clause-no_cut : goal.returns-clause-no_cut
returns-clause-no_cut c l m x y past h = elim h.2 [
  | inl i ↦ not_none (Read 3 i.0 i.1) i.2 i.5
  | inr b ↦ not_none (Read 3 b.3.0 b.3.1) (b.3.2 ++ b.2) (subst (λ (w : List Call). [] ≡ w ++ b.2) b.3.5 b.5)
]

pub returns-clause-behind_closed : goal.returns-clause-behind_closed
returns-clause-behind_closed c x past is = inr (inl ((λ o. three_not_open (subst (λ (ks : List ℕ). IsOpen 3 ks) is o)), (refl, refl)))

pub returns-clause-stopped_behind_close : goal.returns-clause-stopped_behind_close
returns-clause-stopped_behind_close c x y e d t rest connected steps is on its = stopped_there x y e d t rest connected steps is on its
