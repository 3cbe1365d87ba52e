use Rattle.std.proofs.Common.{[], ◌∷◌, refl, subst, inl, inr}
use Rattle.std.specs.Prelude.{ℕ, List, true}
use Rattle.atspi_live_host.specs.Calls.{IsOpen, taken}
use Rattle.atspi_live_host.specs.declared.call.Call.TheVariants.{Close}
use Rattle.atspi_live_bus.specs.Asked.{taking}
use Rattle.atspi_live_bus.specs.Closes.{Follows, Parts}
use Rattle.atspi_live_bus.specs.Course.{Steps}
use Rattle.atspi_live_bus_examples.proofs.Facts.{three_not_open}
use Rattle.atspi_live_bus_examples.proofs.Seated.{close_three, is_first, on_both, on_second, shut_first, without_first}
use Rattle.atspi_live_bus_examples.proofs.turning.messages_of_links.Goals as goal

pub returns-clause-closes_own : goal.returns-clause-closes_own
returns-clause-closes_own c l m x y past e d s connected steps is = (
  without_first l m (Close 3 ∷ []) s refl,
  steps.7,
  λ i f. (
    e,
    d ∷ [],
    on_both (λ (ks : List ℕ). IsOpen 3 ks) l m s (inl refl),
    subst (λ (j : ℕ). Steps x (taking j e) (d ∷ []) y) (is_first x.conn i connected f) steps,
    shut_first l m x.conn d s connected is,
  ),
)

pub returns-clause-may_take : goal.returns-clause-may_take
returns-clause-may_take c l m x y past e d s connected steps is = returns-clause-closes_own c l m x y past e d s connected steps is

pub returns-clause-of_closed : goal.returns-clause-of_closed
returns-clause-of_closed c m x y past s seated t = three_not_open (on_second (λ (ks : List ℕ). IsOpen 3 ks) m s (t.2 0 seated).2)

pub returns-clause-awaits : goal.returns-clause-awaits
returns-clause-awaits c l m x past rest s connected its waits = (
  refl,
  λ i f.
      on_both (λ (ks : List ℕ). Follows true 3 i x ks (taken 3 past) [] x) l m s
      (subst (λ (j : ℕ). Follows true 3 j x (3 ∷ 5 ∷ []) (taken 3 past) [] x) (is_first x.conn i connected f) (rest, its, inr (inl (inl refl, waits, refl, refl)))),
)

pub returns-clause-bad_next : goal.returns-clause-bad_next
returns-clause-bad_next c l m x y past rest s connected its bad parts = (
  without_first l m (Close 3 ∷ []) s refl,
  λ i f.
      on_both (λ (ks : List ℕ). Follows true 3 i x ks (taken 3 past) (Close 3 ∷ []) y) l m s
      (subst (λ (j : ℕ). Follows true 3 j x (3 ∷ 5 ∷ []) (taken 3 past) (Close 3 ∷ []) y) (is_first x.conn i connected f) (rest, its, inr (inr (inl refl, bad, parts)))),
)

pub returns-clause-left : goal.returns-clause-left
returns-clause-left c l m x y past s steps = (on_both (λ (ks : List ℕ). Parts true 3 0 x ks (Close 3 ∷ []) y) l m s ([], [], steps, refl, refl), without_first l m (Close 3 ∷ []) s refl)

pub returns-clause-not_left : goal.returns-clause-not_left
returns-clause-not_left c l m x y past h = close_three h.0.1 h.0.4
