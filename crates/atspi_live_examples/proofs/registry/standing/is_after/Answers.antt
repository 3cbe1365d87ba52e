use Rattle.std.proofs.Common.{◌≡◌, ℕ, List, Option, None, Some, refl, ap, arith, lit≤}
use Rattle.std.specs.Prelude.{codes, length}
use Rattle.atspi_live_examples.proofs.OfRegistry.Running.{begun}
use Rattle.atspi_live_examples.proofs.registry.standing.is_after.Goals as goal

pub returns-clause-start : goal.returns-clause-start
returns-clause-start c = begun

pub returns-clause-all_handed_out : goal.returns-clause-all_handed_out
returns-clause-all_handed_out c = record { whole = refl; numbered = lit≤ tt }

pub returns-clause-took : goal.returns-clause-took
returns-clause-took c = record { whole = refl; numbered = lit≤ tt }

pub returns-clause-did_not_take : goal.returns-clause-did_not_take
returns-clause-did_not_take c a = by (ap (λ r. r.state.own) a.whole)
  where
    by : Some (codes ":1.7") ≡ None → ⊥
    by h = cc

pub returns-clause-took_more : goal.returns-clause-took_more
returns-clause-took_more c a = by (ap (λ r. r.state.own) a.whole)
  where
    by : ◌≡◌ {A = Option (List ℕ)} None (Some (codes ":1.7")) → ⊥
    by h = cc

pub returns-clause-calls_lost : goal.returns-clause-calls_lost
returns-clause-calls_lost c a = omega (arith, ap (λ r. length r.out) a.whole)

pub returns-clause-calls_twice : goal.returns-clause-calls_twice
returns-clause-calls_twice c a = omega (arith, ap (λ r. length r.out) a.whole)
