use Rattle.std.proofs.Common.{[], ◌∷◌, refl, arith}
use Rattle.atspi_cursors.proofs.examples.readings.Goals as goal

pub returns-clause-here : goal.returns-clause-here
returns-clause-here c = (record { before = _ ∷ (_ ∷ []); piece = _; behind = _; cut = refl; starts = refl; ends = refl; from = omega arith; upto = omega arith }, refl)

pub returns-clause-next : goal.returns-clause-next
returns-clause-next c = (record { before = []; piece = _; behind = _; cut = refl; starts = refl; ends = refl; from = omega arith; upto = omega arith }, refl)

pub returns-clause-prev : goal.returns-clause-prev
returns-clause-prev c = (record { before = []; piece = _; behind = _; cut = refl; starts = refl; ends = refl; from = omega arith; upto = omega arith }, refl)

pub returns-clause-at_the_end : goal.returns-clause-at_the_end
returns-clause-at_the_end c = omega arith

pub returns-clause-at_the_start : goal.returns-clause-at_the_start
returns-clause-at_the_start c = tt

pub returns-clause-not_stayed : goal.returns-clause-not_stayed
returns-clause-not_stayed c = λ h. absurd (omega (arith, h.1))

pub returns-clause-not_told : goal.returns-clause-not_told
returns-clause-not_told c = λ h. absurd (omega (arith, h))

pub returns-clause-not_the_next : goal.returns-clause-not_the_next
returns-clause-not_the_next c = λ h. absurd (omega (arith, h.0.from))
