use Rattle.std.proofs.Common.{◌≡◌, ◌<◌, ℕ, refl, ap, arith, lit<}
use Rattle.atspi_trace.specs.Ends.{number_of}
use Rattle.atspi_trace_examples.proofs.turns.taken_in_turn.Goals as goal

no_more : 4 < 4 → ⊥
no_more h = omega (arith, h)

no_less : 6 < 4 → ⊥
no_less h = omega (arith, h)

apart : ◌≡◌ {A = ℕ} 1 0 → ⊥
apart h = omega (arith, h)

pub returns-clause-later : goal.returns-clause-later
returns-clause-later c = ((λ t f. lit< tt), tt)

pub returns-clause-twice : goal.returns-clause-twice
returns-clause-twice c h = no_more (h.0 refl refl)

pub returns-clause-earlier : goal.returns-clause-earlier
returns-clause-earlier c h = no_less (h.0 refl refl)

pub returns-clause-another_sender : goal.returns-clause-another_sender
returns-clause-another_sender c = ((λ t f. absurd (apart (ap number_of f))), tt)

pub returns-clause-another_taker : goal.returns-clause-another_taker
returns-clause-another_taker c = ((λ t f. absurd (apart (ap number_of t))), tt)

pub returns-clause-of_the_bus : goal.returns-clause-of_the_bus
returns-clause-of_the_bus c = tt

pub returns-clause-by_the_bus : goal.returns-clause-by_the_bus
returns-clause-by_the_bus c = tt

pub returns-clause-other_entry : goal.returns-clause-other_entry
returns-clause-other_entry c = tt
