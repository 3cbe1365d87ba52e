use Rattle.std.proofs.Common.{◌≡◌, ℕ, refl, arith}
use Rattle.atspi_trace_examples.proofs.exits.what_may_come.Goals as goal

apart : ◌≡◌ {A = ℕ} 0 1 → ⊥
apart h = omega (arith, h)

pub returns-clause-before : goal.returns-clause-before
returns-clause-before c = tt

pub returns-clause-behind : goal.returns-clause-behind
returns-clause-behind c h = h.0 refl refl

pub returns-clause-far_behind : goal.returns-clause-far_behind
returns-clause-far_behind c h = h.1.0 refl refl

pub returns-clause-another_reader : goal.returns-clause-another_reader
returns-clause-another_reader c = ((λ of_reader of_app. apart of_reader), tt)

pub returns-clause-another_application : goal.returns-clause-another_application
returns-clause-another_application c = ((λ of_reader of_app. apart of_app), tt)

pub returns-clause-of_the_bus : goal.returns-clause-of_the_bus
returns-clause-of_the_bus c = tt

pub returns-clause-of_the_registry : goal.returns-clause-of_the_registry
returns-clause-of_the_registry c = tt
