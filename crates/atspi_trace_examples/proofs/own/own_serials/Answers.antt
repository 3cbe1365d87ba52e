use Rattle.std.proofs.Common.{◌≡◌, ℕ, refl, arith}
use Rattle.atspi_trace_laws.proofs.OfOrder.Parties.{false_true}
use Rattle.atspi_trace_examples.proofs.own.own_serials.Goals as goal

apart : ◌≡◌ {A = ℕ} 8 9 → ⊥
apart h = omega (arith, h)

pub returns-clause-first : goal.returns-clause-first
returns-clause-first c live = refl

pub returns-clause-second : goal.returns-clause-second
returns-clause-second c live = refl

pub returns-clause-again : goal.returns-clause-again
returns-clause-again c h = apart (h refl)

pub returns-clause-lost : goal.returns-clause-lost
returns-clause-lost c live = absurd (false_true live)

pub returns-clause-of_an_end : goal.returns-clause-of_an_end
returns-clause-of_an_end c = tt

pub returns-clause-other_entry : goal.returns-clause-other_entry
returns-clause-other_entry c = tt
