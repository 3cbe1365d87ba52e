use Rattle.std.proofs.Common.{◌≡◌, refl, arith}
use Rattle.atspi_trace_laws.proofs.OfOrder.Parties.{false_true}
use Rattle.atspi_trace_examples.proofs.links.taken_in_order.Goals as goal

pub returns-clause-first : goal.returns-clause-first
returns-clause-first c = (refl, refl)

pub returns-clause-second : goal.returns-clause-second
returns-clause-second c = (refl, refl)

pub returns-clause-unsent : goal.returns-clause-unsent
returns-clause-unsent c h = false_true h.0

pub returns-clause-out_of_order : goal.returns-clause-out_of_order
returns-clause-out_of_order c h = let same : 2 ≡ 1 = h.1 in absurd (omega (arith, same))

pub returns-clause-twice : goal.returns-clause-twice
returns-clause-twice c h = let same : 1 ≡ 2 = h.1 in absurd (omega (arith, same))

pub returns-clause-another_taker : goal.returns-clause-another_taker
returns-clause-another_taker c = tt
