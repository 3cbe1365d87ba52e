use Rattle.std.proofs.Common.{List, [], length, refl, ap, arith}
use Rattle.atspi_protocol.specs.declared.following.question.Question.{Question}
use Rattle.atspi_trace_laws.proofs.OfOrder.Parties.{false_true}
use Rattle.atspi_trace_examples.proofs.OfSettled.Settling_cases.{begins_so}
use Rattle.atspi_trace_examples.proofs.settled.what_begins_well.Goals as goal

pub returns-clause-start : goal.returns-clause-start
returns-clause-start c = ([], refl)

pub returns-clause-more : goal.returns-clause-more
returns-clause-more c = (_, refl)

pub returns-clause-out_of_order : goal.returns-clause-out_of_order
returns-clause-out_of_order c h = false_true (ap begins_so h.1)

pub returns-clause-not_done : goal.returns-clause-not_done
returns-clause-not_done c h = absurd (omega (arith, ap (λ (l : List Question). length l) h.1))
