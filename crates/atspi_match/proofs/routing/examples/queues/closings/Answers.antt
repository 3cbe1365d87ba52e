use Rattle.std.proofs.Common.{refl}
use Rattle.atspi_match.proofs.OfRouting.Known.{known}
use Rattle.atspi_match.proofs.routing.examples.queues.closings.Goals as goal

pub returns-clause-in_order : goal.returns-clause-in_order
returns-clause-in_order c = simp known refl

pub returns-clause-gone : goal.returns-clause-gone
returns-clause-gone c = simp known refl

pub returns-clause-nothing_due : goal.returns-clause-nothing_due
returns-clause-nothing_due c = simp known refl

pub returns-clause-others_stay : goal.returns-clause-others_stay
returns-clause-others_stay c = simp known refl

pub returns-clause-after : goal.returns-clause-after
returns-clause-after c = simp known refl

pub returns-clause-queue_goes : goal.returns-clause-queue_goes
returns-clause-queue_goes c = simp known refl

pub returns-clause-queue_stays : goal.returns-clause-queue_stays
returns-clause-queue_stays c = simp known refl
