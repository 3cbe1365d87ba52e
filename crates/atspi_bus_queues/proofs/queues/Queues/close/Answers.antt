use Rattle.std.proofs.Common.{sym, subst}
use Rattle.atspi_match.specs.routing.Laws.{AreWithin}
use Rattle.atspi_bus_queues.proofs.Within.{within-remove}
use Rattle.atspi_bus_queues.proofs.queues.Queues.close.Goals as goal

pub invariant_of-self : goal.invariant_of-self
invariant_of-self c = record {
  few = c.self.invariant.few;
  within = subst (AreWithin c.self.inside.quota) (sym c.close.ensures) (within-remove c.self.inside.quota c.self.inside.queues c.args.conn c.self.invariant.within);
}
