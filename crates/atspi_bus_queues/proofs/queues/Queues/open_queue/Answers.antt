use Rattle.std.proofs.Common.{arith, []}
use Rattle.std.specs.FinMap as finmap
use Rattle.atspi_bus_queues.proofs.Within.{within-insert, within-result}
use Rattle.atspi_bus_queues.proofs.queues.Queues.open_queue.Goals as goal

pub invariant_of-self : goal.invariant_of-self
invariant_of-self c =
    record {
      few = c.self.invariant.few;
      within =
          within-result c.open_queue.result c.self.inside.quota c.open_queue.new.self (finmap.insert c.self.inside.queues c.args.conn []) c.self.inside.queues
          c.open_queue.ensures.ok c.open_queue.ensures.err
          (within-insert c.self.inside.quota c.self.inside.queues c.args.conn [] c.self.invariant.within (omega arith)) c.self.invariant.within;
    }
