use Rattle.atspi_bus_queues.proofs.Within.{within-space}
use Rattle.atspi_bus_queues.proofs.queues.Queues.push_if_room.Goals as goal

pub invariant_of-self : goal.invariant_of-self
invariant_of-self c =
    record {
      few = c.self.invariant.few;
      within =
          within-space c.push_within.result c.self.inside.quota c.push_within.new.self c.self.inside.queues c.args.conn c.args.bytes.now
          c.push_within.ensures.ok c.push_within.ensures.err c.self.invariant.within;
    }
