use Rattle.std.proofs.Common.{◌++◌, arith}
use Rattle.std.specs.FinMap as finmap
use Rattle.std.proofs.lemmas.List.{length-append}
use Rattle.atspi_match.specs.routing.Queues.{queue_of}
use Rattle.atspi_bus_queues.proofs.Within.{within-insert, within-result}
use Rattle.atspi_bus_queues.proofs.queues.Queues.push.Goals as goal

pub invariant_of-self-2 : goal.invariant_of-self-2
invariant_of-self-2 c =
    let bytes = queue_of c.self.inside.queues c.args.conn ++ c.args.bytes.now in
    record {
      few = c.self.invariant.few;
      within =
          within-result c.push.result c.self.inside.quota c.push.new.self (finmap.insert c.self.inside.queues c.args.conn bytes) c.self.inside.queues
          c.push.ensures.ok c.push.ensures.err
          (within-insert c.self.inside.quota c.self.inside.queues c.args.conn bytes c.self.invariant.within (omega (arith, length-append (queue_of c.self.inside.queues c.args.conn) c.args.bytes.now)))
          c.self.invariant.within;
    }
