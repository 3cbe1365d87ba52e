use Rattle.std.proofs.Common.{◌≤◌, ◌-◌, length, sym, subst, arith}
use Rattle.std.proofs.lemmas.List.{length-take}
use Rattle.atspi_match.specs.routing.Queues.{queue_of}
use Rattle.atspi_match.specs.routing.Laws.{AreWithin}
use Rattle.atspi_bus_queues.proofs.Within.{within-with}
use Rattle.atspi_bus_queues.proofs.queues.Queues.take_back.Goals as goal

pub invariant_of-self : goal.invariant_of-self
invariant_of-self c =
    let was : length (queue_of c.self.inside.queues c.args.conn) ≤ c.self.inside.quota = c.self.invariant.within c.args.conn in
    record {
      few = c.self.invariant.few;
      within =
          subst (AreWithin c.self.inside.quota) (sym c.cut_back.ensures)
          (within-with c.self.inside.quota c.self.inside.queues c.args.conn _ c.self.invariant.within
          (omega (arith, was, length-take (length (queue_of c.self.inside.queues c.args.conn) - c.args.n) (queue_of c.self.inside.queues c.args.conn))));
    }
