use Rattle.std.proofs.Common.{◌≡◌}
use Rattle.atspi_live_bus.specs.inner.Rounds.{Moves}
use Rattle.atspi_live_bus.specs.inner.Seats.{TakesSome, held}
use Rattle.atspi_live_bus.specs.inner.Serving.{Serves}
use Rattle.atspi_live_bus.specs.inner.Turns.{Goes}
use Rattle.atspi_live_bus.proofs.hall.Hall.attend.Given as goal

abbrev pub invariant-messages : goal.invariant-messages
invariant-messages g l = record {
  serves : Serves (g.H.Host.links l.host) l.self.links.items;
  calls : Moves (g.H.Host.calls l.fn.host) (g.H.Host.calls l.host) (Goes l.fn.self.bus l.fn.self.links.items) (TakesSome l.number l.fn.self.links.items l.self.links.items) (Goes l.self.bus l.self.links.items);
  same : g.H.Host.faults l.host ≡ g.H.Host.faults l.fn.host;
}

abbrev pub decreases-messages : goal.decreases-messages
decreases-messages g l = held l.self.links.items
