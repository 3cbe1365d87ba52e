use Rattle.std.proofs.Common.{◌≡◌}
use Rattle.atspi_live_bus.specs.inner.Rounds.{Moves}
use Rattle.atspi_live_bus.specs.inner.Seats.{GoesOpen}
use Rattle.atspi_live_bus.specs.inner.Serving.{Serves}
use Rattle.atspi_live_bus.proofs.Passing.{Passes}
use Rattle.atspi_live_bus.proofs.hall.Hall.pass.Given as goal

abbrev pub invariant-loop : goal.invariant-loop
invariant-loop g l = record {
  serves : Serves (g.H.Host.links l.host) l.self.links.items;
  passes : Moves (g.H.Host.calls l.fn.host) (g.H.Host.calls l.host) (GoesOpen l.fn.self.bus l.fn.self.links.items) (Passes l.counter l.from l.fn.self.links.items l.self.links.items) (GoesOpen l.self.bus l.self.links.items);
  same : g.H.Host.faults l.host ≡ g.H.Host.faults l.fn.host;
}
