use Rattle.std.proofs.Common.{◌≡◌, ◌≤◌, [], length}
use Rattle.atspi_bus.specs.View.{bus_of}
use Rattle.atspi_live_bus.specs.inner.Rounds.{Moves}
use Rattle.atspi_live_bus.specs.inner.Seats.{Settling, held}
use Rattle.atspi_live_bus.specs.inner.Serving.{Serves}
use Rattle.atspi_live_bus.specs.inner.Turns.{Goes}
use Rattle.atspi_live_bus.proofs.hall.Hall.settle.Given as goal

abbrev pub invariant-closings : goal.invariant-closings
invariant-closings g l = record {
  serves : Serves (g.H.Host.links l.host) l.self.links.items;
  calls : Moves (g.H.Host.calls l.fn.host) (g.H.Host.calls l.host) (Goes l.fn.self.bus l.fn.self.links.items) (Settling l.fn.self.links.items l.self.links.items) (Goes l.self.bus l.self.links.items);
  own : (bus_of l.self.bus).own ≡ [];
  held : held l.self.links.items ≤ held l.fn.self.links.items;
  same : g.H.Host.faults l.host ≡ g.H.Host.faults l.fn.host;
}

abbrev pub decreases-closings : goal.decreases-closings
decreases-closings g l = length (bus_of l.self.bus).closings
