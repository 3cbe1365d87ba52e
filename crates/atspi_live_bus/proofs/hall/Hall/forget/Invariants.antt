use Rattle.std.proofs.Common.{◌≡◌, length}
use Rattle.atspi_bus.specs.View.{bus_of, given_of}
use Rattle.atspi_live_bus.specs.inner.Turns.{IsTold}
use Rattle.atspi_live_bus.proofs.hall.Hall.forget.Given as goal

abbrev pub invariant-messages : goal.invariant-messages
invariant-messages l = record {
  links : l.self.links.items ≡ l.fn.self.links.items;
  told : IsTold (bus_of l.fn.self.bus) (bus_of l.self.bus);
  closings : (bus_of l.self.bus).closings ≡ (bus_of l.fn.self.bus).closings;
  given : given_of l.self.bus ≡ given_of l.fn.self.bus;
}

abbrev pub decreases-messages : goal.decreases-messages
decreases-messages l = length (bus_of l.self.bus).own
