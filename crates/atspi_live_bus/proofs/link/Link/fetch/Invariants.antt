use Rattle.std.proofs.Common.{◌≡◌, ◌-◌, ◌<◌, [], length}
use Rattle.atspi_auth.specs.declared.stage.Stage.TheVariants.{Over}
use Rattle.atspi_bus.specs.View.{bus_of, given_of}
use Rattle.atspi_live_bus.specs.inner.Turns.{Fetches}
use Rattle.atspi_live_bus.proofs.link.Link.fetch.Given as goal

abbrev pub invariant-pieces : goal.invariant-pieces
invariant-pieces l = record {
  fetches : Fetches l.fn.self.conn (bus_of l.fn.bus) (bus_of l.bus) l.fn.self l.self;
  over : l.self.server.stage ≡ Over;
  said : length l.self.out.items < 4096 → l.self.server.unsent ≡ [];
  given : given_of l.bus ≡ given_of l.fn.bus;
  number : l.self.number ≡ l.fn.self.number;
  conn : l.self.conn ≡ l.fn.self.conn;
}

abbrev pub decreases-pieces : goal.decreases-pieces
decreases-pieces l = 4096 - l.self.out.len
