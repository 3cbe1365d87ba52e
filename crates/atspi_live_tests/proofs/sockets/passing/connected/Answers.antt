use Rattle.atspi_live_tests.proofs.OfSockets.Opening.{opened}
use Rattle.atspi_live_tests.proofs.sockets.passing.connected.Goals as goal

pub returns-in-Done : goal.returns-in-Done
returns-in-Done g c = opened (g.H.Host.links c.args.host.now) (g.H.Host.links c.connect.new.self) c.in-Done.link c.in-Done.ensures.links
