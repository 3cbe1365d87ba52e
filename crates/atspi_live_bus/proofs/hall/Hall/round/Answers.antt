use Rattle.atspi_live_bus.proofs.Rounding.{passed}
use Rattle.atspi_live_bus.proofs.hall.Hall.round.Goals as goal

pub returns-clause-calls : goal.returns-clause-calls
returns-clause-calls g c =
    passed c.pass.result c.args.self.now.bus c.admit.new.self.bus c.pass.new.self.bus c.args.self.now.links.items c.admit.new.self.links.items c.pass.new.self.links.items (g.H.Host.calls c.args.host.now) (g.H.Host.calls c.admit.new.host) (g.H.Host.calls c.pass.new.host)
    c.pass.ensures.cause c.in-Ok.ensures.calls c.pass.ensures.calls
