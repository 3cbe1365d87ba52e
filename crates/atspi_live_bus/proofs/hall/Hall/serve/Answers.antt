use Rattle.atspi_live_bus.proofs.Hearing.{served_cut, served_either}
use Rattle.atspi_live_bus.proofs.hall.Hall.serve.Goals as goal

pub returns-in-Ok-clause-calls : goal.returns-in-Ok-clause-calls
returns-in-Ok-clause-calls g c =
    served_either c.give.result c.args.self.now.bus c.take_in.new.self.bus c.give.new.self.bus c.args.self.now.links.items c.take_in.new.self.links.items c.give.new.self.links.items c.args.at c.index.result.now
    (g.H.Host.calls c.args.host.now) (g.H.Host.calls c.take_in.new.host) (g.H.Host.calls c.give.new.host) c.requires.there c.index.ensures c.in-Ok.ensures.calls c.give.ensures.calls

pub returns-in-Err-clause-calls : goal.returns-in-Err-clause-calls
returns-in-Err-clause-calls g c =
    served_cut c.args.self.now.bus c.args.self.now.links.items c.take_in.new.self.links.items c.args.at c.in-Err.stop (g.H.Host.calls c.args.host.now) (g.H.Host.calls c.take_in.new.host) c.requires.there c.in-Err.ensures.calls
