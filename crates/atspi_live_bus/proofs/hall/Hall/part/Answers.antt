use Rattle.std.proofs.Common.{Err, refl, ap, inr}
use Rattle.atspi_bus_steps.specs.declared.fault.BusFault.{BusFault}
use Rattle.atspi_live_bus.proofs.Shutting.{conn_is, parted, parted_cut}
use Rattle.atspi_live_bus.proofs.hall.Hall.part.Goals as goal

pub returns-in-Ok-clause-calls : goal.returns-in-Ok-clause-calls
returns-in-Ok-clause-calls g c =
    parted c.args.self.now.bus c.close.new.self.bus c.leave.new.self c.settle.new.self.bus c.args.self.now.links.items c.close.new.self.links.items c.close.new.self.links.items c.settle.new.self.links.items
    c.args.at c.index.result.now.conn (g.H.Host.links c.args.host.now) (g.H.Host.calls c.args.host.now) (g.H.Host.calls c.close.new.host) (g.H.Host.calls c.settle.new.host)
    c.requires.there c.close.ensures.links c.close.ensures.bus c.requires.serves c.close.ensures.calls refl c.in-Ok.ensures.ok c.leave.ensures.given
    (conn_is c.args.self.now.links.items c.args.at c.index.result.now c.requires.there c.index.ensures) c.settle.ensures.calls

pub returns-in-Err-clause-calls : goal.returns-in-Err-clause-calls
returns-in-Err-clause-calls g c =
    parted_cut c.args.self.now.bus c.close.new.self.bus c.args.self.now.links.items c.close.new.self.links.items c.close.new.self.links.items c.args.at c.stop_of.result (g.H.Host.calls c.args.host.now) (g.H.Host.calls c.close.new.host)
    c.close.ensures.links c.close.ensures.bus (λ e. inr (c.index.result.now.conn, c.in-Err.ensures.spent (ap (λ (x : BusFault). Err x) (c.stop_of.ensures.spent e)))) c.close.ensures.calls
