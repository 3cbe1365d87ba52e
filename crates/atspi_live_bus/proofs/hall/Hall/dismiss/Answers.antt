use Rattle.std.proofs.Common.{◌≤◌, List, sym, subst}
use Rattle.atspi_live_bus.specs.inner.Seats.{held}
use Rattle.atspi_live_bus.specs.declared.link.Link.{Link}
use Rattle.atspi_live_bus.proofs.Shutting.{dismissed, held_out, not_dismissed}
use Rattle.atspi_live_bus.proofs.hall.Hall.dismiss.Goals as goal

pub returns-in-Some-clause-calls : goal.returns-in-Some-clause-calls
returns-in-Some-clause-calls g c =
    dismissed c.args.self.now.bus c.close.new.self.bus c.args.self.now.links.items c.close.new.self.links.items c.in-Some.at c.args.conn (g.H.Host.links c.args.host.now) (g.H.Host.calls c.args.host.now) (g.H.Host.calls c.close.new.host)
    c.in-Some.ensures.below c.in-Some.ensures.first c.close.ensures.links c.close.ensures.bus c.requires.serves c.close.ensures.calls

pub returns-in-Some-clause-held : goal.returns-in-Some-clause-held
returns-in-Some-clause-held g c = subst (λ (w : List Link). held w ≤ held c.args.self.now.links.items) (sym c.close.ensures.links) (held_out c.args.self.now.links.items c.in-Some.at)

pub returns-in_default-clause-calls : goal.returns-in_default-clause-calls
returns-in_default-clause-calls g c = not_dismissed c.args.self.now.bus c.args.self.now.links.items c.args.conn (g.H.Host.calls c.args.host.now) c.in_default.ensures.first
