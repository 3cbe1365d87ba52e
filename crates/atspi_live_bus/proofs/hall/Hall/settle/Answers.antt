use Rattle.std.proofs.Common.{◌<◌, List, length, refl, sym, ap, subst, ◌∙◌, arith}
use Rattle.atspi_bus.specs.declared.bus.Bus.{Bus}
use Rattle.atspi_bus.specs.View.{bus_of}
use Rattle.atspi_match.specs.routing.Queues as queues
use Rattle.atspi_live_bus.specs.inner.Seats.{held}
use Rattle.atspi_live_bus.specs.inner.Serving.{Serves}
use Rattle.atspi_live_bus.specs.declared.link.Link.{Link}
use Rattle.atspi_live_bus.proofs.Counting.{fewer_closings}
use Rattle.atspi_live_bus.proofs.Shutting.{forgotten, none_told, settled, settling_more}
use Rattle.atspi_live_bus.proofs.hall.Hall.settle.Goals as goal

pub closings-init : goal.closings-init
closings-init g c = record {
  serves = subst (λ (w : List Link). Serves (g.H.Host.links c.args.host.now) w) (sym c.forget.ensures.links) c.requires.serves;
  calls = forgotten c.args.self.now.bus c.forget.new.self.bus c.args.self.now.links.items c.forget.new.self.links.items (g.H.Host.calls c.args.host.now) c.forget.ensures.told c.forget.ensures.closings c.forget.ensures.given c.forget.ensures.links;
  own = c.forget.ensures.none;
  held = omega (arith, ap (λ (w : List Link). held w) c.forget.ensures.links);
  same = refl;
}

pub closings-preserved : goal.closings-preserved
closings-preserved g c = record {
  serves = c.dismiss.ensures.serves;
  calls = settling_more c.args.self.now.bus c.closings.self.bus c.closed.new.self c.dismiss.new.self.bus c.args.self.now.links.items c.closings.self.links.items c.dismiss.new.self.links.items c.in-Some.closing
      (g.H.Host.calls c.args.host.now) (g.H.Host.calls c.closings.host) (g.H.Host.calls c.dismiss.new.host) (rw c.in-Some.is at c.closed.ensures.bus) c.closed.ensures.given c.closings.invariant.calls c.dismiss.ensures.calls;
  own = ap (λ (w : Bus). (bus_of w).own) c.dismiss.ensures.bus ∙ sym (ap (λ (w : queues.Bus). w.own) c.closed.ensures.bus) ∙ c.closings.invariant.own;
  held = omega (arith, c.dismiss.ensures.held, c.closings.invariant.held);
  same = c.dismiss.ensures.same ∙ c.closings.invariant.same;
}

pub closings-smaller : goal.closings-smaller
closings-smaller g c =
    subst (λ (w : Bus). length (bus_of w).closings < length (bus_of c.closings.self.bus).closings) (sym c.dismiss.ensures.bus)
    (fewer_closings (bus_of c.closings.self.bus) (bus_of c.closed.new.self) _ (rw c.in-Some.is at c.closed.ensures.bus))

pub returns-clause-calls : goal.returns-clause-calls
returns-clause-calls g c =
    settled c.args.self.now.bus c.closings.self.bus c.closed.new.self c.args.self.now.links.items c.closings.self.links.items (g.H.Host.calls c.args.host.now) (g.H.Host.calls c.closings.host)
    c.closings.invariant.own c.in_default.ensures.none (none_told (bus_of c.closings.self.bus) (bus_of c.closed.new.self) c.in_default.ensures.bus) c.closed.ensures.given c.closings.invariant.calls
