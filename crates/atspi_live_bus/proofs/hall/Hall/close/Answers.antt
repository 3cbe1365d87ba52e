use Rattle.std.proofs.Common.{ℕ, subst, sym}
use Rattle.atspi_live_host.specs.Calls.{Adds}
use Rattle.atspi_live_host.specs.declared.call.Call.TheVariants.{Close}
use Rattle.atspi_live_bus.specs.inner.Serving.{Serves}
use Rattle.atspi_live_bus.proofs.Serving.{link_open, removed}
use Rattle.atspi_live_bus.proofs.Shutting.{number_there}
use Rattle.atspi_live_bus.proofs.hall.Hall.close.Goals as goal

pub close-requires : goal.close-requires
close-requires g c = record {
  «open» = link_open c.args.self.now.links.items c.args.at c.remove-gone.result (g.H.Host.links c.args.host.now) c.requires.there c.remove-gone.ensures.value c.requires.serves;
}

pub returns-clause-calls : goal.returns-clause-calls
returns-clause-calls g c =
    subst (λ (k : ℕ). Adds (g.H.Host.calls c.args.host.now) (g.H.Host.calls c.close.new.self) (Close k)) (sym (number_there c.args.self.now.links.items c.args.at c.remove-gone.result c.requires.there c.remove-gone.ensures.value)) c.close.ensures.calls

pub returns-clause-serves : goal.returns-clause-serves
returns-clause-serves g c =
    subst (λ w. Serves (g.H.Host.links c.close.new.self) w) (sym c.remove-gone.ensures.items)
    (removed c.args.self.now.links.items c.args.at c.remove-gone.result (g.H.Host.links c.args.host.now) (g.H.Host.links c.close.new.self) c.requires.there c.remove-gone.ensures.value c.close.ensures.links c.requires.serves)
