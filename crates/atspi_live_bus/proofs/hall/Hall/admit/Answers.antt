use Rattle.std.proofs.Common.{ℕ, List, [], ◌∷◌, ◌++◌, sym, ap, subst, ◌∙◌, inl, inr}
use Rattle.atspi_live_host.specs.Calls.{IsNew}
use Rattle.atspi_live_bus.specs.inner.Serving.{numbers}
use Rattle.atspi_live_bus.specs.declared.link.Link.{Link}
use Rattle.atspi_live_bus.proofs.Admitting.{admitted, none_came, not_admitted}
use Rattle.atspi_live_bus.proofs.Ending.{free_blames, if_err, on_ok}
use Rattle.atspi_live_bus.proofs.Going.{want_free}
use Rattle.atspi_live_bus.proofs.Serving.{opened, pushed}
use Rattle.atspi_live_bus.proofs.hall.Hall.admit.Goals as goal

pub returns-in-Done-clause-serves : goal.returns-in-Done-clause-serves
returns-in-Done-clause-serves g c =
    on_ok c.seat.result _ _
    (λ q. opened c.args.self.now.links.items c.seat.new.self.links.items c.in-Done.number (g.H.Host.links c.args.host.now) (g.H.Host.links c.accept.new.self)
    (ap (λ (ls : List Link). numbers ls) q.behind_others ∙ pushed c.args.self.now.links.items q.link ∙ ap (λ (k : ℕ). numbers c.args.self.now.links.items ++ k ∷ []) q.number_is)
    c.in-Done.ensures.links c.requires.serves)
    c.seat.ensures.ok

pub returns-in-Done-clause-cause : goal.returns-in-Done-clause-cause
returns-in-Done-clause-cause g c =
    if_err c.seat.result _ _
    (λ stop w. free_blames stop (g.H.Host.faults c.args.host.now) (g.H.Host.faults c.accept.new.self) (want_free stop w) c.in-Done.ensures.cause)
    c.seat.ensures.cause

pub returns-in-Done-clause-calls : goal.returns-in-Done-clause-calls
returns-in-Done-clause-calls g c =
    admitted c.seat.result c.args.self.now.bus c.seat.new.self.bus c.args.self.now.links.items c.seat.new.self.links.items c.in-Done.number (g.H.Host.calls c.args.host.now) (g.H.Host.calls c.accept.new.self) c.seat.ensures.ok c.seat.ensures.cause
    (subst (λ (w : List ℕ). IsNew c.in-Done.number w) (sym c.requires.serves.are) c.in-Done.ensures.links.1) c.in-Done.ensures.unused c.in-Done.ensures.calls

pub returns-in-NotYet-clause-calls : goal.returns-in-NotYet-clause-calls
returns-in-NotYet-clause-calls g c = elim c.in-NotYet.is [
  | inl e ↦ none_came c.args.self.now.bus c.args.self.now.links.items (g.H.Host.calls c.args.host.now) (g.H.Host.calls c.accept.new.self) (rw e at c.accept.ensures.calls)
  | inr e ↦ absurd (rw e at c.accept.ensures.links)
]

pub returns-in-Failed-clause-calls : goal.returns-in-Failed-clause-calls
returns-in-Failed-clause-calls g c = not_admitted c.args.self.now.bus c.args.self.now.links.items (g.H.Host.calls c.args.host.now) (g.H.Host.calls c.accept.new.self) c.in-Failed.ensures.calls
