use Rattle.std.proofs.Common.{sym, ◌∙◌}
use Rattle.atspi_message_in_place.specs.View.{envelope_at}
use Rattle.atspi_bus_steps.specs.InnerBus.{inner_of}
use Rattle.atspi_bus_steps.proofs.InPlace.{passed-taken, told-as, none_found}
use Rattle.atspi_bus_steps.proofs.inner.Inner.take_in_place.Goals as goal

pub returns-clause-ok : goal.returns-clause-ok
returns-clause-ok c =
    let nobody = none_found _ _ c.first_due.result (sym c.is_some.ensures ∙ c.if-is_some.false) c.first_due.ensures in
    told-as _ _ _ _ c.pass_in_place.result
    (λ p. passed-taken (inner_of c.args.self.now) _ c.args.conn (envelope_at c.args.m.now) p.name p.named
    (sym c.is_for_bus.ensures ∙ c.if-is_for_bus.false) nobody c.pass_in_place.ensures.due p.after_is)
    (λ same. same)
    c.pass_in_place.ensures.ok
