use Rattle.std.proofs.Common.{sym, ◌∙◌}
use Rattle.atspi_message_in_place.specs.View.{envelope_at}
use Rattle.atspi_bus_steps.specs.InnerBus.{inner_of}
use Rattle.atspi_bus_steps.proofs.InPlace.{told-more, none_found}
use Rattle.atspi_bus.proofs.Replying.{step-taken}
use Rattle.atspi_bus.proofs.answering.answer_in_place.Goals as goal

pub returns-clause-ok : goal.returns-clause-ok
returns-clause-ok c =
    let nobody = none_found _ _ c.first_due.result (sym c.is_some.ensures ∙ c.if-is_some.false) c.first_due.ensures in
    told-more _ _ _ c.answer_any.result
    (λ h. (h.0, h.1, step-taken (inner_of c.args.inner.now) (inner_of c.answer_any.new.inner) c.args.conn (envelope_at c.args.m.now) h.0 nobody c.answer_any.ensures.due h.2))
    c.answer_any.ensures.ok
