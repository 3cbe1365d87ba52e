use Rattle.std.proofs.Common.{None, sym, ap, ◌∙◌}
use Rattle.atspi_message_in_place.specs.View.{envelope_at}
use Rattle.atspi_match.specs.routing.Queues.{stepped}
use Rattle.atspi_bus_answers.specs.Errors.{error_text}
use Rattle.atspi_bus_answers.specs.Lines.{as_named}
use Rattle.atspi_bus_steps.specs.InnerBus.{inner_of}
use Rattle.atspi_bus_steps.proofs.InPlace.{told-more}
use Rattle.atspi_bus.proofs.Replying.{called-member, called-error, rule_of, rule_none}
use Rattle.atspi_bus.proofs.answering.call_in_place.Goals as goal

pub returns-in-Ok-clause-ok : goal.returns-in-Ok-clause-ok
returns-in-Ok-clause-ok c =
    let b = inner_of c.args.inner.now in
    let e = envelope_at c.args.m.now in
    let member = c.in-Ok.member in
    let asked = c.member_of.ensures ∙ ap as_named c.in-Ok.is in
    told-more _ _ _ c.answer_member.result
    (λ h. (h.0, rule_of e h.0 member asked h.1, h.2 ∙ ap (stepped b) (sym (called-member b.state c.args.conn e h.0 member asked))))
    c.answer_member.ensures.ok

pub returns-in-Err-clause-ok : goal.returns-in-Err-clause-ok
returns-in-Err-clause-ok c =
    let b = inner_of c.args.inner.now in
    let e = envelope_at c.args.m.now in
    let name = error_text c.in-Err.error in
    let failed = c.member_of.ensures ∙ ap as_named c.in-Err.is in
    told-more _ _ _ c.say_reply.result
    (λ is. (None, rule_none e name failed, is ∙ ap (stepped b) (sym (called-error b.state c.args.conn e None name failed))))
    c.say_reply.ensures.ok
