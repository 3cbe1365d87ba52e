use Rattle.std.proofs.Common.{◌≡◌, true, false, None, sym, ap, ◌∙◌}
use Rattle.atspi_message_in_place.specs.View.{envelope_at}
use Rattle.atspi_match.specs.routing.Queues.{stepped}
use Rattle.atspi_bus_steps.specs.InnerBus.{inner_of}
use Rattle.atspi_bus_steps.proofs.InPlace.{told-more}
use Rattle.atspi_bus.proofs.Replying.{quiet-step, named-called, named-quiet, named-unowned, rule_taken, rule_not_taken}
use Rattle.atspi_bus.proofs.answering.answer_named.Goals as goal

clash : {A : Type 0} → true ≡ false → A
clash is = absurd (let e = is in cc)

pub returns-then-not-is_for_bus-clause-ok : goal.returns-then-not-is_for_bus-clause-ok
returns-then-not-is_for_bus-clause-ok c =
    let b = inner_of c.args.inner.now in
    let e = envelope_at c.args.m.now in
    let other = sym c.is_for_bus.ensures ∙ c.if-not-is_for_bus.true in
    told-more _ _ _ c.refuse_in_place.result
    (λ h. (
      None,
      rule_not_taken b.state c.args.conn e (λ name unique for_bus kind. clash (sym for_bus ∙ other)),
      h.1 ∙ ap (stepped b) (sym (named-unowned b.state c.args.conn e None c.requires.caller other h.0)),
    ))
    c.refuse_in_place.ensures.ok

pub returns-then-m-ne1-clause-ok : goal.returns-then-m-ne1-clause-ok
returns-then-m-ne1-clause-ok c =
    let b = inner_of c.args.inner.now in
    let e = envelope_at c.args.m.now in
    let for_bus = sym c.is_for_bus.ensures ∙ c.if-not-is_for_bus.false in (
      None,
      rule_not_taken b.state c.args.conn e (λ name unique is kind. absurd (c.if-m-ne1.true kind)),
      quiet-step b b.state ∙ ap (stepped b) (sym (named-quiet b.state c.args.conn e None c.requires.caller for_bus c.if-m-ne1.true)),
    )

pub returns-clause-ok : goal.returns-clause-ok
returns-clause-ok c =
    let b = inner_of c.args.inner.now in
    let e = envelope_at c.args.m.now in
    let for_bus = sym c.is_for_bus.ensures ∙ c.if-not-is_for_bus.false in
    told-more _ _ _ c.call_in_place.result
    (λ h. (h.0, rule_taken b.state c.args.conn e h.0 h.1, h.2 ∙ ap (stepped b) (sym (named-called b.state c.args.conn e h.0 c.requires.caller for_bus c.if-m-ne1.false))))
    c.call_in_place.ensures.ok
