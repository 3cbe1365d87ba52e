use Rattle.std.proofs.Common.{List, sym, ap, ◌∙◌}
use Rattle.atspi_types.specs.Data.{Data}
use Rattle.atspi_message.specs.Envelope.{envelope_of}
use Rattle.atspi_message_in_place.specs.View.{envelope_at}
use Rattle.atspi_match.specs.routing.Answers.{returns, fails}
use Rattle.atspi_bus_answers.specs.Errors.{error_text}
use Rattle.atspi_bus_steps.specs.InnerBus.{inner_of, state_of}
use Rattle.atspi_bus_steps.specs.Sayable.{reply_message}
use Rattle.atspi_bus.proofs.Saying.{said-again}
use Rattle.atspi_bus.proofs.Replying.{rule-quiet, rule-said, rule-failed, replied-anew, both-more}
use Rattle.atspi_bus.proofs.answering.rule_in_place.Goals as goal

-- where no reply is expected
pub returns-then-not-expects_reply-clause-ok : goal.returns-then-not-expects_reply-clause-ok
returns-then-not-expects_reply-clause-ok c =
    let h = c.in_ok-change_rules.ensures.ok in
    let b = inner_of c.args.inner.now in (
      h.0,
      h.1,
      rule-quiet b (inner_of c.change_rules.new.inner) c.args.member c.args.conn (envelope_at c.args.m.now) h.0 c.requires.changes (sym c.expects_reply.ensures ∙ c.if-not-expects_reply.true) h.2.is,
    )

-- where one is, which was said before
pub returns-in-Ok-None-clause-ok : goal.returns-in-Ok-None-clause-ok
returns-in-Ok-None-clause-ok c =
    let s = state_of c.args.inner.now in
    let e = envelope_at c.args.m.now in
    let said = rw c.in-Some.is at c.in_ok-said.ensures.ok in
    let message = c.in_ok-done.ensures ∙ ap (λ (l : List Data). reply_message s c.args.conn e.serial (returns l)) c.new.ensures in
    let h = rw c.in-Ok-None.field-0-is at c.in-Ok-None.ensures.ok in (
      h.0,
      h.1,
      rule-said (inner_of c.args.inner.now) (inner_of c.say_in_place.new.inner) (inner_of c.change_rules-2.new.inner) c.args.member c.args.conn e (envelope_of c.in_ok-done.done) h.0
          c.in-Some.said.bytes c.in-Some.said.receivers.items c.requires.changes (sym c.expects_reply.ensures ∙ c.if-not-expects_reply.false) c.requires.caller message said h.2.is h.2.reply,
    )

-- where it was refused, the reply is taken back
pub unsay-requires : goal.unsay-requires
unsay-requires c =
    let b = inner_of c.args.inner.now in
    let said = rw c.in-Some.is at c.in_ok-said.ensures.ok in
    let h = rw c.in-Ok-Some.field-0-is at c.in-Ok-Some.ensures.ok in (
      b,
      envelope_of c.in_ok-done.done,
      said-again b (inner_of c.say_in_place.new.inner) (inner_of c.change_rules-2.new.inner) (envelope_of c.in_ok-done.done) c.in-Some.said.bytes c.in-Some.said.receivers.items h.2.refused said,
    )

pub returns-in-Ok-Some-clause-ok : goal.returns-in-Ok-Some-clause-ok
returns-in-Ok-Some-clause-ok c =
    let b = inner_of c.args.inner.now in
    let after = inner_of c.say_in_place.new.inner in
    let e = envelope_at c.args.m.now in
    let d = envelope_of c.in_ok-done.done in
    let bytes = c.in-Some.said.bytes in
    let conns = c.in-Some.said.receivers.items in
    let name = error_text c.in-Ok-Some.error in
    let said = rw c.in-Some.is at c.in_ok-said.ensures.ok in
    let h = rw c.in-Ok-Some.field-0-is at c.in-Ok-Some.ensures.ok in
    let same = c.unsay.ensures b d (said-again b after (inner_of c.change_rules-2.new.inner) d bytes conns h.2.refused said) in
    both-more _ _ _ _ c.say_reply.result
    (λ is. (
      h.0,
      h.1,
      rule-failed b after c.args.member c.args.conn e d h.0 bytes conns name (inner_of c.say_reply.new.inner) c.requires.changes said h.2.reply
          (replied-anew b (inner_of c.unsay.new.inner) (inner_of c.say_reply.new.inner) c.args.conn e (fails name) same is),
    ))
    (λ is. is ∙ same)
    c.say_reply.ensures.ok

pub unsay-requires-in-Err : goal.unsay-requires-in-Err
unsay-requires-in-Err c =
    let b = inner_of c.args.inner.now in
    let said = rw c.in-Some.is at c.in_ok-said.ensures.ok in (
      b,
      envelope_of c.in_ok-done.done,
      said-again b (inner_of c.say_in_place.new.inner) (inner_of c.change_rules-2.new.inner) (envelope_of c.in_ok-done.done) c.in-Some.said.bytes c.in-Some.said.receivers.items c.in-Err.ensures.err said,
    )
