use Rattle.std.proofs.Common.{sym, subst}
use Rattle.atspi_message_in_place.specs.View.{envelope_at}
use Rattle.atspi_bus_answers.specs.Answered.{with_parts}
use Rattle.atspi_bus_steps.specs.Sayable.{IsTyped}
use Rattle.atspi_bus_steps.proofs.Sayables.{sayable}
use Rattle.atspi_bus.proofs.answering.tell_in_place.Goals as goal

pub say_reply-requires-clause-typed : goal.say_reply-requires-clause-typed
say_reply-requires-clause-typed c =
    let h = c.in_ok-reply.ensures.ok in
    let s = with_parts c.args.inner.now.names c.args.inner.now.rules in
    subst IsTyped (sym h.2.reply) (sayable c.args.member s c.args.conn (envelope_at c.args.m.now).body h.0).typed
