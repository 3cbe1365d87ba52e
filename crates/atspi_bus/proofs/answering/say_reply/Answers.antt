use Rattle.std.proofs.Common.{sym, subst}
use Rattle.atspi_message_in_place.specs.View.{envelope_at}
use Rattle.atspi_bus_answers.specs.Answered.{reply_of}
use Rattle.atspi_bus_steps.specs.InnerBus.{state_of}
use Rattle.atspi_bus_steps.specs.Sayable.{MaySay}
use Rattle.atspi_bus_steps.proofs.Sayables.{say-reply}
use Rattle.atspi_bus.proofs.answering.say_reply.Goals as goal

pub say_in_place-requires-clause-sayable : goal.say_in_place-requires-clause-sayable
say_in_place-requires-clause-sayable c =
    subst MaySay (sym c.in_ok-message.ensures)
    (say-reply (state_of c.args.inner.now) c.args.conn (envelope_at c.args.m.now).serial (reply_of c.args.reply) c.requires.meets.numbered c.requires.typed)
