use Rattle.std.proofs.Common.{ap, ◌∙◌}
use Rattle.std.proofs.lemmas.Result.{IfOk-weaker}
use Rattle.atspi_message.specs.Envelope.{envelope_of}
use Rattle.atspi_match.specs.routing.Routing as routing
use Rattle.atspi_bus_steps.specs.InnerBus.{parts}
use Rattle.atspi_bus_steps.proofs.receiving.receivers_of_own.Goals as goal

pub parse-requires-clause-length : goal.parse-requires-clause-length
parse-requires-clause-length c = (c.messages_are_asked_for.ensures (envelope_of c.args.message.now) c.args.bytes.now c.requires.message).length

pub parse-requires-clause-sound : goal.parse-requires-clause-sound
parse-requires-clause-sound c = (c.messages_are_asked_for.ensures (envelope_of c.args.message.now) c.args.bytes.now c.requires.message).sound

pub unreachable-requires : goal.unreachable-requires
unreachable-requires c = c.in-Err.ensures.only (envelope_of c.args.message.now) c.requires.message

pub returns : goal.returns
returns c =
    IfOk-weaker c.receivers.result _ _
    (λ conns h. h ∙ ap (routing.receivers (parts c.args.joined.now c.args.names.now c.args.rules.now)) (c.in-Ok.ensures.only (envelope_of c.args.message.now) c.requires.message))
    c.receivers.ensures
