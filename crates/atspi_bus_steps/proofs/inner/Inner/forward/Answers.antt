use Rattle.std.proofs.Common.{map, refl, ap, ◌∙◌}
use Rattle.atspi_message_in_place.specs.View.{envelope_at}
use Rattle.atspi_message.specs.Bytes.{written}
use Rattle.atspi_match.specs.routing.Steps.{calls_after_all}
use Rattle.atspi_bus_steps.specs.InnerBus.{inner_of, call_of}
use Rattle.atspi_bus_steps.proofs.Ends.{forwarded-is}
use Rattle.atspi_bus_steps.proofs.inner.Inner.forward.Goals as goal

pub returns-clause-ok : goal.returns-clause-ok
returns-clause-ok c =
    let e = envelope_at c.args.m.now in
    forwarded-is (inner_of c.args.self.now) c.args.conn c.hand_out.new.queues e (written e) c.args.receivers.now (map call_of c.note_all.new.calls.items)
    (c.in_ok-hand_out.ensures (written e) c.in_ok-spelled.ensures.spelled) refl c.requires.receivers
    (c.note_all.ensures ∙ ap (λ k. calls_after_all (map call_of k) c.args.conn e c.args.receivers.now) c.reserve.ensures.items)

pub hand_out-requires : goal.hand_out-requires
hand_out-requires c = (written (envelope_at c.args.m.now), c.in_ok-spelled.ensures.spelled)
