use Rattle.std.proofs.Common.{refl, ap, ◌∙◌}
use Rattle.atspi_message.specs.Bytes.{written}
use Rattle.atspi_message.specs.Envelope.{envelope_of}
use Rattle.atspi_match.specs.routing.Routing as routing
use Rattle.atspi_bus_steps.specs.InnerBus.{inner_of, state_of, parts}
use Rattle.atspi_bus_steps.proofs.Asking.{receivers-parts}
use Rattle.atspi_bus_steps.proofs.Said.{handed-is}
use Rattle.atspi_bus_steps.proofs.inner.Inner.hand.Goals as goal

pub returns-clause-ok : goal.returns-clause-ok
returns-clause-ok c =
    let self = c.args.self.now in
    let e = envelope_of c.args.message.now in
    handed-is (inner_of self) c.hand_out.new.queues e (written e) c.deref-2.result.now (c.in_ok-hand_out.ensures (written e) c.in_ok-spelled.ensures.spelled) refl
    (c.deref-2.ensures.value ∙ c.in_ok-receivers.ensures ∙ ap (λ j. routing.receivers (parts j self.names self.rules) e) c.deref.ensures.value ∙ receivers-parts (state_of self) e)

pub hand_out-requires : goal.hand_out-requires
hand_out-requires c = (written (envelope_of c.args.message.now), c.in_ok-spelled.ensures.spelled)
