use Rattle.std.proofs.Common.{Some, ap, ◌∙◌}
use Rattle.atspi_message.specs.Bytes.{written}
use Rattle.atspi_protocol.specs.registering.Steps.{takes}
use Rattle.atspi_world_parties.proofs.hearing.hear_front.Goals as goal

pub returns-in-None-clause-hears : goal.returns-in-None-clause-hears
returns-in-None-clause-hears c = λ m rest is front. absurd (c.in-None.ensures.given m (written m) rest is (c.as_slice.ensures ∙ front))

pub returns-in-Ok-clause-hears : goal.returns-in-Ok-clause-hears
returns-in-Ok-clause-hears c = λ m rest is front.
    let given = c.in-Some.ensures.given m (written m) rest is (c.as_slice.ensures ∙ front) in
    record { long = ap Some given.1; took = c.in-Ok.ensures.ok ∙ ap (takes c.args.registry.now) given.0 }
