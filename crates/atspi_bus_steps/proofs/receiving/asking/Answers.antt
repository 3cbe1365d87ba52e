use Rattle.std.proofs.Common.{◌++◌, ap, ◌∙◌}
use Rattle.std.specs.List.{filter}
use Rattle.std.proofs.lemmas.Result.{IfOk-weaker}
use Rattle.atspi_message_in_place.specs.View.{envelope_at}
use Rattle.atspi_bus_steps.specs.inner.Asking.{has_joined}
use Rattle.atspi_bus_steps.proofs.Asking.{asking-is}
use Rattle.atspi_bus_steps.proofs.receiving.asking.Goals as goal

pub returns : goal.returns
returns c =
    let r = c.in_ok-receivers.ensures.ok in
    IfOk-weaker c.still_joined.result _ _
    (λ conns h. h ∙ ap (filter (has_joined c.args.joined.now)) (c.as_slice.ensures ∙ r.1 ∙ ap (λ l. l ++ r.0) c.new-found.ensures)
    ∙ asking-is c.args.joined.now r.0 c.args.names.now c.args.rules.now (envelope_at c.args.m.now) c.requires r.2)
    c.still_joined.ensures
