use Rattle.std.proofs.Common.{◌++◌, map, ap, ◌∙◌}
use Rattle.std.proofs.lemmas.List.{map-append}
use Rattle.atspi_message.specs.Envelope.{envelope_of}
use Rattle.atspi_bus_steps.proofs.leaving.tell_callers.Goals as goal

pub returns-clause-ok : goal.returns-clause-ok
returns-clause-ok c =
    ap (map envelope_of) c.in_ok-append.ensures.items ∙ map-append envelope_of c.args.told.now.items c.in_ok-replies.replies.items
    ∙ ap (λ l. map envelope_of c.args.told.now.items ++ l) c.in_ok-replies.ensures
