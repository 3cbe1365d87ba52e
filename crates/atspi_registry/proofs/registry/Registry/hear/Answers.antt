use Rattle.std.proofs.Common.{sym, ap, ◌∙◌}
use Rattle.atspi_message_in_place.specs.View.{envelope_at}
use Rattle.atspi_protocol.specs.registering.Steps.{hears}
use Rattle.atspi_registry.proofs.Does.{same_step, quiet}
use Rattle.atspi_registry.proofs.Takes.{takes_heard}
use Rattle.atspi_registry.proofs.registry.Registry.hear.Goals as goal

pub returns-in-Some : goal.returns-in-Some
returns-in-Some c =
    let s = c.args.self.now.state in
    same_step _ _ _ _ _ (ap (hears s) c.in-Some.ensures ∙ sym (takes_heard s (envelope_at c.args.m.now) c.requires.named c.requires.no_call)) c.lose.ensures

pub returns-in-None : goal.returns-in-None
returns-in-None c =
    let s = c.args.self.now.state in
    same_step _ _ _ _ _ (ap (hears s) c.in-None.ensures ∙ sym (takes_heard s (envelope_at c.args.m.now) c.requires.named c.requires.no_call)) (quiet _ c.args.self.now c.requires.within)
