use Rattle.std.proofs.Common.{sym, ap, ◌∙◌, Option, ℕ, List}
use Rattle.atspi_message_in_place.specs.View.{envelope_at}
use Rattle.atspi_protocol.specs.registering.Steps.{named, name_told}
use Rattle.atspi_registry.proofs.Does.{same_step, quiet}
use Rattle.atspi_registry.proofs.Takes.{takes_unnamed}
use Rattle.atspi_registry.proofs.registry.Registry.be_named.Goals as goal

pub returns-in-Some : goal.returns-in-Some
returns-in-Some c =
    let s = c.args.self.now.state in
    same_step _ _ _ _ _
    (ap (named s) (c.in-Some.ensures.name ∙ ap (λ (h : Option ℕ). name_told h (envelope_at c.args.m.now)) c.hello_number.ensures) ∙ sym (takes_unnamed s (envelope_at c.args.m.now) c.requires.own))
    c.take_name.ensures

pub returns-in-None : goal.returns-in-None
returns-in-None c =
    let s = c.args.self.now.state in
    same_step _ _ _ _ _
    (ap (named s) (c.in-None.ensures.name ∙ ap (λ (h : Option ℕ). name_told h (envelope_at c.args.m.now)) c.hello_number.ensures) ∙ sym (takes_unnamed s (envelope_at c.args.m.now) c.requires.own))
    (quiet _ c.args.self.now c.requires.within)
