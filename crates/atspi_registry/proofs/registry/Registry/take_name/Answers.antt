use Rattle.std.proofs.Common.{ap, chars, List, ℕ, [], Some}
use Rattle.atspi_protocol.specs.registering.Steps.{Registry, named, speaks}
use Rattle.atspi_registry.proofs.Does.{from_parts, same_step, quiet_named, state_of}
use Rattle.atspi_registry.proofs.registry.Registry.take_name.Goals as goal

pub returns : goal.returns
returns c =
    let i = c.self.inside in
    from_parts _ _ _ _ (λ (r : Registry). named r.state (Some (chars c.args.name.now))) c.self.view_is
    (same_step _ _ _ _ _ (ap (λ (n : List ℕ). speaks (state_of i.pairs i.children i.embeds i.hello (Some n) i.out.next) []) c.in_ok-text.ensures)
    (quiet_named _ i.pairs i.children i.embeds i.hello i.own (Some c.in_ok-text.text) i.out c.self.invariant))
