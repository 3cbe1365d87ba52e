use Rattle.std.proofs.Common.{sym, ap, ◌∙◌, chars, List, ℕ}
use Rattle.atspi_message_in_place.specs.View.{envelope_at}
use Rattle.atspi_protocol.specs.registering.Answers.{adopts, releases}
use Rattle.atspi_protocol.specs.registering.Steps.{answered}
use Rattle.atspi_registry.proofs.Does.{same_step}
use Rattle.atspi_registry.proofs.Takes.{own_root, another_root}
use Rattle.atspi_registry.proofs.registry.Registry.unembed.Goals as goal

pub returns-then-not-is_same : goal.returns-then-not-is_same
returns-then-not-is_same c = λ place.
    (let s = c.args.self.now.state in
    same_step _ _ _ _ _
    (ap (answered s c.args.sender.now (envelope_at c.args.m.now)) (sym (another_root s c.args.sender.now c.args.name.now place (releases s c.args.sender.now) c.utf8.name (sym c.is_same.ensures ∙ c.if-not-is_same.true))))
    c.refuse.ensures)

pub returns : goal.returns
returns c = λ place.
    (let s = c.args.self.now.state in
    same_step _ _ _ _ _
    (ap (answered s c.args.sender.now (envelope_at c.args.m.now)) (sym (own_root s c.args.sender.now c.args.name.now place (releases s c.args.sender.now) c.utf8.name (sym c.is_same.ensures ∙ c.if-not-is_same.false))))
    c.give_back.ensures)
