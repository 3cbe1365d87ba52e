use Rattle.std.proofs.Common.{sym, ◌∙◌}
use Rattle.std.specs.Prelude.{codes}
use Rattle.atspi_protocol.specs.announcing.Signals.{child_changed}
use Rattle.atspi_app_signals.proofs.Asked.{asked_none, asked_pushed}
use Rattle.atspi_app_signals.proofs.places.arrived.Goals as goal

pub returns-then-not-is_covered : goal.returns-then-not-is_covered
returns-then-not-is_covered c =
    asked_none c.args.heard.now (child_changed c.args.bus.now c.args.parent (codes "add") c.args.index c.args.node) c.args.mail.now (sym c.is_covered.ensures ∙ c.if-not-is_covered.true)

pub returns : goal.returns
returns c =
    asked_pushed c.args.heard.now (child_changed c.args.bus.now c.args.parent (codes "add") c.args.index c.args.node) _ _ c.args.mail.now
    (sym c.is_covered.ensures ∙ c.if-not-is_covered.false) c.in_ok-child_added.ensures c.in_ok-push.ensures.ok
