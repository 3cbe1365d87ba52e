use Rattle.std.proofs.Common.{sym, ap, ◌∙◌}
use Rattle.std.specs.Prelude.{codes}
use Rattle.atspi_protocol.specs.announcing.Signals.{state_changed}
use Rattle.atspi_protocol.specs.exporting.Hearing.{is_covered}
use Rattle.atspi_app_signals.proofs.Asked.{asked_none, asked_pushed}
use Rattle.atspi_app_signals.proofs.changes.state.Goals as goal

pub returns-then-not-is_covered : goal.returns-then-not-is_covered
returns-then-not-is_covered c =
    asked_none c.args.heard.now (state_changed c.args.node c.args.state c.args.on) c.args.mail.now (ap (is_covered c.args.heard.now (codes "state-changed")) (sym c.name_of.ensures) ∙ sym c.is_covered.ensures ∙ c.if-not-is_covered.true)

pub returns : goal.returns
returns c =
    asked_pushed c.args.heard.now (state_changed c.args.node c.args.state c.args.on) _ _ c.args.mail.now
    (ap (is_covered c.args.heard.now (codes "state-changed")) (sym c.name_of.ensures) ∙ sym c.is_covered.ensures ∙ c.if-not-is_covered.false) c.in_ok-state_changed.ensures c.in_ok-push.ensures.ok
