use Rattle.std.proofs.Common.{sym, ◌∙◌}
use Rattle.std.specs.Prelude.{codes}
use Rattle.atspi_tree_model.specs.Path.{path_of}
use Rattle.atspi_protocol.specs.ends.Places.{reference}
use Rattle.atspi_protocol.specs.announcing.Signals.{property_changed}
use Rattle.atspi_app_signals.proofs.Asked.{asked_none, asked_pushed}
use Rattle.atspi_app_signals.proofs.places.reparented.Goals as goal

pub returns-then-not-is_covered : goal.returns-then-not-is_covered
returns-then-not-is_covered c =
    asked_none c.args.heard.now (property_changed c.args.node (codes "accessible-parent") (reference c.args.bus.now (path_of c.args.parent))) c.args.mail.now (sym c.is_covered.ensures ∙ c.if-not-is_covered.true)

pub returns : goal.returns
returns c =
    asked_pushed c.args.heard.now (property_changed c.args.node (codes "accessible-parent") (reference c.args.bus.now (path_of c.args.parent))) _ _ c.args.mail.now
    (sym c.is_covered.ensures ∙ c.if-not-is_covered.false) c.in_ok-parent_changed.ensures c.in_ok-push.ensures.ok
