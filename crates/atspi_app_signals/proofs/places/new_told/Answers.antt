use Rattle.std.proofs.Common.{sym, ◌∙◌}
use Rattle.std.specs.Prelude.{pos}
use Rattle.atspi_tree_model.specs.Announce.{own, item_of}
use Rattle.atspi_tree_model.specs.RowRules.{rows}
use Rattle.atspi_protocol.specs.announcing.Signals.{added}
use Rattle.atspi_app_signals.proofs.Asked.{asked_none, asked_pushed}
use Rattle.atspi_app_signals.proofs.places.new_told.Goals as goal

pub returns-then-not-is_covered : goal.returns-then-not-is_covered
returns-then-not-is_covered c =
    asked_none c.args.heard.now (added (item_of c.args.bus.now (own c.args.bus.now c.args.parent) (pos c.args.index) 0 (rows.first c.args.node c.args.seed.now))) c.args.mail.now (sym c.is_covered.ensures ∙ c.if-not-is_covered.true)

pub returns : goal.returns
returns c =
    asked_pushed c.args.heard.now (added (item_of c.args.bus.now (own c.args.bus.now c.args.parent) (pos c.args.index) 0 (rows.first c.args.node c.args.seed.now))) _ _ c.args.mail.now
    (sym c.is_covered.ensures ∙ c.if-not-is_covered.false) c.in_ok-new_node.ensures c.in_ok-push.ensures.ok
