use Rattle.std.proofs.Common.{sym, ◌∙◌}
use Rattle.atspi_tree_model.specs.RowRules.{shapes}
use Rattle.atspi_tree_model.specs.Tree.{seat_of}
use Rattle.atspi_app_signals.proofs.Told.{left_unheard, left_pushed}
use Rattle.atspi_app_signals.proofs.places.left.Goals as goal

pub returns-then-not-is_covered : goal.returns-then-not-is_covered
returns-then-not-is_covered c =
    left_unheard c.args.heard.now c.args.bus.now c.args.node (seat_of shapes c.args.node c.args.tree.now.rows) (sym c.is_covered.ensures ∙ c.if-not-is_covered.true) c.args.mail.now

pub returns : goal.returns
returns c =
    left_pushed c.args.heard.now c.args.bus.now c.args.node c.in-Some.parent c.seat_index-index.result (seat_of shapes c.args.node c.args.tree.now.rows) _ _ c.args.mail.now
    c.seat_index-index.ensures.seat (sym c.is_covered.ensures ∙ c.if-not-is_covered.false) c.in_ok-child_removed.ensures c.in_ok-push.ensures.ok
