use Rattle.std.proofs.Common.{sym, ◌∙◌, length}
use Rattle.std.specs.Option.{option_map}
use Rattle.atspi_tree.specs.TreeShape.{children_of, row_of}
use Rattle.atspi_app_items.specs.Bare.{bare}
use Rattle.atspi_app_signals.proofs.Told.{told_unheard, told_pushed}
use Rattle.atspi_app_signals.proofs.places.moved_told.Goals as goal

pub returns-then-not-is_covered : goal.returns-then-not-is_covered
returns-then-not-is_covered c =
    let t = c.args.tree.now in
    let n = c.args.node in
    told_unheard c.args.heard.now c.args.bus.now c.args.parent c.args.index (length (children_of n t)) (option_map bare (row_of n t))
    (sym c.is_covered.ensures ∙ c.if-not-is_covered.true) c.args.mail.now

pub returns : goal.returns
returns c =
    let t = c.args.tree.now in
    let n = c.args.node in
    told_pushed c.args.heard.now c.args.bus.now c.args.parent c.args.index (length (children_of n t)) n t _ _ c.args.mail.now
    c.requires.there (sym c.is_covered.ensures ∙ c.if-not-is_covered.false) c.in_ok-moved_node.ensures c.in_ok-push.ensures.ok
