use Rattle.std.proofs.Common.{rules, length, ◌∙◌, w32, SFits}
use Rattle.std.proofs.lemmas.Int.{to_z-of_z}
use Rattle.atspi_tree_model.specs.Announce.{own}
use Rattle.atspi_tree.specs.TreeShape.{children_of, row_of}
use Rattle.atspi_app_signals.proofs.Told.{item_sent}
use Rattle.atspi_app_signals.proofs.places.moved_node.Goals as goal

pub returns : goal.returns
returns c =
    let t = c.args.tree.now in
    let n = c.args.node in
    let bus = c.args.bus.now in
    let fits : SFits w32 c.signed-place.result = search rules in
    item_sent bus (own bus c.args.parent) _ c.args.index (length (children_of n t)) (row_of n t) _ _
    (to_z-of_z w32 c.signed-place.result fits ∙ c.signed-place.ensures) c.in_ok-item.ensures c.in_ok-message.ensures
