use Rattle.std.proofs.Common.{◌++◌, length}
use Rattle.std.specs.Option.{option_map}
use Rattle.atspi_tree_model.specs.RowRules.{shapes}
use Rattle.atspi_tree_model.specs.Tree.{seat_of}
use Rattle.atspi_protocol.specs.announcing.Announced.{left, told_node}
use Rattle.atspi_tree.specs.TreeShape.{children_of, row_of}
use Rattle.atspi_app_items.specs.Bare.{bare}
use Rattle.atspi_app_signals.proofs.Asked.{asked_two}
use Rattle.atspi_app_signals.proofs.Told.{settled}
use Rattle.atspi_app_signals.proofs.places.moved.Goals as goal

pub returns : goal.returns
returns c =
    let t = c.args.tree.now in
    let n = c.args.node in
    let bus = c.args.bus.now in
    let item = told_node bus c.args.parent c.args.index (length (children_of n t)) (option_map bare (row_of n t)) in
    let gone = left bus n (seat_of shapes n t.rows) in
    asked_two c.args.heard.now (item ++ gone) (settled bus n c.args.parent c.args.index) c.args.mail.now _ _
    (asked_two c.args.heard.now item gone c.args.mail.now _ _ c.in_ok-moved_told.ensures c.in_ok-left.ensures) c.in_ok-settled.ensures
