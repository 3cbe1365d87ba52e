use Rattle.std.proofs.Common.{map}
use Rattle.atspi_tree_model.specs.Forest.{labels, pick}
use Rattle.atspi_tree_model.specs.Row.{ShapeRow}
use Rattle.atspi_tree_model.specs.RowRules.{shapes}
use Rattle.atspi_tree_model.specs.Tree.{is_shape, seat_of}
use Rattle.atspi_protocol.specs.announcing.Signals.{removed}
use Rattle.atspi_protocol.specs.announcing.Announced.{left}
use Rattle.atspi_app_signals.proofs.Asked.{asked_two}
use Rattle.atspi_app_signals.proofs.places.removed.Goals as goal

pub returns : goal.returns
returns c =
    let t = c.args.tree.now in
    let n = c.args.node in
    let bus = c.args.bus.now in
    asked_two c.args.heard.now (left bus n (seat_of shapes n t.rows)) (map (λ (row : ShapeRow). removed bus row.node) (labels (pick (is_shape n) t.rows))) c.args.mail.now _ _
    c.in_ok-left.ensures c.in_ok-gone.ensures
