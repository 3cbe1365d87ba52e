use Rattle.atspi_app_exported.proofs.Copied.{right_caret}
use Rattle.atspi_app_exported.proofs.copies.copy_node.Goals as goal

pub put_node-requires-clause-caret_inside : goal.put_node-requires-clause-caret_inside
put_node-requires-clause-caret_inside g c =
    right_caret (g.F.Face.of_kind c.args.from.now) (g.F.Face.nodes c.args.from.now) c.args.node c.in_ok-data.data c.kind.ensures.contents c.in_ok-data.ensures
