use Rattle.std.proofs.Common.{arith}
use Rattle.atspi_tree.proofs.Moved.{fewer}
use Rattle.atspi_tree.proofs.states.shift.Goals as goal

pub unreachable-requires : goal.unreachable-requires
unreachable-requires c =
    let f = fewer c.args.node c.args.children.now.items c.requires.there in
    let b = c.args.children.now.ok in
    omega (arith, b.0, b.1, c.drop_child.ensures.len, c.drop_child.ensures.capacity, c.in-Err.ensures.full)
