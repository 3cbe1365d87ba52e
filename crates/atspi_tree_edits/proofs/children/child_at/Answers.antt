use Rattle.std.proofs.Common.{ℕ, List, length, ap, arith}
use Rattle.atspi_tree_model.specs.Forest.{children_at}
use Rattle.atspi_tree_model.specs.Tree.{is_shape}
use Rattle.atspi_tree.proofs.Trees.{width-numbers}
use Rattle.atspi_tree_edits.proofs.children.child_at.Goals as goal

pub bounds-children-index : goal.bounds-children-index
bounds-children-index c =
    let e = ap (λ (l : List ℕ). length l) c.children.ensures in
    let w = width-numbers (children_at (is_shape c.args.node) c.args.tree.now.rows) in
    let r = c.requires.in_range in
    omega arith
