use Rattle.std.proofs.Common.{ℕ, List, length, ap, ◌∙◌}
use Rattle.atspi_tree_model.specs.Forest.{children_at}
use Rattle.atspi_tree_model.specs.Tree.{is_shape}
use Rattle.atspi_tree.proofs.Trees.{width-numbers}
use Rattle.atspi_tree_edits.proofs.inserts.child_count.Goals as goal

pub returns : goal.returns
returns c =
    ap (λ (l : List ℕ). length l) c.children.ensures
    ∙ width-numbers (children_at (is_shape c.args.node) c.args.tree.now.rows)
