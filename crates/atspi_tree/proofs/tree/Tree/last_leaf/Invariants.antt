use Rattle.std.proofs.Common.{◌≡◌, ◌-◌, ℕ, true}
use Rattle.atspi_tree_model.specs.Forest.{count, has}
use Rattle.atspi_tree_model.specs.RowRules.{shapes}
use Rattle.atspi_tree_model.specs.Tree.{in_subtree, is_shape}
use Rattle.atspi_tree.proofs.Seated.{depth_of}
use Rattle.atspi_tree.proofs.tree.Tree.last_leaf.Given as goal

abbrev pub invariant-loop-child : goal.invariant-loop-child
invariant-loop-child l = record {
  there : has (is_shape l.at) l.self.rows ≡ true;
  inside : (top : ℕ) → in_subtree shapes top l.self.rows l.node ≡ true → in_subtree shapes top l.self.rows l.at ≡ true;
}

abbrev pub decreases-loop-child : goal.decreases-loop-child
decreases-loop-child l = count (λ row. true) l.self.rows - depth_of l.at l.self.rows
