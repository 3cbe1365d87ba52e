use Rattle.std.proofs.Common.{ℕ, List, length, ap, sym, ◌∙◌}
use Rattle.atspi_tree_model.specs.Forest.{children_at, take_out}
use Rattle.atspi_tree_model.specs.Tree.{is_shape}
use Rattle.atspi_tree.specs.Table.{all_but}
use Rattle.atspi_tree.proofs.Moved.{numbers-take_out}
use Rattle.atspi_tree.proofs.Trees.{width-numbers}
use Rattle.atspi_tree_edits.proofs.moves.room.Goals as goal

pub returns : goal.returns
returns c =
    let children = children_at (is_shape c.args.parent) c.args.tree.now.rows in
    c.count_others.ensures
    ∙ ap (λ (l : List ℕ). length (all_but c.args.node l)) c.children.ensures
    ∙ ap (λ (l : List ℕ). length l) (sym (numbers-take_out c.args.node children))
    ∙ width-numbers (take_out (is_shape c.args.node) children)
