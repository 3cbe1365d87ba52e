use Rattle.std.proofs.Common.{◌≡◌, ◌≤◌, ℕ, true, List, length, subst, sym}
use Rattle.std.specs.Prelude.{All}
use Rattle.atspi_tree_model.specs.Forest.{has}
use Rattle.atspi_tree_model.specs.Tree.{is_shape}
use Rattle.atspi_app_values.proofs.Indexes.{few_children}
use Rattle.atspi_app_answers.proofs.SelectedLemmas.{all_there}
use Rattle.atspi_app_answers.proofs.selected.selected_count.Goals as goal

pub selected_among-requires-clause-there : goal.selected_among-requires-clause-there
selected_among-requires-clause-there c =
    subst (λ (xs : List ℕ). All (λ n. has (is_shape n) c.args.tree.now.rows ≡ true) xs) (sym c.children.ensures) (all_there c.args.tree.now c.args.node c.is_lawful.ensures)

pub selected_among-requires-clause-few : goal.selected_among-requires-clause-few
selected_among-requires-clause-few c =
    subst (λ (xs : List ℕ). length xs ≤ 8192) (sym c.children.ensures) (few_children c.args.tree.now c.args.node c.is_lawful.ensures)
