use Rattle.std.proofs.Common.{◌==◌, sym, ◌∙◌}
use Rattle.atspi_tree_model.specs.Row.{ShapeRow}
use Rattle.atspi_tree_model.specs.Tree.{is_shape}
use Rattle.atspi_tree_edits.proofs.Tests.{none_too}
use Rattle.atspi_tree_edits.proofs.Faults.{asked}
use Rattle.atspi_tree_edits.proofs.named.has_role.Goals as goal

pub returns-then-has : goal.returns-then-has
returns-then-has c =
    sym (asked c.args.tree.now c.args.node (λ (row : ShapeRow). row.role) _ (λ x. x == c.args.role) c.has.ensures.lawful (sym c.has.ensures.answer ∙ c.if-has.true) c.role.ensures)

pub returns-else-has : goal.returns-else-has
returns-else-has c = sym (none_too (is_shape c.args.node) (λ (row : ShapeRow). row.role == c.args.role) c.args.tree.now.rows (sym c.has.ensures.answer ∙ c.if-has.false))
