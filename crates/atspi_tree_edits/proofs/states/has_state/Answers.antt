use Rattle.std.proofs.Common.{sym, ◌∙◌}
use Rattle.atspi_tree_model.specs.Row.{ShapeRow}
use Rattle.atspi_tree_model.specs.States.{has_state}
use Rattle.atspi_tree_model.specs.Tree.{is_shape}
use Rattle.atspi_tree_edits.proofs.Tests.{none_too}
use Rattle.atspi_tree_edits.proofs.Faults.{asked}
use Rattle.atspi_tree_edits.proofs.states.has_state.Goals as goal

pub returns-then-has : goal.returns-then-has
returns-then-has c =
    c.is_set.ensures ∙ sym (asked c.args.tree.now c.args.node (λ (row : ShapeRow). row.states) _ (λ x. has_state c.args.state x) c.has.ensures.lawful (sym c.has.ensures.answer ∙ c.if-has.true) c.states.ensures)

pub returns-else-has : goal.returns-else-has
returns-else-has c = sym (none_too (is_shape c.args.node) (λ (row : ShapeRow). has_state c.args.state row.states) c.args.tree.now.rows (sym c.has.ensures.answer ∙ c.if-has.false))
