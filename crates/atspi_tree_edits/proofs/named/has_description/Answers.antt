use Rattle.std.proofs.Common.{sym, ◌∙◌}
use Rattle.std.specs.Prelude.{bytes_eq}
use Rattle.atspi_tree_model.specs.Row.{ShapeRow}
use Rattle.atspi_tree_model.specs.Tree.{is_shape}
use Rattle.atspi_tree_edits.proofs.Tests.{none_too, same_test}
use Rattle.atspi_tree_edits.proofs.Faults.{asked}
use Rattle.atspi_tree_edits.proofs.named.has_description.Goals as goal

pub returns-then-has : goal.returns-then-has
returns-then-has c =
    same_test c.is.result _ c.args.text.now c.is.ensures ∙ sym (asked c.args.tree.now c.args.node (λ (row : ShapeRow). row.description) _ (λ x. bytes_eq x c.args.text.now) c.has.ensures.lawful (sym c.has.ensures.answer ∙ c.if-has.true) c.description.ensures)

pub returns-else-has : goal.returns-else-has
returns-else-has c = sym (none_too (is_shape c.args.node) (λ (row : ShapeRow). bytes_eq row.description c.args.text.now) c.args.tree.now.rows (sym c.has.ensures.answer ∙ c.if-has.false))
