use Rattle.std.proofs.Common.{sym, subst}
use Rattle.atspi_tree_model.specs.RowRules.{shapes}
use Rattle.atspi_tree_model.specs.Tree.{AllApply}
use Rattle.atspi_hit_answers_tests.proofs.edits.edited.Goals as goal

pub loop-step-init : goal.loop-step-init
loop-step-init c = subst (AllApply shapes c.args.tree.now.rows c.args.tree.now.added) (sym c.as_slice-step-items.ensures) (c.in-Ok.ensures.apply c.requires.plain)
