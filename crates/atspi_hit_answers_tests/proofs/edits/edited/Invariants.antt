use Rattle.std.proofs.Common.{drop}
use Rattle.atspi_tree_model.specs.RowRules.{shapes}
use Rattle.atspi_tree_model.specs.Tree.{AllApply}
use Rattle.atspi_hit_answers_tests.proofs.edits.edited.Given as goal

-- the steps that are left apply, one after another
abbrev pub invariant-loop-step : goal.invariant-loop-step
invariant-loop-step l = AllApply shapes l.tree.rows l.tree.added (drop l.step-index l.step-items)
