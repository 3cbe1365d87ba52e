use Rattle.std.proofs.Common.{sym, ap, subst, ◌∙◌}
use Rattle.atspi_tree_model.specs.RowRules.{shapes}
use Rattle.atspi_tree_model.specs.Tree.{Changes}
use Rattle.atspi_tree_model.specs.declared.step.Step.TheVariants.{SetState}
use Rattle.atspi_tree.specs.TreeShape.{after_step, StepApplies}
use Rattle.atspi_tree.proofs.Trees.{text_step, step_there}
use Rattle.atspi_tree.proofs.tree.Tree.apply.Goals as goal

pub set_state-requires : goal.set_state-requires
set_state-requires c =
    let m : Changes shapes c.args.self.now.rows (SetState c.in-SetState.node c.in-SetState.state c.in-SetState.on) = subst (StepApplies c.args.self.now) c.in-SetState.is c.requires in
    record { there = step_there (SetState c.in-SetState.node c.in-SetState.state c.in-SetState.on) c.args.self.now m; known = m.allowed }

pub returns-in-Insert-clause-ok : goal.returns-in-Insert-clause-ok
returns-in-Insert-clause-ok c = sym (ap (after_step c.args.self.now) c.in-Insert.is ∙ text_step c.args.self.now c.in-Insert.node)

pub returns-in-Delete-clause-ok : goal.returns-in-Delete-clause-ok
returns-in-Delete-clause-ok c = sym (ap (after_step c.args.self.now) c.in-Delete.is ∙ text_step c.args.self.now c.in-Delete.node)

pub returns-in-Caret-clause-ok : goal.returns-in-Caret-clause-ok
returns-in-Caret-clause-ok c = sym (ap (after_step c.args.self.now) c.in-Caret.is ∙ text_step c.args.self.now c.in-Caret.node)

pub returns-in-TextSelect-clause-ok : goal.returns-in-TextSelect-clause-ok
returns-in-TextSelect-clause-ok c = sym (ap (after_step c.args.self.now) c.in-TextSelect.is ∙ text_step c.args.self.now c.in-TextSelect.node)
