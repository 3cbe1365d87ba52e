use Rattle.std.proofs.Common.{sym, subst}
use Rattle.atspi_tree_model.specs.declared.edit.Edit.{Edit}
use Rattle.atspi_tree_edits.specs.Answers.{GivesSteps, edit_steps}
use Rattle.atspi_tree_edits.proofs.steps.steps_by_kind.Goals as goal

pub returns-in-Remove : goal.returns-in-Remove
returns-in-Remove c = subst (λ (edit : Edit). GivesSteps c.remove.result (edit_steps c.args.tree.now c.args.known.now edit)) (sym c.in-Remove.is) (c.remove.ensures c.args.known.now)

pub returns-in-Name : goal.returns-in-Name
returns-in-Name c = subst (λ (edit : Edit). GivesSteps c.name.result (edit_steps c.args.tree.now c.args.known.now edit)) (sym c.in-Name.is) (c.name.ensures c.args.known.now)

pub returns-in-Describe : goal.returns-in-Describe
returns-in-Describe c = subst (λ (edit : Edit). GivesSteps c.describe.result (edit_steps c.args.tree.now c.args.known.now edit)) (sym c.in-Describe.is) (c.describe.ensures c.args.known.now)

pub returns-in-Role : goal.returns-in-Role
returns-in-Role c = subst (λ (edit : Edit). GivesSteps c.role.result (edit_steps c.args.tree.now c.args.known.now edit)) (sym c.in-Role.is) (c.role.ensures c.args.known.now)

pub returns-in-State : goal.returns-in-State
returns-in-State c = subst (λ (edit : Edit). GivesSteps c.state.result (edit_steps c.args.tree.now c.args.known.now edit)) (sym c.in-State.is) (c.state.ensures c.args.known.now)

pub returns-in-Relate : goal.returns-in-Relate
returns-in-Relate c = subst (λ (edit : Edit). GivesSteps c.relate.result (edit_steps c.args.tree.now c.args.known.now edit)) (sym c.in-Relate.is) (c.relate.ensures c.args.known.now)

pub returns-in-Unrelate : goal.returns-in-Unrelate
returns-in-Unrelate c = subst (λ (edit : Edit). GivesSteps c.unrelate.result (edit_steps c.args.tree.now c.args.known.now edit)) (sym c.in-Unrelate.is) (c.unrelate.ensures c.args.known.now)

pub returns-in-Move : goal.returns-in-Move
returns-in-Move c = subst (λ (edit : Edit). GivesSteps c.shift.result (edit_steps c.args.tree.now c.args.known.now edit)) (sym c.in-Move.is) (c.shift.ensures c.args.known.now)

pub returns-in-Focus : goal.returns-in-Focus
returns-in-Focus c = subst (λ (edit : Edit). GivesSteps c.focus.result (edit_steps c.args.tree.now c.args.known.now edit)) (sym c.in-Focus.is) (c.focus.ensures c.args.known.now)
