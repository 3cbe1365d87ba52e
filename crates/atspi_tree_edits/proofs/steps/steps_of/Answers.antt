use Rattle.atspi_tree_edits.proofs.Filled.{told_apply}
use Rattle.atspi_tree_edits.proofs.steps.steps_of.Goals as goal

pub returns-clause-apply : goal.returns-clause-apply
returns-clause-apply c = told_apply c.args.tree.now c.args.known.now c.args.edit.now c.steps_by_kind.result c.is_lawful.ensures c.requires.lawful c.steps_by_kind.ensures
