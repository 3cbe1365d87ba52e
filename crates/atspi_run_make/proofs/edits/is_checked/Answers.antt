use Rattle.std.proofs.Common.{sym}
use Rattle.atspi_tree_model.specs.Row.{ShapeRow}
use Rattle.atspi_tree_model.specs.States.{checked, has_state}
use Rattle.atspi_run_make.proofs.Words.{asked}
use Rattle.atspi_run_make.proofs.edits.is_checked.Goals as goal

pub returns : goal.returns
returns c = sym (asked c.args.tree.now c.args.node (λ (row : ShapeRow). row.states) c.states.result (λ x. has_state checked x) c.requires.lawful c.requires.there c.states.ensures)
