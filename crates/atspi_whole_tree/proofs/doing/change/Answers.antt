use Rattle.atspi_app_exported.proofs.Changing.{can_do, text_done}
use Rattle.atspi_whole_tree.specs.inner.Tables.{parts_of}
use Rattle.atspi_whole_tree.proofs.doing.change.Goals as goal

pub change_text-requires-clause-can : goal.change_text-requires-clause-can
change_text-requires-clause-can c = can_do c.args.held.now.tree.rows (parts_of c.args.held.now).faces c.args.held.now.tree.added c.args.step.now c.requires.of_text c.requires.can.applies

pub returns-clause-ok : goal.returns-clause-ok
returns-clause-ok c = text_done (parts_of c.args.held.now) c.args.step.now _ c.change_text.result c.requires.of_text c.change_text.ensures.ok
