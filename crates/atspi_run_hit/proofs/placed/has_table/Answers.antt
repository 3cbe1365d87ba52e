use Rattle.std.proofs.Common.{not, ap}
use Rattle.atspi_tree_model.specs.Row.{ShapeRow}
use Rattle.atspi_tree_model.specs.declared.contents.Kinds.{Kinds}
use Rattle.atspi_tree_edits.proofs.Faults.{asked}
use Rattle.atspi_run_hit.proofs.placed.has_table.Goals as goal

pub returns : goal.returns
returns c = ap not (asked c.args.tree.now c.args.node (λ (row : ShapeRow). row.kinds) _ (λ (k : Kinds). k.table) c.requires.lawful c.requires.there c.kinds.ensures)
