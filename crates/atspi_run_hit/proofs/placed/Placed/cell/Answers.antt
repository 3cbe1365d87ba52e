use Rattle.atspi_run_hit.specs.inner.Seen.{seen}
use Rattle.atspi_run_hit.proofs.Asking.{cell_done, cell_refused}
use Rattle.atspi_run_hit.proofs.placed.Placed.cell.Goals as goal

pub returns-in-Some : goal.returns-in-Some
returns-in-Some g c = record { answers = cell_refused (seen g.T.Whole.tree_of c.args.self.now) c.args.node c.args.index c.args.way c.columns-columns.result c.tree-tree.result.now c.cell_fault.result c.in-Some.why c.tree-tree.ensures c.columns-columns.ensures c.cell_fault.ensures.fault c.in-Some.is }

pub returns-in-Ok : goal.returns-in-Ok
returns-in-Ok g c = record { answers = cell_done (seen g.T.Whole.tree_of c.args.self.now) c.args.node c.args.index c.args.way c.columns-columns.result c.tree-tree.result.now c.cell_fault.result c.beside.result _ _ c.tree-tree.ensures c.columns-columns.ensures c.cell_fault.ensures.fault c.in_default.is c.beside.ensures c.requires.empty c.in-Ok.ensures }
