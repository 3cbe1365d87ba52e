use Rattle.atspi_run_hit.specs.inner.Seen.{seen}
use Rattle.atspi_run_hit.proofs.Asking.{follow_done, follow_refused}
use Rattle.atspi_run_hit.proofs.placed.Placed.follow.Goals as goal

pub returns-in-Some : goal.returns-in-Some
returns-in-Some g c = record { answers = follow_refused (seen g.T.Whole.tree_of c.args.self.now) c.args.node c.args.kind c.tree-tree.result.now c.follow_fault.result c.in-Some.why c.tree-tree.ensures c.follow_fault.ensures.fault c.in-Some.is }

pub returns-in-Ok : goal.returns-in-Ok
returns-in-Ok g c = record { answers = follow_done (seen g.T.Whole.tree_of c.args.self.now) c.args.node c.args.kind c.tree-tree.result.now c.follow_fault.result c.targets.result.now _ _ c.tree-tree.ensures c.follow_fault.ensures.fault c.in_default.is c.targets.ensures c.requires.empty c.in-Ok.ensures }
