use Rattle.std.proofs.Common.{sym, ◌∙◌}
use Rattle.atspi_tree.proofs.Trees.{holding}
use Rattle.atspi_tree.proofs.tree.Tree.len.Goals as goal

pub returns-clause-count : goal.returns-clause-count
returns-clause-count c = c.len.ensures.len ∙ sym (holding _ _ c.args.self.now c.self.invariant c.self.view_is).held.size

pub returns-clause-lawful : goal.returns-clause-lawful
returns-clause-lawful c = (holding _ _ c.args.self.now c.self.invariant c.self.view_is).lawful
