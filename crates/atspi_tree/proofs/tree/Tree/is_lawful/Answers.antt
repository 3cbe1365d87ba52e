use Rattle.atspi_tree.proofs.Trees.{holding}
use Rattle.atspi_tree.proofs.tree.Tree.is_lawful.Goals as goal

pub returns : goal.returns
returns c = (holding _ _ c.args.self.now c.self.invariant c.self.view_is).lawful
