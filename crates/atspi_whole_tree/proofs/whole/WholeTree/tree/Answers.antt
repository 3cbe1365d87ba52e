use Rattle.atspi_whole_tree.specs.inner.Tables.{parts_of}
use Rattle.atspi_whole_tree.proofs.Read.{shape_is, lawful_is}
use Rattle.atspi_whole_tree.proofs.whole.WholeTree.tree.Goals as goal

pub returns-clause-shape : goal.returns-clause-shape
returns-clause-shape c = shape_is (parts_of c.self.inside.held) c.args.self.now c.self.view_is

pub returns-clause-lawful : goal.returns-clause-lawful
returns-clause-lawful c = lawful_is (parts_of c.self.inside.held) c.args.self.now c.self.view_is c.self.invariant
