use Rattle.std.proofs.Common.{◌∙◌}
use Rattle.atspi_tree.proofs.Related.{kind_of_row}
use Rattle.atspi_tree.specs.TreeShape.{row_of}
use Rattle.atspi_tree.proofs.tree.Tree.targets.Goals as goal

pub returns : goal.returns
returns c = c.of_kind.ensures ∙ kind_of_row c.args.kind (row_of c.args.node c.args.self.now) c.relations_of.result.now c.relations_of.ensures
