use Rattle.std.proofs.Common.{arith}
use Rattle.atspi_examples.proofs.lawful.no_trees.Goals as goal

pub returns-clause-twice : goal.returns-clause-twice
returns-clause-twice c = λ t. let o = t.once 1 in grind (arith, o)
