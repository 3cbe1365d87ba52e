use Rattle.std.proofs.Common.{refl}
use Rattle.std.specs.FinMap.{gets}
use Rattle.atspi_examples.proofs.protocol.whole.trees.Goals as goal

pub returns-clause-filled : goal.returns-clause-filled
returns-clause-filled c = simp gets refl

pub returns-clause-whole : goal.returns-clause-whole
returns-clause-whole c = simp gets refl
