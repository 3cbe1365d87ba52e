use Rattle.std.proofs.Common.{refl}
use Rattle.std.specs.FinMap.{gets}
use Rattle.atspi_protocol.proofs.whole.examples.contents.Goals as goal

pub returns-clause-text : goal.returns-clause-text
returns-clause-text c = simp gets refl

pub returns-clause-table : goal.returns-clause-table
returns-clause-table c = simp gets refl

pub returns-clause-root : goal.returns-clause-root
returns-clause-root c = simp gets refl

pub returns-clause-none : goal.returns-clause-none
returns-clause-none c = simp gets refl
