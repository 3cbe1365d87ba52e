use Rattle.std.proofs.Common.{refl}
use Rattle.std.specs.Fmt.{digits}
use Rattle.atspi_run_examples.proofs.make.cases.moved.Goals as goal

pub returns-clause-root : goal.returns-clause-root
unfolding digits
returns-clause-root c = refl

pub returns-clause-itself : goal.returns-clause-itself
unfolding digits
returns-clause-itself c = refl

pub returns-clause-below : goal.returns-clause-below
unfolding digits
returns-clause-below c = refl
