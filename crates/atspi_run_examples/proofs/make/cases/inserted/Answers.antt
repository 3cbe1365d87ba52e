use Rattle.std.proofs.Common.{refl}
use Rattle.std.specs.Fmt.{digits}
use Rattle.atspi_run_examples.proofs.make.cases.inserted.Goals as goal

pub returns-clause-seed : goal.returns-clause-seed
unfolding digits
returns-clause-seed c = refl
