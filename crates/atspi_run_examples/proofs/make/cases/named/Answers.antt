use Rattle.std.proofs.Common.{refl}
use Rattle.std.specs.Fmt.{digits}
use Rattle.atspi_run_examples.proofs.make.cases.named.Goals as goal

pub returns : goal.returns
unfolding digits
returns c = refl
