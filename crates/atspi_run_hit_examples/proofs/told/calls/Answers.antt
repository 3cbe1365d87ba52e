use Rattle.std.proofs.Common.{refl}
use lib.Utf8.{encode}
use Rattle.std.specs.Fmt.{digits}
use Rattle.atspi_run_hit_examples.proofs.told.calls.Goals as goal

pub returns-clause-application : goal.returns-clause-application
unfolding digits
returns-clause-application c = refl

pub returns-clause-caller : goal.returns-clause-caller
unfolding digits
returns-clause-caller c = refl

pub returns-clause-nobody : goal.returns-clause-nobody
unfolding digits encode
returns-clause-nobody c = refl

pub returns-clause-second : goal.returns-clause-second
unfolding digits encode
returns-clause-second c = refl
