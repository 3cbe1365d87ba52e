use Rattle.std.proofs.Common.{refl}
use Rattle.atspi_examples.proofs.OfRouting.Known.{known}
use Rattle.atspi_examples.proofs.routing.answers.first_calls.Goals as goal

pub returns-clause-taken : goal.returns-clause-taken
returns-clause-taken c = simp known refl
