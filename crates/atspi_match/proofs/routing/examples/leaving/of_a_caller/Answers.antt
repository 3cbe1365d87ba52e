use Rattle.std.proofs.Common.{refl}
use Rattle.atspi_match.proofs.OfRouting.Known.{known}
use Rattle.atspi_match.proofs.routing.examples.leaving.of_a_caller.Goals as goal

pub returns-clause-told : goal.returns-clause-told
returns-clause-told c = simp known refl
