use Rattle.std.proofs.Common.{refl}
use Rattle.atspi_match.proofs.OfRouting.Known.{known}
use Rattle.atspi_match.proofs.routing.examples.leaving.of_a_stranger.Goals as goal

pub returns-clause-told : goal.returns-clause-told
returns-clause-told c = simp known refl

pub returns-clause-next : goal.returns-clause-next
returns-clause-next c = simp known refl
