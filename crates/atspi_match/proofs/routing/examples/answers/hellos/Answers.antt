use Rattle.std.proofs.Common.{refl}
use Rattle.std.specs.Fmt.{digits}
use Rattle.atspi_match.proofs.OfRouting.Known.{known}
use Rattle.atspi_match.proofs.routing.examples.answers.hellos.Goals as goal

pub returns-clause-first : goal.returns-clause-first
unfolding digits
returns-clause-first c = simp known refl

pub returns-clause-next : goal.returns-clause-next
returns-clause-next c = simp known refl

pub returns-clause-named : goal.returns-clause-named
returns-clause-named c = simp known refl

pub returns-clause-unexpecting : goal.returns-clause-unexpecting
returns-clause-unexpecting c = simp known refl
