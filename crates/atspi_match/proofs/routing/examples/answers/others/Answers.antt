use Rattle.std.proofs.Common.{refl}
use Rattle.atspi_match.proofs.OfRouting.Known.{known}
use Rattle.atspi_match.proofs.routing.examples.answers.others.Goals as goal

pub returns-clause-replied : goal.returns-clause-replied
returns-clause-replied c = simp known refl

pub returns-clause-refused : goal.returns-clause-refused
returns-clause-refused c = simp known refl
