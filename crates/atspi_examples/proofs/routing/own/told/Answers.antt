use Rattle.std.proofs.Common.{refl}
use Rattle.atspi_examples.proofs.OfRouting.Known.{known}
use Rattle.atspi_examples.proofs.routing.own.told.Goals as goal

pub returns-clause-new : goal.returns-clause-new
returns-clause-new c = simp known refl

pub returns-clause-gone : goal.returns-clause-gone
returns-clause-gone c = simp known refl
