use Rattle.std.proofs.Common.{refl}
use Rattle.atspi_live_bus_examples.proofs.closing.left_in_part.Goals as goal

pub returns-clause-closed : goal.returns-clause-closed
returns-clause-closed c x = (refl, refl)

pub returns-clause-one_call : goal.returns-clause-one_call
returns-clause-one_call c x y calls p = p.0

pub returns-clause-no_change : goal.returns-clause-no_change
returns-clause-no_change c x y calls p = p.1
