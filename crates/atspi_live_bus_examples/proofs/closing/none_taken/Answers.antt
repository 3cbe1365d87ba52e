use Rattle.std.proofs.Common.{refl}
use Rattle.atspi_live_bus_examples.proofs.closing.none_taken.Goals as goal

pub returns-clause-none : goal.returns-clause-none
returns-clause-none c x = (refl, refl)

pub returns-clause-no_call : goal.returns-clause-no_call
returns-clause-no_call c x y calls t = t.0

pub returns-clause-no_change : goal.returns-clause-no_change
returns-clause-no_change c x y calls t = t.1
