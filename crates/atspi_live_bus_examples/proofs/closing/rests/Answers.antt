use Rattle.std.proofs.Common.{[], ◌∷◌, refl}
use Rattle.atspi_live_bus.proofs.Worked.{none_behind}
use Rattle.atspi_live_bus_examples.proofs.closing.rests.Goals as goal

pub returns-clause-nothing : goal.returns-clause-nothing
returns-clause-nothing c = ([], record { are = tt; parted = none_behind }, refl)

pub returns-clause-one : goal.returns-clause-one
returns-clause-one c t rest bytes e is parted = ((e, bytes) ∷ [], record { are = (is, tt); parted = parted }, refl)
