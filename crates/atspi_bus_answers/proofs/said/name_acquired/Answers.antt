use Rattle.atspi_bus_answers.proofs.Literals.{acquired_is}
use Rattle.atspi_bus_answers.proofs.said.name_acquired.Goals as goal

pub signal-requires : goal.signal-requires
signal-requires c = acquired_is
