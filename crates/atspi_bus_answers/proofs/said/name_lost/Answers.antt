use Rattle.atspi_bus_answers.proofs.Literals.{lost_is}
use Rattle.atspi_bus_answers.proofs.said.name_lost.Goals as goal

pub signal-requires : goal.signal-requires
signal-requires c = lost_is
