use Rattle.atspi_bus_answers.proofs.Literals.{changed_is}
use Rattle.atspi_bus_answers.proofs.said.owner_changed.Goals as goal

pub signal-requires : goal.signal-requires
signal-requires c = changed_is
