use Rattle.atspi_bus_answers.proofs.Literals.{own_name_is}
use Rattle.atspi_bus_answers.proofs.said.ends.Goals as goal

pub bus_name-requires : goal.bus_name-requires
bus_name-requires c = own_name_is
