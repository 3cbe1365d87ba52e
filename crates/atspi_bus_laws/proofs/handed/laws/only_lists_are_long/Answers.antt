use Rattle.atspi_bus_laws.proofs.OfHanded.Steps.{only_lists_long}
use Rattle.atspi_bus_laws.proofs.handed.laws.only_lists_are_long.Goals as goal

pub returns : goal.returns
returns c = only_lists_long
