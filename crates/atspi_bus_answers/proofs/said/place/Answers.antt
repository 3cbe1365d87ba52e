use Rattle.atspi_bus_answers.proofs.Literals.{own_path_is, own_interface_is}
use Rattle.atspi_bus_answers.proofs.said.place.Goals as goal

pub path-requires : goal.path-requires
path-requires c = own_path_is

pub interface-requires : goal.interface-requires
interface-requires c = own_interface_is
