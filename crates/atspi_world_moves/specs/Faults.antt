-- What a fault of the bus, of an end or of a link is to a carrier.
use Rattle.atspi_bus_steps.specs.declared.fault.BusFault.{BusFault}
use Rattle.atspi_bus_steps.specs.declared.fault.BusFault.TheVariants as bus
use Rattle.atspi_protocol.specs.declared.ends.fault.EndFault.{EndFault}
use Rattle.atspi_protocol.specs.declared.ends.fault.EndFault.TheVariants as ends
use Rattle.atspi_world_links.specs.declared.fault.SendFault.{SendFault}
use Rattle.atspi_world_links.specs.declared.fault.SendFault.TheVariants as sends
use Rattle.atspi_world_moves.specs.declared.fault.CarryFault.{CarryFault}
use Rattle.atspi_world_moves.specs.declared.fault.CarryFault.TheVariants.{Spent, Unsendable, NoMemory}

abbrev pub of_bus : BusFault → CarryFault
of_bus bus.Spent = Spent
of_bus bus.NoMemory = NoMemory

abbrev pub of_send : SendFault → CarryFault
of_send sends.Unsendable = Unsendable
of_send sends.NoMemory = NoMemory

abbrev pub of_end : EndFault → CarryFault
of_end ends.Spent = Spent
of_end ends.NoMemory = NoMemory
