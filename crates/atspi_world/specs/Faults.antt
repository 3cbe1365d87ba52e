-- What a fault of an end, or of what lies between the ends, is to a line.
use Rattle.atspi_world_moves.specs.declared.fault.CarryFault.{CarryFault}
use Rattle.atspi_world_moves.specs.declared.fault.CarryFault.TheVariants as carry
use Rattle.atspi_world_links.specs.declared.fault.SendFault.{SendFault}
use Rattle.atspi_world_links.specs.declared.fault.SendFault.TheVariants as send
use Rattle.atspi_app_known.specs.declared.application.fault.AppFault.{AppFault}
use Rattle.atspi_app_known.specs.declared.application.fault.AppFault.TheVariants as app
use Rattle.atspi_reader_calls.specs.declared.fault.CallFault.{CallFault}
use Rattle.atspi_reader_calls.specs.declared.fault.CallFault.TheVariants as call
use Rattle.atspi_world.specs.declared.fault.ActFault.{ActFault}
use Rattle.atspi_world.specs.declared.fault.ActFault.TheVariants.{Refused, Spent, RegistryLost, Unsendable, NoMemory}
use Rattle.atspi_world_parties.specs.declared.refusing.Refusal.TheVariants.{NotHeld, Edit}

abbrev pub of_carry : CarryFault → ActFault
of_carry carry.Spent = Spent
of_carry carry.RegistryLost = RegistryLost
of_carry carry.Unsendable = Unsendable
of_carry carry.NoMemory = NoMemory

abbrev pub of_sent : SendFault → ActFault
of_sent send.Unsendable = Unsendable
of_sent send.NoMemory = NoMemory

abbrev pub of_app : AppFault → ActFault
of_app (app.Refused why) = Refused (Edit why)
of_app app.Spent = Spent
of_app app.NoMemory = NoMemory

abbrev pub of_call : CallFault → ActFault
of_call call.NotHeld = Refused NotHeld
of_call call.Spent = Spent
of_call call.NoMemory = NoMemory
