-- The fault of an end, as a fault of an edit.
use Rattle.atspi_protocol.specs.declared.ends.fault.EndFault.{EndFault}
use Rattle.atspi_protocol.specs.declared.ends.fault.EndFault.TheVariants as ends
use Rattle.atspi_app_known.specs.declared.application.fault.AppFault.{AppFault}
use Rattle.atspi_app_known.specs.declared.application.fault.AppFault.TheVariants.{Spent, NoMemory}

abbrev pub of_end : EndFault → AppFault
of_end ends.Spent = Spent
of_end ends.NoMemory = NoMemory
