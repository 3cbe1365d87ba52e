-- Words that only the private contracts and proofs beside `Faults` use.
use Rattle.atspi_tree_edits.specs.declared.fault.EditRefused.{EditRefused}
use Rattle.atspi_tree_edits.specs.declared.fault.EditRefused.TheVariants as edits
use Rattle.atspi_app_known.specs.declared.application.fault.AppFault.{AppFault}
use Rattle.atspi_app_known.specs.declared.application.fault.AppFault.TheVariants as faults

abbrev pub of_edit : EditRefused → AppFault
of_edit (edits.Refused why) = faults.Refused why
of_edit edits.NoMemory = faults.NoMemory
