-- What was made, or why it was not.
use Rattle.std.specs.Prelude.{Result, Ok, Err}
use Rattle.atspi_base.specs.declared.outside.NoMemory.{NoMemory}
use Rattle.atspi_app_answers.specs.declared.fault.AnswerFault.{AnswerFault}
use Rattle.atspi_app_answers.specs.declared.fault.AnswerFault.TheVariants as faults

-- want of memory as a fault of an answer
abbrev pub or_fault : {X : Type 0} → Result X NoMemory → Result X AnswerFault
or_fault (Ok x) = Ok x
or_fault (Err e) = Err faults.NoMemory
