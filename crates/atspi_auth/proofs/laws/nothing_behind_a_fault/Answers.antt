use Rattle.atspi_auth.proofs.LawLemmas.{behind_fault, behind_no_end}
use Rattle.atspi_auth.proofs.laws.nothing_behind_a_fault.Goals as goal

pub returns-clause-over : goal.returns-clause-over
returns-clause-over c = behind_no_end

pub returns-clause-fault : goal.returns-clause-fault
returns-clause-fault c = behind_fault
