use Rattle.atspi_auth.proofs.LawLemmas.{fault_stays, over_stays}
use Rattle.atspi_auth.proofs.laws.no_way_back.Goals as goal

pub returns-clause-fault : goal.returns-clause-fault
returns-clause-fault c = fault_stays

pub returns-clause-over : goal.returns-clause-over
returns-clause-over c = over_stays
