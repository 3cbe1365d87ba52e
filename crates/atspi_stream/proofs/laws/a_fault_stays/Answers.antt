use Rattle.atspi_stream.proofs.StreamLaws.{fault_stays}
use Rattle.atspi_stream.proofs.laws.a_fault_stays.Goals as goal

pub returns : goal.returns
returns c held more place reason f = fault_stays held more place reason f
