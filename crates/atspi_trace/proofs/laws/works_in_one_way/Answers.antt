use Rattle.atspi_trace.proofs.Working.{one_way}
use Rattle.atspi_trace.proofs.laws.works_in_one_way.Goals as goal

pub returns : goal.returns
returns c = one_way
