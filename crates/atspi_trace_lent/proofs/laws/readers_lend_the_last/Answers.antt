use Rattle.atspi_trace_lent.proofs.Lending.{readers_lend_the_last}
use Rattle.atspi_trace_lent.proofs.laws.readers_lend_the_last.Goals as goal

pub returns : goal.returns
returns c = readers_lend_the_last
