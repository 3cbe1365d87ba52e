use Rattle.atspi_trace_laws.proofs.OfSerials.LawNumbers.{numbers_rise}
use Rattle.atspi_trace_laws.proofs.serials.laws.numbers_rise.Goals as goal

pub returns : goal.returns
returns c = numbers_rise
