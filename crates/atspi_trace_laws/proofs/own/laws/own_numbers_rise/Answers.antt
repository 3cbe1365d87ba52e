use Rattle.atspi_trace_laws.proofs.OfOwn.LawOwn.{own_numbers_rise}
use Rattle.atspi_trace_laws.proofs.own.laws.own_numbers_rise.Goals as goal

pub returns : goal.returns
returns c = own_numbers_rise
