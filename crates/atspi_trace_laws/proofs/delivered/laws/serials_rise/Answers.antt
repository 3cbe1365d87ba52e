use Rattle.atspi_trace_laws.proofs.OfDelivered.LawLinks.{serials_rise}
use Rattle.atspi_trace_laws.proofs.delivered.laws.serials_rise.Goals as goal

pub returns : goal.returns
returns c = serials_rise
