use Rattle.atspi_trace_laws.proofs.OfDelivered.LawLinks.{links_hold}
use Rattle.atspi_trace_laws.proofs.delivered.laws.links_hold.Goals as goal

pub returns : goal.returns
returns c = links_hold
