use Rattle.atspi_trace_laws.proofs.OfLaws.Cuts.{no_cuts}
use Rattle.atspi_trace_laws.proofs.laws.laws.up_links_see_no_cuts.Goals as goal

pub returns : goal.returns
returns c = no_cuts
