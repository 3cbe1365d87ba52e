use Rattle.atspi_trace_laws.proofs.OfHeard.LawHeard.{no_others}
use Rattle.atspi_trace_laws.proofs.heard.laws.no_other_signals.Goals as goal

pub returns : goal.returns
returns c = no_others
