use Rattle.atspi_trace_laws.proofs.OfQuiet.LawQuiet.{quiet_law}
use Rattle.atspi_trace_laws.proofs.quiet.laws.quiet_is_true.Goals as goal

pub returns : goal.returns
returns c = quiet_law
