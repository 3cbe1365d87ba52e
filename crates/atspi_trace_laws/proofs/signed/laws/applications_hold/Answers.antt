use Rattle.atspi_trace_laws.proofs.OfSigned.LawSigned.{applications_law}
use Rattle.atspi_trace_laws.proofs.signed.laws.applications_hold.Goals as goal

pub returns : goal.returns
returns c = applications_law
