use Rattle.atspi_trace_laws.proofs.OfSigned.LawSigned.{signed_law}
use Rattle.atspi_trace_laws.proofs.signed.laws.signals_are_signed.Goals as goal

pub returns : goal.returns
returns c = signed_law
