use Rattle.atspi_audit_text.proofs.Once.{one_reading}
use Rattle.atspi_audit_text.proofs.laws.events_have_one_reading.Goals as goal

pub returns : goal.returns
returns c = one_reading
