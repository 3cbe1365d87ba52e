use Rattle.atspi_audit_text.proofs.Once.{are_told}
use Rattle.atspi_audit_text.proofs.laws.traces_are_told.Goals as goal

pub returns : goal.returns
returns c = are_told
