use Rattle.atspi_audit_due.proofs.Fitting.{broken}
use Rattle.atspi_audit_due.proofs.laws.broken_is_found.Goals as goal

pub returns : goal.returns
returns c = broken
