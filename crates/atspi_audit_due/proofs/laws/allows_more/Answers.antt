use Rattle.atspi_audit_due.proofs.Fitting.{allows}
use Rattle.atspi_audit_due.proofs.laws.allows_more.Goals as goal

pub returns : goal.returns
returns c = allows
