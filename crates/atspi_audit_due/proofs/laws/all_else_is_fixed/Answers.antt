use Rattle.atspi_audit_due.proofs.Fitting.{fixed}
use Rattle.atspi_audit_due.proofs.laws.all_else_is_fixed.Goals as goal

pub returns : goal.returns
returns c = fixed
