use Rattle.atspi_audit_due.proofs.Fitting.{found}
use Rattle.atspi_audit_due.proofs.laws.lawful_is_found.Goals as goal

pub returns : goal.returns
returns c = found
