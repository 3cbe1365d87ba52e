use Rattle.atspi_audit_due.proofs.Fitting.{fitting}
use Rattle.atspi_audit_due.proofs.laws.lawful_is_fitting.Goals as goal

pub returns : goal.returns
returns c = fitting
