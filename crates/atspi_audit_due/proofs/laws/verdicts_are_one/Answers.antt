use Rattle.atspi_audit_due.proofs.Verdicts.{one_verdict}
use Rattle.atspi_audit_due.proofs.laws.verdicts_are_one.Goals as goal

pub returns : goal.returns
returns c = one_verdict
