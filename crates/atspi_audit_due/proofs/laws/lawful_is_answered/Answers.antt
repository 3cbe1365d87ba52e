use Rattle.atspi_audit_due.proofs.Answered.{answered}
use Rattle.atspi_audit_due.proofs.laws.lawful_is_answered.Goals as goal

pub returns : goal.returns
returns c = answered
