use Rattle.atspi_audit_due.proofs.Fitting.{alone}
use Rattle.atspi_audit_due.proofs.laws.differs_in_calls_alone.Goals as goal

pub returns : goal.returns
returns c = alone
