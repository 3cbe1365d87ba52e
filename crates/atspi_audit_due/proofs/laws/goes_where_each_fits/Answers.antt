use Rattle.atspi_audit_due.proofs.Fitting.{goes}
use Rattle.atspi_audit_due.proofs.laws.goes_where_each_fits.Goals as goal

pub returns : goal.returns
returns c = goes
