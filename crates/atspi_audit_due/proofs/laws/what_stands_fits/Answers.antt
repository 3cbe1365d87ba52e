use Rattle.atspi_audit_due.proofs.Fitting.{fits}
use Rattle.atspi_audit_due.proofs.laws.what_stands_fits.Goals as goal

pub returns : goal.returns
returns c = fits
