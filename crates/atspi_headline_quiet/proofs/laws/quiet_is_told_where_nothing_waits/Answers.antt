use Rattle.atspi_headline_quiet.proofs.Proving.{quiet_does}
use Rattle.atspi_headline_quiet.proofs.laws.quiet_is_told_where_nothing_waits.Goals as goal

pub returns : goal.returns
returns c = quiet_does
