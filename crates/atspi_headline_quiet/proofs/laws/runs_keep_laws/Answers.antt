use Rattle.atspi_headline_quiet.proofs.Proving.{keep_laws}
use Rattle.atspi_headline_quiet.proofs.laws.runs_keep_laws.Goals as goal

pub returns : goal.returns
returns c = keep_laws
