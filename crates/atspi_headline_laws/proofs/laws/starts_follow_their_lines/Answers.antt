use Rattle.atspi_headline_laws.proofs.Proving.{starts_do}
use Rattle.atspi_headline_laws.proofs.laws.starts_follow_their_lines.Goals as goal

pub returns : goal.returns
returns c = starts_do
