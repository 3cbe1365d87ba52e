use Rattle.atspi_auth.proofs.LawLemmas.{short_after}
use Rattle.atspi_auth.proofs.laws.one_line.Goals as goal

pub returns : goal.returns
returns c = short_after
