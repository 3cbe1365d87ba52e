use Rattle.atspi_app_known.proofs.OfHeard.Less.{less_filtered}
use Rattle.atspi_app_known.proofs.heard.laws.one_less_is_filtered.Goals as goal

pub returns : goal.returns
returns c = less_filtered
