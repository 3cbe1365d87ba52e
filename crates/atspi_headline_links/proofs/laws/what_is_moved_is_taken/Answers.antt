use Rattle.atspi_headline_links.proofs.Proving.{what_is_taken}
use Rattle.atspi_headline_links.proofs.laws.what_is_moved_is_taken.Goals as goal

pub returns : goal.returns
returns c = what_is_taken
