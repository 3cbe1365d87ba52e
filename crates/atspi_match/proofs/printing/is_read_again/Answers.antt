use Rattle.atspi_match.proofs.AgainLemmas.{printed_again}
use Rattle.atspi_match.proofs.printing.is_read_again.Goals as goal

pub returns : goal.returns
returns c = printed_again
