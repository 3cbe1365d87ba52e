use Rattle.atspi_headline_quiet.proofs.Proving.{segments_do}
use Rattle.atspi_headline_quiet.proofs.laws.lines_move_what_is_due.Goals as goal

pub returns : goal.returns
returns c = segments_do
