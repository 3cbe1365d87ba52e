use Rattle.atspi_headline_quiet.proofs.Proving.{moves_do}
use Rattle.atspi_headline_quiet.proofs.laws.lines_move_what_they_name.Goals as goal

pub returns : goal.returns
returns c = moves_do
