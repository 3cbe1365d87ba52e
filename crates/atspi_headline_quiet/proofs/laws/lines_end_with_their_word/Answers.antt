use Rattle.atspi_headline_quiet.proofs.Proving.{words_do}
use Rattle.atspi_headline_quiet.proofs.laws.lines_end_with_their_word.Goals as goal

pub returns : goal.returns
returns c = words_do
