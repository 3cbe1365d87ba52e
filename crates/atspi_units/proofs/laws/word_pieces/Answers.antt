use Rattle.atspi_units.proofs.WordLemmas.{words_spelled}
use Rattle.atspi_units.proofs.laws.word_pieces.Goals as goal

pub returns : goal.returns
returns c = words_spelled
