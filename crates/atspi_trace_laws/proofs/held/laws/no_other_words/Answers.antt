use Rattle.atspi_trace_laws.proofs.OfHeld.LawHeld.{no_other_words}
use Rattle.atspi_trace_laws.proofs.held.laws.no_other_words.Goals as goal

pub returns : goal.returns
returns c = no_other_words
