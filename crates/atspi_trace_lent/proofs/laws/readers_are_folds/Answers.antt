use Rattle.atspi_trace_lent.proofs.Readers.{readers_are_folds}
use Rattle.atspi_trace_lent.proofs.laws.readers_are_folds.Goals as goal

pub returns : goal.returns
returns c = readers_are_folds
