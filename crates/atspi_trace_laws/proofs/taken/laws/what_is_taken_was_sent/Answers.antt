use Rattle.atspi_trace_laws.proofs.OfTaken.LawTaken.{taken_was_sent}
use Rattle.atspi_trace_laws.proofs.taken.laws.what_is_taken_was_sent.Goals as goal

pub returns : goal.returns
returns c = taken_was_sent
