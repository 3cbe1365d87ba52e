use Rattle.atspi_stream.proofs.StreamLaws.{one_answer}
use Rattle.atspi_stream.proofs.laws.has_one_answer.Goals as goal

pub returns : goal.returns
returns c held h = one_answer held h
