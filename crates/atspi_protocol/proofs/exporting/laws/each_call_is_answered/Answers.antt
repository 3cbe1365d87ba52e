use Rattle.atspi_protocol.proofs.OfExporting.Answered.{each_call_is_answered}
use Rattle.atspi_protocol.proofs.exporting.laws.each_call_is_answered.Goals as goal

pub returns : goal.returns
returns c = each_call_is_answered
