use Rattle.atspi_trace_texts.proofs.TraceOnce.{text_tells}
use Rattle.atspi_trace_texts.proofs.laws.text_tells_trace.Goals as goal

pub returns : goal.returns
returns c = text_tells
