use Rattle.atspi_run_replay.proofs.TracesOfTexts.{one_trace, one_trace_written}
use Rattle.atspi_run_replay.proofs.laws.texts_have_one_trace.Goals as goal

pub returns : goal.returns
returns c = record { text = one_trace; written = one_trace_written }
