use Rattle.atspi_run_replay.proofs.TracesOfTexts.{of_traces}
use Rattle.atspi_run_replay.proofs.laws.texts_are_of_traces.Goals as goal

pub returns : goal.returns
returns c = of_traces
