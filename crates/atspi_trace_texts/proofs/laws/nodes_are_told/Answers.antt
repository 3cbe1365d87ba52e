use Rattle.atspi_trace_texts.proofs.NodeLemmas.{nodes_told}
use Rattle.atspi_trace_texts.proofs.laws.nodes_are_told.Goals as goal

pub returns : goal.returns
returns c = nodes_told
