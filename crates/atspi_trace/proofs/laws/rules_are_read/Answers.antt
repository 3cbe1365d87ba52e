use Rattle.atspi_trace.proofs.RulesRead.{rules_read}
use Rattle.atspi_trace.proofs.laws.rules_are_read.Goals as goal

pub returns : goal.returns
returns c = rules_read
