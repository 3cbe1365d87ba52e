use Rattle.atspi_trace_laws.proofs.OfLiving.Living.{who_acts_is_live}
use Rattle.atspi_trace_laws.proofs.living.laws.who_acts_is_live.Goals as goal

pub returns : goal.returns
returns c = who_acts_is_live
