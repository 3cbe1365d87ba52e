use Rattle.std.proofs.Common.{[], refl}
use Rattle.atspi_trace.specs.Causes.{gets}
use Rattle.atspi_trace_played.proofs.turns.examples.what_turns_play.Goals as goal

pub returns-clause-one : goal.returns-clause-one
returns-clause-one c = (gets 0, [], refl, refl, (refl, refl))
