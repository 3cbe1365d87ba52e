use Rattle.atspi_trace_laws.proofs.OfMissed.Covering.{patterns_cover}
use Rattle.atspi_trace_laws.proofs.missed.laws.patterns_cover_all.Goals as goal

pub returns : goal.returns
returns c = patterns_cover
