use lib.Utf8.{encode}
use Rattle.std.proofs.Common.{refl}
use Rattle.atspi_trace_examples.proofs.traces.telling.signals.Goals as goal

pub returns-clause-heard : goal.returns-clause-heard
unfolding encode
returns-clause-heard c = refl

pub returns-clause-unheard : goal.returns-clause-unheard
unfolding encode
returns-clause-unheard c = refl
