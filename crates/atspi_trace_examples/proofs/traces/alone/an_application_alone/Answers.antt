use lib.Utf8.{encode}
use Rattle.std.proofs.Common.{refl}
use Rattle.atspi_trace_examples.proofs.traces.alone.an_application_alone.Goals as goal

pub returns-clause-entries : goal.returns-clause-entries
unfolding encode
returns-clause-entries c = refl

pub returns-clause-accepted : goal.returns-clause-accepted
unfolding encode
returns-clause-accepted c = refl
