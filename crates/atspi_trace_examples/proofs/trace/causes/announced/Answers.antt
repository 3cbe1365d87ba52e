use Rattle.std.proofs.Common.{refl}
use Rattle.atspi_trace_examples.proofs.trace.causes.announced.Goals as goal

pub returns-clause-covered : goal.returns-clause-covered
unfolding lib.Utf8.encode
returns-clause-covered c = refl

pub returns-clause-second_pair : goal.returns-clause-second_pair
unfolding lib.Utf8.encode
returns-clause-second_pair c = refl

pub returns-clause-not_covered : goal.returns-clause-not_covered
unfolding lib.Utf8.encode
returns-clause-not_covered c = refl

pub returns-clause-echo_alone : goal.returns-clause-echo_alone
unfolding lib.Utf8.encode
returns-clause-echo_alone c = refl
