use Rattle.std.proofs.Common.{inl, inr, refl}
use lib.Utf8.{encode}
use Rattle.atspi_trace_examples.proofs.OfTraces.Refusing.{refuses, refuses_all}
use Rattle.atspi_trace_examples.specs.traces.Cases.{untold, unasked, telling, announcement_first, echo_first, is_added}
use Rattle.atspi_trace_examples.proofs.traces.refused.of_applications.Goals as goal

pub returns-clause-unasked : goal.returns-clause-unasked
unfolding encode
returns-clause-unasked c (inl d) = refuses_all untold unasked refl d
returns-clause-unasked c (inr own) = own

pub returns-clause-echo_first : goal.returns-clause-echo_first
unfolding encode
returns-clause-echo_first c (inl d) = refuses is_added telling announcement_first echo_first refl refl refl d
returns-clause-echo_first c (inr own) = own
