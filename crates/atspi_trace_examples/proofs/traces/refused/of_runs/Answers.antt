use Rattle.std.proofs.Common.{inl, inr, refl}
use Rattle.atspi_script_lines.specs.declared.line.Party.TheVariants as party
use Rattle.atspi_trace.specs.Entry.{got, quiet}
use Rattle.atspi_trace_examples.proofs.OfTraces.Refusing.{refuses}
use Rattle.atspi_trace_examples.specs.traces.Cases.{waiting, is_got_as}
use Rattle.atspi_trace_examples.proofs.traces.refused.of_runs.Goals as goal

pub returns-clause-early : goal.returns-clause-early
returns-clause-early c (inl d) = refuses (is_got_as 7) waiting (got (party.Reader 0) (party.App 0) 7) quiet refl refl refl d
returns-clause-early c (inr own) = own

pub returns-clause-unsettled : goal.returns-clause-unsettled
returns-clause-unsettled c (inl d) = d.truly.1.1.0.1.0
returns-clause-unsettled c (inr own) = own
