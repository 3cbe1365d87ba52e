use Rattle.std.proofs.Common.{[], refl, sym, ap, subst}
use Rattle.std.specs.Prelude.{drop}
use Rattle.std.specs.List.{AllByRecursion}
use lib.Utf8.{encode}
use Rattle.atspi_tree_model.specs.Path.{path_of}
use Rattle.atspi_trace.specs.Entry.{changed}
use Rattle.atspi_trace_laws.specs.missed.Laws.{IsNoSignal}
use Rattle.atspi_trace_laws.proofs.OfOrder.Each.{no_entries}
use Rattle.atspi_trace_examples.proofs.ways.what_was_missed_since.Goals as goal

pub returns-clause-none : goal.returns-clause-none
unfolding encode path_of
returns-clause-none c = record { first = _; between = []; stands = refl; no_signal = tt; asked = λ xs ys step h. absurd (no_entries xs (changed 0 step) ys h) }

pub returns-clause-the_name : goal.returns-clause-the_name
unfolding encode path_of
returns-clause-the_name c m = (subst (AllByRecursion (IsNoSignal 0)) (sym (ap (drop 3) m.stands)) m.no_signal).1.1.0 refl refl
