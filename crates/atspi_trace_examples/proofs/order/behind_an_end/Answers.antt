use Rattle.std.proofs.Common.{◌≡◌, refl, sym, ap}
use Rattle.atspi_script_lines.specs.declared.line.Party.TheVariants.{Bus as The_bus, App}
use Rattle.atspi_trace.specs.Ends.{same_party}
use Rattle.atspi_trace_laws.proofs.OfOrder.Parties.{false_true}
use Rattle.atspi_trace_examples.proofs.order.behind_an_end.Goals as goal

not_bus : App 0 ≡ The_bus → ⊥
not_bus h = false_true (sym (ap (λ p. same_party p (App 0)) h))

pub returns-clause-another : goal.returns-clause-another
returns-clause-another c = (refl, (tt, tt))

pub returns-clause-the_same : goal.returns-clause-the_same
returns-clause-the_same c h = false_true (sym h.0)

pub returns-clause-another_dropped : goal.returns-clause-another_dropped
returns-clause-another_dropped c differ = (refl, tt)

pub returns-clause-the_dropped : goal.returns-clause-the_dropped
returns-clause-the_dropped c h = false_true (sym (h not_bus).0)

pub returns-clause-anything : goal.returns-clause-anything
returns-clause-anything c = tt
