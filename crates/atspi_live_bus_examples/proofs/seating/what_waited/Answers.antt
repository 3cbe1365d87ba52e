use Rattle.std.proofs.Common.{[], ◌∷◌, refl, sym, ap, ◌∙◌, inl, inr}
use Rattle.std.specs.Prelude.{ℕ, List}
use Rattle.atspi_live_host.specs.declared.call.Call.TheVariants.{Write}
use Rattle.atspi_live_bus.proofs.Worked.{not_none}
use Rattle.atspi_live_host.specs.declared.call.Did.TheVariants.{NotYet}
use Rattle.atspi_live_bus_examples.proofs.Facts.{some_byte}
use Rattle.atspi_live_bus_examples.proofs.Linked.{nine_waits}
use Rattle.atspi_live_bus_examples.proofs.seating.what_waited.Goals as goal

pub returns-clause-part : goal.returns-clause-part
returns-clause-part c l none is = (9 ∷ [], ap (λ (w : List ℕ). 7 ∷ w) is)

pub returns-clause-nothing_given : goal.returns-clause-nothing_given
returns-clause-nothing_given c l none is = ([], is)

pub returns-clause-other_rest : goal.returns-clause-other_rest
returns-clause-other_rest c l w is = nine_waits w.0 (sym (ap (λ (v : List ℕ). 7 ∷ v) is) ∙ w.1)

pub returns-clause-no_write : goal.returns-clause-no_write
returns-clause-no_write c b l past silent is = inl (refl, is, silent)

pub returns-clause-no_write_waits : goal.returns-clause-no_write_waits
returns-clause-no_write_waits c b l past h is = elim h [ inl n ↦ some_byte 7 [] (sym is ∙ n.1) | inr w ↦ not_none (Write 3 w.0 w.1) [] w.6 ]

pub returns-clause-lines_wait : goal.returns-clause-lines_wait
returns-clause-lines_wait c b l past h = elim h [ inl n ↦ n.2.0 | inr w ↦ absurd (not_none (Write 3 w.0 w.1) [] w.6) ]

pub returns-clause-accepted : goal.returns-clause-accepted
returns-clause-accepted c = (NotYet, refl, refl)

pub returns-clause-silent : goal.returns-clause-silent
returns-clause-silent c b l nothing none empty = (none, λ over. empty)

pub returns-clause-bytes_wait : goal.returns-clause-bytes_wait
returns-clause-bytes_wait c b l s over is = some_byte 7 [] (sym is ∙ s.1 over)
