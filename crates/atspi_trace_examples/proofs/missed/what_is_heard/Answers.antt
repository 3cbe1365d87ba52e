use Rattle.std.proofs.Common.{◌≡◌, Bool, true, false, refl}
use Rattle.std.specs.Prelude.{◌&&◌, ◌||◌, bytes_eq, codes}
use Rattle.atspi_trace_laws.proofs.OfOrder.Parties.{false_true}
use Rattle.atspi_trace_examples.proofs.missed.what_is_heard.Goals as goal

-- another text, whoever listens
not_it : (b : Bool) → ((b && false) || false) ≡ true → ⊥
not_it true h = false_true h
not_it false h = false_true h

none_of_four : (b : Bool) → ((b && false) || ((b && false) || ((b && false) || ((b && false) || false)))) ≡ true → ⊥
none_of_four true h = false_true h
none_of_four false h = false_true h

pub returns-clause-heard : goal.returns-clause-heard
returns-clause-heard c = (codes ":1.9", refl)

pub returns-clause-another : goal.returns-clause-another
returns-clause-another c h = not_it (bytes_eq h.0 (codes ":1.9")) h.1

pub returns-clause-nobody : goal.returns-clause-nobody
returns-clause-nobody c h = false_true h.1

pub returns-clause-all_five : goal.returns-clause-all_five
returns-clause-all_five c = ((codes ":1.9", refl), ((codes ":1.9", refl), ((codes ":1.9", refl), ((codes ":1.9", refl), ((codes ":1.9", refl), tt)))))

pub returns-clause-only_four : goal.returns-clause-only_four
returns-clause-only_four c h = none_of_four (bytes_eq h.1.1.1.1.0.0 (codes ":1.9")) h.1.1.1.1.0.1
