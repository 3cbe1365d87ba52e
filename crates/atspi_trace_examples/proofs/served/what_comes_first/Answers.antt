use Rattle.std.proofs.Common.{◌≡◌, ℕ, true, List, ◌∷◌, Some, refl, sym, ap, ◌∙◌, subst, lit<}
use Rattle.std.specs.Prelude.{codes, drop}
use Rattle.std.specs.List.{AllByRecursion}
use Rattle.std.proofs.lemmas.Fmt.{decimal_digit}
use Rattle.atspi_script_lines.specs.declared.line.Party.TheVariants.{Reader}
use Rattle.atspi_protocol.specs.declared.following.question.Question.TheVariants.{GetItems}
use Rattle.atspi_protocol.specs.exporting.Hearing.{is_heard}
use Rattle.atspi_protocol.specs.following.ReaderState.{start_calls}
use Rattle.atspi_trace.specs.Hearing.{patterns_in}
use Rattle.atspi_trace_laws.specs.laws.Words.{heard_pairs, name_in}
use Rattle.atspi_trace_examples.specs.caches.Cases.{its_name}
use Rattle.atspi_trace_examples.specs.served.Cases.{greeted, asked_behind}
use Rattle.atspi_trace_caches.specs.served.Laws.{HasHeardOf}
use Rattle.atspi_trace_laws.proofs.OfOrder.Parties.{no_none, same_some, false_true}
use Rattle.atspi_trace_examples.proofs.served.what_comes_first.Goals as goal

abbrev all_five : List (List ℕ)
all_five = patterns_in start_calls

-- the name that the bus gave the reader
first_name : name_in greeted (Reader 0) ≡ Some (codes ":1.1")
first_name = ap (λ ds. Some (58 ∷ 49 ∷ 46 ∷ ds)) (decimal_digit 1 (lit< tt))

-- so each of the patterns is to stand under that
under_it : (name : List ℕ) (patterns : List (List ℕ)) → name_in (asked_behind name patterns) (Reader 0) ≡ Some (codes ":1.1") → HasHeardOf (asked_behind name patterns) 0 0
    → AllByRecursion (λ pattern. is_heard (heard_pairs (asked_behind name patterns) 0) (codes ":1.1", pattern) ≡ true) all_five
under_it name patterns is h =
    subst (λ own. AllByRecursion (λ pattern. is_heard (heard_pairs (asked_behind name patterns) 0) (own, pattern) ≡ true) all_five) (same_some h.name (codes ":1.1") (sym h.is_its ∙ is)) h.heard

pub returns-clause-under_its_name : goal.returns-clause-under_its_name
returns-clause-under_its_name c name call = record { name = codes ":1.1"; is_its = first_name; heard = (refl, (refl, (refl, (refl, (refl, tt))))) }

pub returns-clause-under_another : goal.returns-clause-under_another
returns-clause-under_another c f = false_true (under_it (codes ":1.9") all_five first_name (f its_name refl)).0

pub returns-clause-one_short : goal.returns-clause-one_short
returns-clause-one_short c f = false_true (under_it (codes ":1.1") (drop 1 all_five) first_name (f its_name refl)).0

pub returns-clause-no_call : goal.returns-clause-no_call
returns-clause-no_call c name call = absurd (no_none (GetItems name) call)

pub returns-clause-anything : goal.returns-clause-anything
returns-clause-anything c = tt
