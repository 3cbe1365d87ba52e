use lib.Utf8.{encode}
use Rattle.std.proofs.Common.{◌≡◌, ℕ, List, [], ◌∷◌, length, refl, sym, ap, subst, arith}
use Rattle.std.proofs.lemmas.List.{append-nil}
use Rattle.atspi_types.specs.Data.{Data, values_in, text_data, structure_data}
use Rattle.atspi_tree_model.specs.declared.step.Step.TheVariants.{Remove}
use Rattle.atspi_names.specs.Owners.{unique_name}
use Rattle.atspi_names.proofs.UniqueLemmas.{unique_name-injective}
use Rattle.atspi_trace.specs.Entry.{Entry, sent}
use Rattle.atspi_trace_laws.specs.laws.NineLaws.{Follow}
use Rattle.atspi_trace_laws.specs.heard.Laws.{signals_under}
use Rattle.atspi_trace_examples.specs.signed.Cases.{greeted, removed_as}
use Rattle.atspi_trace_laws.specs.signed.Laws.{IsItsName}
use Rattle.atspi_trace_laws.proofs.OfOrder.Parties.{same_some}
use Rattle.atspi_trace_examples.proofs.signed.under_its_name.Goals as goal

its : IsItsName greeted 0 (unique_name 1)
its own h = sym (same_some (unique_name 1) own h)

-- the application that a first message's first reference names
first_text : List Data → List ℕ
first_text (text_data t ∷ values) = t
first_text values = []

of_reference : List Data → List ℕ
of_reference (structure_data values ∷ more) = first_text (values_in values)
of_reference body = []

named_in : List Entry → List ℕ
named_in (sent who e ∷ entries) = of_reference e.body
named_in entries = []

pub returns-clause-its_own : goal.returns-clause-its_own
returns-clause-its_own c name h = subst (λ n. Follow (signals_under n greeted 0 (Remove 0)) (removed_as 1)) (h (unique_name 1) refl) ([], sym (append-nil (removed_as 1)))

pub returns-clause-of_another : goal.returns-clause-of_another
unfolding encode named_in of_reference first_text
returns-clause-of_another c h =
    let f = h (unique_name 1) its in
    let same : 2 ≡ 1 = unique_name-injective 2 1 (omega arith) (omega arith) (ap named_in f.1) in absurd (omega (arith, same))

pub returns-clause-unsigned : goal.returns-clause-unsigned
unfolding encode
returns-clause-unsigned c h = absurd (omega (arith, ap length (h (unique_name 1) its).1))

pub returns-clause-other_entry : goal.returns-clause-other_entry
returns-clause-other_entry c = tt
