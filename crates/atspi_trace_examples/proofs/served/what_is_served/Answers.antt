use Rattle.std.proofs.Common.{◌≡◌, ℕ, zero, true, List, [], ◌∷◌, Some, refl, sym, ap, ◌∙◌, subst}
use Rattle.std.specs.Prelude.{◌==◌, codes, is_some}
use lib.Utf8.{encode}
use Rattle.atspi_tree_model.specs.declared.step.Step.TheVariants.{SetName}
use Rattle.atspi_script_lines.specs.declared.line.Party.TheVariants.{App, Reader}
use Rattle.atspi_protocol.specs.announcing.Announced.{announced}
use Rattle.atspi_trace.specs.Entry.{Entry, changed, got, heard}
use Rattle.atspi_trace_laws.specs.laws.Words.{message, before_sent, live_tree, heard_pairs, Kept, held}
use Rattle.atspi_trace_laws.specs.folds.Laws.{AreAllCovered}
use Rattle.atspi_trace_examples.specs.caches.Cases.{its_name, loaded, renamed, heard_of}
use Rattle.atspi_trace_caches.specs.caches.Laws.{AreAsked, AsksAll, IsServed}
use Rattle.atspi_trace_laws.proofs.OfOrder.Parties.{same_some, false_true}
use Rattle.atspi_trace_laws.proofs.OfOrder.Each.{Each, everywhere}
use Rattle.atspi_trace_examples.proofs.served.what_is_served.Goals as goal

-- what is had behind the return
abbrev its_load : Kept
its_load = record { last = 5; told = [] }

abbrev listened : List Entry
listened = heard 0 (codes ":1.9") (codes "object:property-change") ∷ renamed

had : held renamed 0 0 ≡ Some its_load
had = refl

had_too : held listened 0 0 ≡ Some its_load
had_too = refl

-- the same entry by entry, which is computed
abbrev Asked : ℕ → List Entry → Entry → List Entry → Type 0
Asked last early (changed app step) ys = app ≡ 0 → is_some (message early (App 0) last) ≡ true → AreAllCovered (heard_pairs early 0) (announced its_name (live_tree early 0) step)
Asked last early entry ys = Unit {0}

by_entries : (before : List Entry) (last serial : ℕ) → Each (Asked last) [] (before_sent (App 0) serial before) → AreAsked its_name before 0 last serial
by_entries before last serial e early ys step at some = everywhere (Asked last) (before_sent (App 0) serial before) e early (changed 0 step) ys at refl some

each_asked : (reader : ℕ) (trace : List Entry) → Each (AsksAll its_name reader 0) [] trace → IsServed trace its_name reader 0
each_asked reader trace e = record { all_asked = everywhere (AsksAll its_name reader 0) trace e }

apart : zero ≡ 1 → ⊥
apart h = false_true (ap (λ n. n == 1) h)

pub returns-clause-by_nobody : goal.returns-clause-by_nobody
returns-clause-by_nobody c s = false_true (s.all_asked renamed (got (Reader 0) (App 0) 6) [] refl refl refl (λ load. load) its_load had loaded [] (SetName 0 (codes "Desk")) refl refl).0

pub returns-clause-by_a_listener : goal.returns-clause-by_a_listener
unfolding encode
returns-clause-by_a_listener c =
    each_asked 0 (heard 0 (codes ":1.9") (codes "object:property-change") ∷ heard_of) (
      tt,
      (tt, (tt, ((λ rs bs no_load k h. absurd (no_load tt)), (tt, (tt, ((λ rs bs no_load k h. subst (λ (x : Kept). AreAsked its_name listened 0 x.last 6) (same_some its_load k (sym had_too ∙ h)) (by_entries listened 5 6 (tt, (tt, (tt, (tt, ((λ same some. (refl, tt)), tt))))))), tt)))))),
    )

pub returns-clause-up_to_the_return : goal.returns-clause-up_to_the_return
returns-clause-up_to_the_return c = each_asked 0 loaded (tt, (tt, ((λ rs bs no_load k h. absurd (no_load tt)), tt)))

pub returns-clause-another_reader : goal.returns-clause-another_reader
returns-clause-another_reader c = each_asked 1 heard_of (tt, (tt, ((λ rs. absurd (apart rs)), (tt, (tt, ((λ rs. absurd (apart rs)), tt))))))
