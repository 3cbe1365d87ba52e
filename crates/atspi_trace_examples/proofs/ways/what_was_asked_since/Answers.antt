use Rattle.std.proofs.Common.{◌≡◌, ℕ, true, List, [], ◌∷◌, ◌++◌, Some, refl, ap}
use Rattle.std.specs.Prelude.{◌==◌, codes, is_some}
use lib.Utf8.{encode}
use Rattle.atspi_tree_model.specs.declared.step.Step.TheVariants.{SetName}
use Rattle.atspi_script_lines.specs.declared.line.Party.TheVariants.{App}
use Rattle.atspi_protocol.specs.announcing.Announced.{announced}
use Rattle.atspi_trace.specs.Entry.{Entry, started, changed, heard}
use Rattle.atspi_trace_laws.specs.laws.Words.{message, live_tree, heard_pairs}
use Rattle.atspi_trace_laws.specs.folds.Laws.{AreAllCovered}
use Rattle.atspi_trace_examples.specs.caches.Cases.{its_name, loaded}
use Rattle.atspi_trace_examples.specs.ways.Cases.{told_all, told_name}
use Rattle.atspi_trace_caches.specs.ways.Laws.{AreAskedSince}
use Rattle.atspi_trace_laws.proofs.OfOrder.Parties.{false_true}
use Rattle.atspi_trace_laws.proofs.OfOrder.Each.{Each, everywhere}
use Rattle.atspi_trace_examples.proofs.ways.what_was_asked_since.Goals as goal

-- the same entry by entry, which is computed
abbrev Asked : ℕ → List Entry → Entry → List Entry → Type 0
Asked last early (changed app step) ys = app ≡ 0 → is_some (message early (App 0) last) ≡ true → AreAllCovered (heard_pairs early 0) (announced its_name (live_tree early 0) step)
Asked last early entry ys = Unit {0}

by_entries : (trace : List Entry) (last : ℕ) → Each (Asked last) [] trace → AreAskedSince its_name trace 0 last
by_entries trace last e early ys step at some = everywhere (Asked last) trace e early (changed 0 step) ys at refl some

pub returns-clause-by_nobody : goal.returns-clause-by_nobody
returns-clause-by_nobody c h = false_true (h (started (App 0) (Some (codes "Demo")) ∷ loaded) _ (SetName 0 (codes "Desk")) refl refl).0

pub returns-clause-by_a_listener : goal.returns-clause-by_a_listener
unfolding encode
returns-clause-by_a_listener c =
    by_entries (heard 0 (codes ":1.9") (codes "object:property-change") ∷ told_name) 5 (tt, (tt, (tt, (tt, (tt, ((λ same some. (refl, tt)), (tt, tt)))))))

pub returns-clause-before_it : goal.returns-clause-before_it
returns-clause-before_it c = by_entries told_name 6 (tt, (tt, (tt, (tt, ((λ same some. absurd (false_true some)), (tt, tt))))))

pub returns-clause-of_another : goal.returns-clause-of_another
returns-clause-of_another c =
    by_entries (told_all ++ changed 1 (SetName 0 (codes "Desk")) ∷ []) 5 (tt, (tt, (tt, ((λ same some. absurd (false_true (ap (λ n. n == 0) same))), tt))))
