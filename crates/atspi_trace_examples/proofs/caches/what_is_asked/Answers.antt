use Rattle.std.proofs.Common.{◌≡◌, ℕ, true, List, [], ◌∷◌, ◌++◌, refl, ap}
use Rattle.std.specs.Prelude.{◌==◌, codes, is_some}
use lib.Utf8.{encode}
use Rattle.atspi_tree_model.specs.declared.step.Step.TheVariants.{SetName}
use Rattle.atspi_script_lines.specs.declared.line.Party.TheVariants.{App}
use Rattle.atspi_protocol.specs.announcing.Announced.{announced}
use Rattle.atspi_protocol.specs.announcing.Signals.{caret_moved}
use Rattle.atspi_trace.specs.Entry.{Entry, changed, sent, heard}
use Rattle.atspi_trace_laws.specs.laws.Words.{message, before_sent, live_tree, heard_pairs}
use Rattle.atspi_trace_laws.specs.folds.Laws.{AreAllCovered}
use Rattle.atspi_trace_examples.specs.caches.Cases.{its_name, loaded, renamed}
use Rattle.atspi_trace_caches.specs.caches.Laws.{AreAsked}
use Rattle.atspi_trace_laws.proofs.OfOrder.Parties.{false_true}
use Rattle.atspi_trace_laws.proofs.OfOrder.Each.{Each, everywhere}
use Rattle.atspi_trace_examples.proofs.caches.what_is_asked.Goals as goal

-- the same entry by entry, which is computed
abbrev Asked : ℕ → List Entry → Entry → List Entry → Type 0
Asked last early (changed app step) ys = app ≡ 0 → is_some (message early (App 0) last) ≡ true → AreAllCovered (heard_pairs early 0) (announced its_name (live_tree early 0) step)
Asked last early entry ys = Unit {0}

by_entries : (before : List Entry) (last serial : ℕ) → Each (Asked last) [] (before_sent (App 0) serial before) → AreAsked its_name before 0 last serial
by_entries before last serial e early ys step at some = everywhere (Asked last) (before_sent (App 0) serial before) e early (changed 0 step) ys at refl some

pub returns-clause-by_nobody : goal.returns-clause-by_nobody
returns-clause-by_nobody c h = false_true (h loaded [] (SetName 0 (codes "Desk")) refl refl).0

pub returns-clause-by_a_listener : goal.returns-clause-by_a_listener
unfolding encode
returns-clause-by_a_listener c =
    by_entries (heard 0 (codes ":1.9") (codes "object:property-change") ∷ renamed) 5 6 (tt, (tt, (tt, (tt, ((λ same some. (refl, tt)), tt)))))

pub returns-clause-before_it : goal.returns-clause-before_it
returns-clause-before_it c =
    by_entries (renamed ++ sent (App 0) (record (caret_moved 0 0).message { serial = 7 }) ∷ []) 6 7 (tt, (tt, (tt, ((λ same some. absurd (false_true some)), (tt, tt)))))

pub returns-clause-of_another : goal.returns-clause-of_another
returns-clause-of_another c =
    by_entries (loaded ++ changed 1 (SetName 0 (codes "Desk")) ∷ sent (App 0) (record (caret_moved 0 0).message { serial = 6 }) ∷ []) 5 6
    (tt, (tt, (tt, ((λ same some. absurd (false_true (ap (λ n. n == 0) same))), tt))))
