use Rattle.std.proofs.Common.{◌≡◌, ℕ, List, [], ◌∷◌, ◌++◌, refl}
use Rattle.atspi_script_lines.specs.declared.line.Party.TheVariants.{Reader, Registry}
use Rattle.atspi_trace.specs.Entry.{Entry, dropped, quiet}
use Rattle.atspi_run_examples.proofs.CauseByCause.{some}
use Rattle.atspi_run_examples.proofs.reached.last_entries.Goals as goal

pub returns-clause-last : goal.returns-clause-last
returns-clause-last c = (quiet ∷ [], 500, 24, refl)

not_last : (front : List Entry) (queued len : ℕ) → dropped Registry 500 24 ∷ quiet ∷ [] ≡ front ++ dropped Registry queued len ∷ [] → ⊥
not_last [] queued len h = absurd cc
not_last (x ∷ []) queued len h = absurd cc
not_last (x ∷ y ∷ front) queued len h = let rest : [] ≡ front ++ dropped Registry queued len ∷ [] = cc in some front (dropped Registry queued len) rest

pub returns-clause-not_last : goal.returns-clause-not_last
returns-clause-not_last c = λ h. not_last h.0 h.1 h.2 h.3

another : (front : List Entry) (queued len : ℕ) → dropped (Reader 0) 500 24 ∷ [] ≡ front ++ dropped Registry queued len ∷ [] → ⊥
another [] queued len h = absurd cc
another (x ∷ front) queued len h = let rest : [] ≡ front ++ dropped Registry queued len ∷ [] = cc in some front (dropped Registry queued len) rest

pub returns-clause-another : goal.returns-clause-another
returns-clause-another c = λ h. another h.0 h.1 h.2 h.3

pub returns-clause-nothing : goal.returns-clause-nothing
returns-clause-nothing c = λ h. some h.0 (dropped Registry h.1 h.2) h.3
