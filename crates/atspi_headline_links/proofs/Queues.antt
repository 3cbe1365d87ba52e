-- QUEUES of bytes: what waits for one connection is no matter of another.
use Rattle.std.proofs.Common.{◌≡◌, ℕ, Bool, true, false, List, [], ◌∷◌, ◌++◌, None, Some, refl, sym, ap, ◌∙◌, cond}
use Rattle.std.specs.Prelude.{◌==◌, ◌||◌, not, filter, if◌then◌else◌}
use Rattle.std.specs.FinMap as finmap
use Rattle.std.specs.FinMap.{FinMap, get-insert, get-remove, nat_cmp-IsAntisymmetric}
use Rattle.std.specs.Ordering.{nat_cmp, eq_by_cmp}
use Rattle.std.specs.Cmp.{nat_cmp_total, eq_by_cmp_equiv}
use Rattle.std.proofs.lemmas.Bool.{eqb-true, eq-eqb}
use Rattle.atspi_match.specs.declared.routing.closing.Why.{Why}
use Rattle.atspi_match.specs.routing.Queues.{Waiting, or_nothing, queue_of, is_due, doomed}
use Rattle.atspi_trace_laws.proofs.OfOrder.Parties.{false_true}
use Rattle.atspi_trace_laws.proofs.OfQuiet.Hello.{equal_of_tie}

no_tie : (q k : ℕ) → (q ≡ k → ⊥) → eq_by_cmp nat_cmp q k ≡ false
no_tie q k differ = by (eq_by_cmp nat_cmp q k) refl
  where
    by : (b : Bool) → eq_by_cmp nat_cmp q k ≡ b → b ≡ false
    by true e = absurd (differ (nat_cmp-IsAntisymmetric q k (equal_of_tie _ e)))
    by false e = refl

pub queue_here : (m : FinMap nat_cmp (List ℕ)) (k : ℕ) (bytes : List ℕ) → queue_of (finmap.insert m k bytes) k ≡ bytes
queue_here m k bytes =
    ap or_nothing (get-insert nat_cmp_total m k bytes k ∙ ap (λ b. cond b (Some bytes) (finmap.get m k)) ((eq_by_cmp_equiv nat_cmp_total).refl k))

pub queue_there : (m : FinMap nat_cmp (List ℕ)) (k q : ℕ) (bytes : List ℕ) → (q ≡ k → ⊥) → queue_of (finmap.insert m k bytes) q ≡ queue_of m q
queue_there m k q bytes differ = ap or_nothing (get-insert nat_cmp_total m k bytes q ∙ ap (λ b. cond b (Some bytes) (finmap.get m q)) (no_tie q k differ))

pub queue_left : (m : FinMap nat_cmp (List ℕ)) (k q : ℕ) → (q ≡ k → ⊥) → queue_of (finmap.remove m k) q ≡ queue_of m q
queue_left m k q differ = ap or_nothing (get-remove nat_cmp_total m k q ∙ ap (λ b. cond b None (finmap.get m q)) (no_tie q k differ))

-- who is to be closed
pub due_of_rest : (conn k : ℕ) (due : List (ℕ × Why)) → (k ≡ conn → ⊥) → is_due k (filter (λ (d : ℕ × Why). not (d.0 == conn)) due) ≡ false → is_due k due ≡ false
due_of_rest conn k [] differ h = refl
due_of_rest conn k (d ∷ due) differ h = by (d.0 == conn) refl (due_of_rest conn k due differ) h
  where
    by : (b : Bool) → (d.0 == conn) ≡ b → (is_due k (filter (λ (x : ℕ × Why). not (x.0 == conn)) due) ≡ false → is_due k due ≡ false)
        → is_due k (cond (not b) (d ∷ filter (λ (x : ℕ × Why). not (x.0 == conn)) due) (filter (λ (x : ℕ × Why). not (x.0 == conn)) due)) ≡ false → (d.0 == k || is_due k due) ≡ false
    by true e ih g = ap (λ b. b || is_due k due) (other (d.0 == k) refl) ∙ ih g
      where
        other : (b : Bool) → (d.0 == k) ≡ b → b ≡ false
        other true f = absurd (differ (sym (eqb-true d.0 k f) ∙ eqb-true d.0 conn e))
        other false f = refl
    by false e ih g = split (d.0 == k) g
      where
        split : (b : Bool) → (b || is_due k (filter (λ (x : ℕ × Why). not (x.0 == conn)) due)) ≡ false → (b || is_due k due) ≡ false
        split true f = f
        split false f = ih f

any_front : (k : ℕ) (xs ys : List (ℕ × Why)) → is_due k (xs ++ ys) ≡ false → is_due k xs ≡ false
any_front k [] ys h = refl
any_front k (x ∷ xs) ys h = by (x.0 == k) (any_front k xs ys) h
  where
    by : (b : Bool) → (is_due k (xs ++ ys) ≡ false → is_due k xs ≡ false) → (b || is_due k (xs ++ ys)) ≡ false → (b || is_due k xs) ≡ false
    by true ih g = g
    by false ih g = ih g

last_due : (k : ℕ) (xs : List (ℕ × Why)) (why : Why) → is_due k (xs ++ (k, why) ∷ []) ≡ true
last_due k [] why = ap (λ b. b || false) (eq-eqb k k refl)
last_due k (x ∷ xs) why = by (x.0 == k) (last_due k xs why)
  where
    by : (b : Bool) → is_due k (xs ++ (k, why) ∷ []) ≡ true → (b || is_due k (xs ++ (k, why) ∷ [])) ≡ true
    by true g = refl
    by false g = g

-- who is not to be closed behind a doom was not before; and who is doomed is to be closed
pub doomed_before : (w : Waiting) (conn k : ℕ) (why : Why) → is_due k (doomed w conn why).due ≡ false → is_due k w.due ≡ false
doomed_before w conn k why h = by (is_due conn w.due) h
  where
    by : (b : Bool) → is_due k (if b then w else record w { due = w.due ++ (conn, why) ∷ [] }).due ≡ false → is_due k w.due ≡ false
    by true g = g
    by false g = any_front k w.due ((conn, why) ∷ []) g

pub doomed_due : (w : Waiting) (k : ℕ) (why : Why) → is_due k (doomed w k why).due ≡ false → ⊥
doomed_due w k why h = by (is_due k w.due) refl h
  where
    by : (b : Bool) → is_due k w.due ≡ b → is_due k (if b then w else record w { due = w.due ++ (k, why) ∷ [] }).due ≡ false → ⊥
    by true e g = false_true (sym g ∙ e)
    by false e g = false_true (sym g ∙ last_due k w.due why)

pub doomed_queues : (w : Waiting) (k : ℕ) (why : Why) → (doomed w k why).queues ≡ w.queues
doomed_queues w k why = by (is_due k w.due)
  where
    by : (b : Bool) → (if b then w else record w { due = w.due ++ (k, why) ∷ [] }).queues ≡ w.queues
    by true = refl
    by false = refl
