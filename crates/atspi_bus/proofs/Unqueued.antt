-- A queue that goes before others get bytes, or after.
use Rattle.std.proofs.Common.{◌≡◌, ◌≢◌, ℕ, ◌+◌, Bool, true, false, cond, not, ◌||◌, List, [], ◌∷◌, ◌++◌, length, Option, None, Some, refl, sym, ap, ◌∙◌}
use Rattle.std.proofs.lemmas.Bool.Decides.{Decides-eqb}
use Rattle.std.specs.Prelude.{◌==◌, nat_lt}
use Rattle.std.specs.List.{fold, filter, All}
use Rattle.std.proofs.lemmas.List.Elements.{All-head, All-tail}
use Rattle.std.specs.Ordering.{nat_cmp, eq_by_cmp}
use Rattle.std.specs.Cmp.{nat_cmp_total}
use Rattle.std.specs.FinMap as finmap
use Rattle.std.specs.FinMap.{FinMap, get-insert, get-remove, same_map, nat_cmp-IsAntisymmetric}
use Rattle.atspi_message.specs.Bytes.{written}
use Rattle.atspi_names.proofs.Maps.{equal_of_tie}
use Rattle.atspi_match.specs.declared.routing.closing.Why.{Why}
use Rattle.atspi_match.specs.declared.routing.closing.Why.TheVariants.{Quota}
use Rattle.atspi_match.specs.routing.Steps.{Move, says, delivers, closes}
use Rattle.atspi_match.specs.routing.Queues.{Waiting, or_nothing, queue_of, is_due, doomed, queued, moved, without_queue, told_length}

differ : (conn c : ℕ) → c ≢ conn → (c == conn) ≡ false
differ conn c other = by (c == conn) refl
  where
    by : (b : Bool) → (c == conn) ≡ b → b ≡ false
    by true is = absurd (other ((Decides-eqb c conn).0 is))
    by false is = refl

apart : (conn c : ℕ) → c ≢ conn → eq_by_cmp nat_cmp c conn ≡ false
apart conn c other = by (eq_by_cmp nat_cmp c conn) refl
  where
    by : (b : Bool) → eq_by_cmp nat_cmp c conn ≡ b → b ≡ false
    by true is = absurd (other (nat_cmp-IsAntisymmetric c conn (equal_of_tie _ is)))
    by false is = refl

-- those to be closed but for one
abbrev not_due : ℕ → List (ℕ × Why) → List (ℕ × Why)
not_due conn due = filter (λ (d : ℕ × Why). not (d.0 == conn)) due

module _ (conn c : ℕ) (other : c ≢ conn) where
  due_else : (due : List (ℕ × Why)) → is_due c (not_due conn due) ≡ is_due c due
  due_else [] = refl
  due_else (d ∷ due) = by (d.0 == conn) refl (due_else due)
    where
      by : (b : Bool) → (d.0 == conn) ≡ b → is_due c (not_due conn due) ≡ is_due c due → is_due c (not_due conn (d ∷ due)) ≡ is_due c (d ∷ due)
      by true is rest =
          let off : (d.0 == c) ≡ false = differ c d.0 (λ t. other (sym t ∙ (Decides-eqb d.0 conn).0 is)) in
          rw (is, off) rest
      by false is rest = rw is (ap (λ b. (d.0 == c) || b) rest)

  due_more : (due : List (ℕ × Why)) (why : Why) → not_due conn (due ++ (c, why) ∷ []) ≡ not_due conn due ++ (c, why) ∷ []
  due_more [] why = ap (λ b. cond (not b) ((c, why) ∷ []) []) (differ conn c other)
  due_more (d ∷ due) why = by (d.0 == conn) refl (due_more due why)
    where
      by : (b : Bool) → (d.0 == conn) ≡ b → not_due conn (due ++ (c, why) ∷ []) ≡ not_due conn due ++ (c, why) ∷ []
          → not_due conn ((d ∷ due) ++ (c, why) ∷ []) ≡ not_due conn (d ∷ due) ++ (c, why) ∷ []
      by true is rest = rw is rest
      by false is rest = rw is (ap (λ (l : List (ℕ × Why)). d ∷ l) rest)

  queue_else : (queues : FinMap nat_cmp (List ℕ)) → queue_of (finmap.remove queues conn) c ≡ queue_of queues c
  queue_else queues = ap or_nothing (get-remove nat_cmp_total queues conn c ∙ ap (λ b. cond b None (finmap.get queues c)) (apart conn c other))

  insert_else : (queues : FinMap nat_cmp (List ℕ)) (v : List ℕ) → finmap.insert (finmap.remove queues conn) c v ≡ finmap.remove (finmap.insert queues c v) conn
  insert_else queues v = same_map nat_cmp_total nat_cmp-IsAntisymmetric _ _ (λ q.
      get-insert nat_cmp_total (finmap.remove queues conn) c v q
      ∙ ap (cond (eq_by_cmp nat_cmp q c) (Some v)) (get-remove nat_cmp_total queues conn q)
      ∙ swapped q (eq_by_cmp nat_cmp q c) (eq_by_cmp nat_cmp q conn) refl refl (finmap.get queues q)
      ∙ sym (get-remove nat_cmp_total (finmap.insert queues c v) conn q ∙ ap (cond (eq_by_cmp nat_cmp q conn) None) (get-insert nat_cmp_total queues c v q)))
    where
      swapped : (q : ℕ) (a b : Bool) → eq_by_cmp nat_cmp q c ≡ a → eq_by_cmp nat_cmp q conn ≡ b → (x : Option (List ℕ)) → cond a (Some v) (cond b None x) ≡ cond b None (cond a (Some v) x)
      swapped q true true is it x = absurd (other (sym (nat_cmp-IsAntisymmetric q c (equal_of_tie _ is)) ∙ nat_cmp-IsAntisymmetric q conn (equal_of_tie _ it)))
      swapped q true false is it x = refl
      swapped q false b is it x = refl

  doomed_else : (w : Waiting) (why : Why) → doomed (without_queue w conn) c why ≡ without_queue (doomed w c why) conn
  doomed_else w why =
      ap (λ b. cond b (without_queue w conn) (record (without_queue w conn) { due = (without_queue w conn).due ++ (c, why) ∷ [] })) (due_else w.due)
      ∙ by (is_due c w.due)
    where
      by : (b : Bool) → cond b (without_queue w conn) (record (without_queue w conn) { due = (without_queue w conn).due ++ (c, why) ∷ [] })
          ≡ without_queue (cond b w (record w { due = w.due ++ (c, why) ∷ [] })) conn
      by true = refl
      by false = ap (λ (d : List (ℕ × Why)). record { queues = finmap.remove w.queues conn; due = d }) (sym (due_more w.due why))

  queued_else : (quota : ℕ) (w : Waiting) (bytes : List ℕ) → queued quota (without_queue w conn) c bytes ≡ without_queue (queued quota w c bytes) conn
  queued_else quota w bytes =
      let v = without_queue w conn in
      let put : Bool → List ℕ → Waiting =
      λ b had. cond b v (cond (nat_lt quota (length had + length bytes)) (doomed v c (Quota (length had) (told_length bytes))) (record v { queues = finmap.insert v.queues c (had ++ bytes) })) in
      ap (λ b. put b (queue_of v.queues c)) (due_else w.due) ∙ ap (put (is_due c w.due)) (queue_else w.queues)
      ∙ by (is_due c w.due) (nat_lt quota (length (queue_of w.queues c) + length bytes))
    where
      by : (a b : Bool)
          → cond a (without_queue w conn) (cond b (doomed (without_queue w conn) c (Quota (length (queue_of w.queues c)) (told_length bytes)))
          (record (without_queue w conn) { queues = finmap.insert (without_queue w conn).queues c (queue_of w.queues c ++ bytes) }))
          ≡ without_queue (cond a w (cond b (doomed w c (Quota (length (queue_of w.queues c)) (told_length bytes))) (record w { queues = finmap.insert w.queues c (queue_of w.queues c ++ bytes) }))) conn
      by true b = refl
      by false true = doomed_else w (Quota (length (queue_of w.queues c)) (told_length bytes))
      by false false = ap (λ (m : FinMap nat_cmp (List ℕ)). record { queues = m; due = (without_queue w conn).due }) (insert_else w.queues (queue_of w.queues c ++ bytes))

-- a move that gives the connection nothing
abbrev pub GivesOthers : ℕ → Move → Type 0
GivesOthers conn (says e) = Unit {0}
GivesOthers conn (delivers c e) = c ≢ conn
GivesOthers conn (closes c) = ⊥

moved_else : (quota conn : ℕ) (w : Waiting) (m : Move) → GivesOthers conn m → moved quota (without_queue w conn) m ≡ without_queue (moved quota w m) conn
moved_else quota conn w (says e) h = refl
moved_else quota conn w (delivers c e) h = queued_else conn c h quota w (written e)
moved_else quota conn w (closes c) h = absurd h

pub all_moved_else : (quota conn : ℕ) (w : Waiting) (moves : List Move) → All (GivesOthers conn) moves
    → fold (moved quota) (without_queue w conn) moves ≡ without_queue (fold (moved quota) w moves) conn
all_moved_else quota conn w [] h = refl
all_moved_else quota conn w (m ∷ moves) h =
    ap (λ (v : Waiting). fold (moved quota) v moves) (moved_else quota conn w m (All-head (GivesOthers conn) m moves h))
    ∙ all_moved_else quota conn (moved quota w m) moves (All-tail (GivesOthers conn) m moves h)
