-- What each move of blocks leaves.
use Rattle.std.proofs.Common.{◌≡◌, ℕ, suc, ◌+◌, ◌-◌, ◌<◌, ◌≤◌, List, [], ◌∷◌, ◌++◌, cond, eqb, ltb, length, get_or, set, take, drop, map, refl, sym, ap, ◌∙◌, subst, arith}
use Rattle.std.proofs.lemmas.List.{get_or-drop, length-map, length-append, length-drop, length_push, get_or_push, length-take-le}
use Rattle.std.proofs.lemmas.List.Sums.{sum_by-take-drop, get_or-le-sum_by}
use Rattle.std.proofs.lemmas.Bool.Decides.{nat_tests}
use Rattle.atspi_pool.specs.declared.run.Run.{Run}
use Rattle.atspi_pool.specs.Links.{times, Entry, IsApart, no_entry}
use Rattle.atspi_pool.specs.Walk.{walk, entry_of, linked_of, no_run, IsLinked}
use Rattle.atspi_pool.proofs.WalkLemmas.{jump, jump_more, jump_add, get_or-walk, length-walk, times-append, times-cons, times-jump, times-take, times-drop, none_before, none_after, walk-set, walk_joined, walk-push, take-walk, drop-walk}
use Rattle.atspi_pool.proofs.LinkLemmas.{IsChanged, get_or-map, same_linked, relisted, relinked, once, is_made}

times-split : (x k : ℕ) (xs : List ℕ) → times x (take k xs) + times x (drop k xs) ≡ times x xs
times-split x k xs = sum_by-take-drop _ xs k

length-split : (k : ℕ) (xs : List ℕ) → k ≤ length xs → length (take k xs) + length (drop k xs) ≡ length xs
length-split k xs h = grind (arith, length-drop, length-take-le)

module _ (next : List ℕ) (f u : ℕ) (runs : List Run) (h : IsLinked next f u runs) (c : ℕ) (within : c < length runs) where
  -- the number of the last block
  last_place : 0 < (get_or runs c no_run).count
      → jump next (get_or runs c no_run).first ((get_or runs c no_run).count - 1) ≡ (get_or runs c no_run).last
  last_place pos =
      sym (get_or-walk next (get_or runs c no_run).first ((get_or runs c no_run).count - 1) (get_or runs c no_run).count (omega arith))
      ∙ h.ends c within pos

  -- the first free block goes to a chain without blocks
  pub first_taken : 0 < u → (get_or runs c no_run).count ≡ 0
      → IsChanged next f u runs next (get_or next f 0) (u - 1)
      (set runs c (record { first = f; last = f; count = 1; marks = (get_or runs c no_run).marks })) c (drop 1 (walk next f u))
      (record { marks = (get_or runs c no_run).marks; blocks = walk next (get_or runs c no_run).first (get_or runs c no_run).count ++ get_or (walk next f u) 0 0 ∷ [] })
  first_taken free empty =
      let run : Run = get_or runs c no_run in
      let xs : List ℕ = walk next (get_or runs c no_run).first (get_or runs c no_run).count in
      let head : get_or (walk next f u) 0 0 ≡ f = get_or-walk next f 0 u free in
      let none : walk next (get_or runs c no_run).first (get_or runs c no_run).count ≡ [] = ap (walk next (get_or runs c no_run).first) empty in
      relisted next f u runs h c within (get_or next f 0) (u - 1) _ (drop 1 (walk next f u)) _
      (λ x.
      let s : times x (take 1 (walk next f u)) + times x (drop 1 (walk next f u)) ≡ times x (walk next f u) = times-split x 1 (walk next f u) in
      let one : take 1 (walk next f u) ≡ get_or (walk next f u) 0 0 ∷ [] = take-walk next f 1 u (omega arith) ∙ ap (λ b. b ∷ []) (sym head) in
      omega (arith, s, ap (times x) one, times-append x (walk next (get_or runs c no_run).first (get_or runs c no_run).count) (get_or (walk next f u) 0 0 ∷ [])))
      (omega (arith, length-drop 1 (walk next f u), length-walk next f u, length_push (walk next (get_or runs c no_run).first (get_or runs c no_run).count) (get_or (walk next f u) 0 0), length-walk next (get_or runs c no_run).first (get_or runs c no_run).count))
      (sym (drop-walk next f 1 u (omega arith)))
      (ap (λ bs. record { marks = (get_or runs c no_run).marks; blocks = bs })
      (ap (λ b. b ∷ []) (sym head) ∙ ap (λ w. w ++ get_or (walk next f u) 0 0 ∷ []) (sym none)))
      (λ pos. refl)

  -- the first free block goes behind the last of a chain
  pub next_taken : 0 < u → 0 < (get_or runs c no_run).count
      → IsChanged next f u runs (set next (get_or runs c no_run).last f) (get_or next f 0) (u - 1)
      (set runs c (record { first = (get_or runs c no_run).first; last = f; count = (get_or runs c no_run).count + 1; marks = (get_or runs c no_run).marks })) c (drop 1 (walk next f u))
      (record { marks = (get_or runs c no_run).marks; blocks = walk next (get_or runs c no_run).first (get_or runs c no_run).count ++ get_or (walk next f u) 0 0 ∷ [] })
  next_taken free pos =
      let a : ℕ = (get_or runs c no_run).first in
      let n : ℕ = (get_or runs c no_run).count in
      let t : ℕ = (get_or runs c no_run).last in
      let xs : List ℕ = walk next a n in
      let now : List ℕ = set next t f in
      let head : get_or (walk next f u) 0 0 ≡ f = get_or-walk next f 0 u free in
      let lt : n - 1 < n = omega arith in
      let place : jump next a (n - 1) ≡ t = last_place pos in
      let here : 1 ≤ times t (walk next a n) = subst (λ j. 1 ≤ times j (walk next a n)) place (times-jump next a (n - 1) n lt) in
      let sum : times t (walk next f u) + times t (walk next a n) ≤ 1 = once next f u runs h c within t in
      let apart : times t (walk next f u) ≡ 0 = omega arith in
      let before : times t (walk next a (n - 1)) ≡ 0 =
      subst (λ j. times j (walk next a (n - 1)) ≡ 0) place
      (none_before next a (n - 1) n lt (subst (λ j. times j (walk next a n) ≤ 1) (sym place) (omega arith))) in
      let one : walk next f 1 ≡ take 1 (walk next f u) = sym (take-walk next f 1 u (omega arith)) in
      let lone : times t (walk next f 1) ≡ 0 = ap (times t) one ∙ times-take t 1 (walk next f u) apart in
      let joined : walk now a (suc (n - 1) + 1) ≡ walk next a (suc (n - 1)) ++ walk next f 1 =
      subst (λ j. walk (set next j f) a (suc (n - 1) + 1) ≡ walk next a (suc (n - 1)) ++ walk next f 1) place
      (walk_joined next a (n - 1) f 1 (subst (λ j. j < length next) (sym place) (is_made next f u runs h c within t here))
      (subst (λ j. times j (walk next a (n - 1)) ≡ 0) (sym place) before) (subst (λ j. times j (walk next f 1) ≡ 0) (sym place) lone)) in
      let full : suc (n - 1) ≡ n = omega arith in
      let more : n + 1 ≡ suc (n - 1) + 1 = omega arith in
      let whole : walk now a (n + 1) ≡ walk next a n ++ get_or (walk next f u) 0 0 ∷ [] =
      ap (walk now a) more ∙ joined ∙ ap (λ m. walk next a m ++ f ∷ []) full ∙ ap (λ b. walk next a n ++ b ∷ []) (sym head) in
      let behind : walk next (get_or next f 0) (u - 1) ≡ drop 1 (walk next f u) = sym (drop-walk next f 1 u (omega arith)) in
      let rest : walk now (get_or next f 0) (u - 1) ≡ drop 1 (walk next f u) =
      walk-set next t f (get_or next f 0) (u - 1) (ap (times t) behind ∙ times-drop t 1 (walk next f u) apart) ∙ behind in
      relinked next f u runs h c within (get_or next f 0) (u - 1) _ (drop 1 (walk next f u)) _
      (λ x.
      let s : times x (take 1 (walk next f u)) + times x (drop 1 (walk next f u)) ≡ times x (walk next f u) = times-split x 1 (walk next f u) in
      let one : take 1 (walk next f u) ≡ get_or (walk next f u) 0 0 ∷ [] = take-walk next f 1 u (omega arith) ∙ ap (λ b. b ∷ []) (sym head) in
      omega (arith, s, ap (times x) one, times-append x (walk next a n) (get_or (walk next f u) 0 0 ∷ [])))
      (omega (arith, length-drop 1 (walk next f u), length-walk next f u, length_push (walk next a n) (get_or (walk next f u) 0 0), length-walk next a n))
      t f here rest
      (ap (λ bs. record { marks = (get_or runs c no_run).marks; blocks = bs }) whole)
      (λ pos.
      let e : n + 1 - 1 ≡ n = omega arith in
      ap (λ w. get_or w (n + 1 - 1) 0) whole ∙ ap (λ i. get_or (walk next a n ++ get_or (walk next f u) 0 0 ∷ []) i 0) e
      ∙ get_or_push (walk next a n) (get_or (walk next f u) 0 0) 0 n (length-walk next a n) ∙ head)

  -- the first blocks of a chain become free
  pub front_given : (k : ℕ) → 0 < k → k ≤ (get_or runs c no_run).count
      → IsChanged next f u runs (set next (jump next (get_or runs c no_run).first (k - 1)) f) (get_or runs c no_run).first (u + k)
      (set runs c (record { first = get_or next (jump next (get_or runs c no_run).first (k - 1)) 0; last = (get_or runs c no_run).last; count = (get_or runs c no_run).count - k; marks = (get_or runs c no_run).marks })) c
      (take k (walk next (get_or runs c no_run).first (get_or runs c no_run).count) ++ walk next f u)
      (record { marks = (get_or runs c no_run).marks; blocks = drop k (walk next (get_or runs c no_run).first (get_or runs c no_run).count) })
  front_given k some within_chain =
      let a : ℕ = (get_or runs c no_run).first in
      let n : ℕ = (get_or runs c no_run).count in
      let t : ℕ = jump next a (k - 1) in
      let now : List ℕ = set next t f in
      let lt : k - 1 < n = omega arith in
      let full : suc (k - 1) ≡ k = omega arith in
      let here : 1 ≤ times t (walk next a n) = times-jump next a (k - 1) n lt in
      let sum : times t (walk next f u) + times t (walk next a n) ≤ 1 = once next f u runs h c within t in
      let apart : times t (walk next f u) ≡ 0 = omega arith in
      let before : times t (walk next a (k - 1)) ≡ 0 = none_before next a (k - 1) n lt (omega arith) in
      let after : times t (walk next (jump next a (suc (k - 1))) (n - suc (k - 1))) ≡ 0 = none_after next a (k - 1) n lt (omega arith) in
      let link : get_or next t 0 ≡ jump next a (suc (k - 1)) = sym (jump_more next a (k - 1)) in
      let rest : walk next (get_or next t 0) (n - k) ≡ drop k (walk next a n) =
      ap (λ j. walk next j (n - k)) (link ∙ ap (jump next a) full) ∙ sym (drop-walk next a k n within_chain) in
      let kept : walk now (get_or next t 0) (n - k) ≡ drop k (walk next a n) =
      walk-set next t f (get_or next t 0) (n - k)
      (ap (λ j. times t (walk next j (n - k))) link ∙ ap (λ m. times t (walk next (jump next a (suc (k - 1))) (n - m))) (sym full) ∙ after) ∙ rest in
      let more : u + k ≡ suc (k - 1) + u = omega arith in
      let given : walk now a (u + k) ≡ take k (walk next a n) ++ walk next f u =
      ap (walk now a) more
      ∙ walk_joined next a (k - 1) f u (is_made next f u runs h c within t here) before apart
      ∙ ap (λ m. walk next a m ++ walk next f u) full ∙ ap (λ w. w ++ walk next f u) (sym (take-walk next a k n within_chain)) in
      relinked next f u runs h c within a (u + k) _ (take k (walk next a n) ++ walk next f u) _
      (λ x. omega (arith, times-append x (take k (walk next a n)) (walk next f u), times-split x k (walk next a n)))
      (omega (arith, length-append (take k (walk next a n)) (walk next f u), length-walk next f u, length-walk next a n, length-split k (walk next a n) (omega (arith, length-walk next a n))))
      t f here given
      (ap (λ bs. record { marks = (get_or runs c no_run).marks; blocks = bs }) kept)
      (λ pos.
      let e : k + (n - k - 1) ≡ n - 1 = omega arith in
      ap (λ w. get_or w (n - k - 1) 0) kept ∙ get_or-drop k (walk next a n) (n - k - 1) 0 ∙ ap (λ i. get_or (walk next a n) i 0) e ∙ h.ends c within (omega arith))

  -- all but the first blocks of a chain become free
  pub front_kept : (k : ℕ) → 0 < k → k < (get_or runs c no_run).count
      → IsChanged next f u runs (set next (get_or runs c no_run).last f) (get_or next (jump next (get_or runs c no_run).first (k - 1)) 0) (u + ((get_or runs c no_run).count - k))
      (set runs c (record { first = (get_or runs c no_run).first; last = jump next (get_or runs c no_run).first (k - 1); count = k; marks = (get_or runs c no_run).marks })) c
      (drop k (walk next (get_or runs c no_run).first (get_or runs c no_run).count) ++ walk next f u)
      (record { marks = (get_or runs c no_run).marks; blocks = take k (walk next (get_or runs c no_run).first (get_or runs c no_run).count) })
  front_kept k some within_chain =
      let a : ℕ = (get_or runs c no_run).first in
      let n : ℕ = (get_or runs c no_run).count in
      let t : ℕ = (get_or runs c no_run).last in
      let now : List ℕ = set next t f in
      let m : ℕ = n - k - 1 in
      let lt : n - 1 < n = omega arith in
      let place : jump next a (n - 1) ≡ t = last_place (omega arith) in
      let full : suc (k - 1) ≡ k = omega arith in
      let link : get_or next (jump next a (k - 1)) 0 ≡ jump next a k = sym (jump_more next a (k - 1)) ∙ ap (jump next a) full in
      let here : 1 ≤ times t (walk next a n) = subst (λ j. 1 ≤ times j (walk next a n)) place (times-jump next a (n - 1) n lt) in
      let sum : times t (walk next f u) + times t (walk next a n) ≤ 1 = once next f u runs h c within t in
      let apart : times t (walk next f u) ≡ 0 = omega arith in
      let before : times t (walk next a (n - 1)) ≡ 0 =
      subst (λ j. times j (walk next a (n - 1)) ≡ 0) place
      (none_before next a (n - 1) n lt (subst (λ j. times j (walk next a n) ≤ 1) (sym place) (omega arith))) in
      let front : times t (walk next a k) ≡ 0 = ap (times t) (sym (take-walk next a k (n - 1) (omega arith))) ∙ times-take t k (walk next a (n - 1)) before in
      let size : n - 1 - k ≡ n - k - 1 = omega arith in
      let middle : times t (walk next (jump next a k) (n - k - 1)) ≡ 0 =
      ap (λ i. times t (walk next (jump next a k) i)) (sym size) ∙ ap (times t) (sym (drop-walk next a k (n - 1) (omega arith))) ∙ times-drop t k (walk next a (n - 1)) before in
      let sum_is : k + (n - k - 1) ≡ n - 1 = omega arith in
      let ends_at : jump next (jump next a k) (n - k - 1) ≡ t = jump_add next a k (n - k - 1) ∙ ap (jump next a) sum_is ∙ place in
      let joined : walk now (jump next a k) (suc (n - k - 1) + u) ≡ walk next (jump next a k) (suc (n - k - 1)) ++ walk next f u =
      subst (λ j. walk (set next j f) (jump next a k) (suc (n - k - 1) + u) ≡ walk next (jump next a k) (suc (n - k - 1)) ++ walk next f u) ends_at
      (walk_joined next (jump next a k) (n - k - 1) f u (subst (λ j. j < length next) (sym ends_at) (is_made next f u runs h c within t here))
      (subst (λ j. times j (walk next (jump next a k) (n - k - 1)) ≡ 0) (sym ends_at) middle) (subst (λ j. times j (walk next f u) ≡ 0) (sym ends_at) apart)) in
      let more : u + (n - k) ≡ suc (n - k - 1) + u = omega arith in
      let rest : suc (n - k - 1) ≡ n - k = omega arith in
      let given : walk now (get_or next (jump next a (k - 1)) 0) (u + (n - k)) ≡ drop k (walk next a n) ++ walk next f u =
      ap (λ j. walk now j (u + (n - k))) link ∙ ap (walk now (jump next a k)) more ∙ joined
      ∙ ap (λ i. walk next (jump next a k) i ++ walk next f u) rest ∙ ap (λ w. w ++ walk next f u) (sym (drop-walk next a k n (omega arith))) in
      let kept : walk now a k ≡ take k (walk next a n) = walk-set next t f a k front ∙ sym (take-walk next a k n (omega arith)) in
      relinked next f u runs h c within _ (u + (n - k)) _ (drop k (walk next a n) ++ walk next f u) _
      (λ x. omega (arith, times-append x (drop k (walk next a n)) (walk next f u), times-split x k (walk next a n)))
      (omega (arith, length-append (drop k (walk next a n)) (walk next f u), length-walk next f u, length-walk next a n, length-split k (walk next a n) (omega (arith, length-walk next a n))))
      t f here given
      (ap (λ bs. record { marks = (get_or runs c no_run).marks; blocks = bs }) kept)
      (λ pos.
      ap (λ w. get_or w (k - 1) 0) (walk-set next t f a k front) ∙ get_or-walk next a (k - 1) k (omega arith))

chance_none : (x : ℕ) → cond {A = ℕ} (ltb x x) 1 0 ≡ 0
chance_none x = grind (arith, nat_tests)

chance_more : (x m : ℕ) → cond {A = ℕ} (eqb m x) 1 0 + cond {A = ℕ} (ltb x m) 1 0 ≡ cond {A = ℕ} (ltb x (m + 1)) 1 0
chance_more x m = grind (arith, nat_tests)

-- a new block is free
module _ (next : List ℕ) (f u : ℕ) (runs : List Run) (h : IsLinked next f u runs) where
  fresh_free : times (length next) (walk next f u) ≡ 0
  fresh_free = omega (arith, h.apart.once (length next), chance_none (length next))

  fresh : (q : ℕ) → q < length runs → times (length next) (walk next (get_or runs q no_run).first (get_or runs q no_run).count) ≡ 0
  fresh q hq =
      let le = get_or-le-sum_by (λ (e : Entry). times (length next) e.blocks) (map (entry_of next) runs) q no_entry (subst (λ n. q < n) (sym (length-map runs (entry_of next))) hq) in
      let is = ap (λ (e : Entry). times (length next) e.blocks) (get_or-map (entry_of next) runs q no_run) in
      omega (arith, le, is, h.apart.once (length next), chance_none (length next))

  map_pushed : (rs : List Run) → ((q : ℕ) → q < length rs → times (length next) (walk next (get_or rs q no_run).first (get_or rs q no_run).count) ≡ 0)
      → map (entry_of (next ++ f ∷ [])) rs ≡ map (entry_of next) rs
  map_pushed [] g = refl
  map_pushed (r ∷ rs) g =
      let e : entry_of (next ++ f ∷ []) r ≡ entry_of next r = ap (λ w. record { marks = r.marks; blocks = w }) (walk-push next f r.first r.count (g 0 (omega arith))) in
      let es = map_pushed rs (λ q l. g (suc q) (omega arith)) in
      ap (λ x. x ∷ map (entry_of (next ++ f ∷ [])) rs) e ∙ ap (λ xs. entry_of next r ∷ xs) es

  pub added_view : linked_of (next ++ f ∷ []) (length next) (u + 1) runs
      ≡ record (linked_of next f u runs) { made = length next + 1; unused = length next ∷ walk next f u }
  added_view =
      let one : u + 1 ≡ suc u = omega arith in
      same_linked (length_push next f)
      (ap (walk (next ++ f ∷ []) (length next)) one
      ∙ ap (λ b. length next ∷ walk (next ++ f ∷ []) b u) (get_or_push next f 0 (length next) refl)
      ∙ ap (λ w. length next ∷ w) (walk-push next f f u fresh_free))
      (map_pushed runs fresh)

  pub added_linked : IsLinked (next ++ f ∷ []) (length next) (u + 1) runs
  added_linked = record {
    apart = subst IsApart (sym added_view) (record {
      once = λ x. omega (arith, times-cons x (length next) (walk next f u), h.apart.once x, chance_more x (length next));
      counted = omega (arith, h.apart.counted);
    });
    ends = λ q hq pos.
        ap (λ w. get_or w ((get_or runs q no_run).count - 1) 0) (walk-push next f (get_or runs q no_run).first (get_or runs q no_run).count (fresh q hq))
        ∙ h.ends q hq pos;
  }
