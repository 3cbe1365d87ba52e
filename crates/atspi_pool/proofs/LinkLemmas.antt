-- Blocks that move from one list to another.
use Rattle.std.proofs.Common.{◌≡◌, ◌≢◌, ℕ, suc, zero, ◌+◌, ◌-◌, ◌<◌, ◌≤◌, List, [], ◌∷◌, Bool, true, false, cond, ltb, length, get_or, set, map, refl, sym, ap, ◌∙◌, subst, arith, inl, inr}
use Rattle.std.proofs.lemmas.Bool.{cases_eq}
use Rattle.std.proofs.lemmas.Bool.Decides.{nat_tests}
use Rattle.std.proofs.lemmas.List.{get_or-set_same, get_or-set_other, length-set, length-map, map-set}
use Rattle.std.proofs.lemmas.List.Sums.{sum_by-set, get_or-le-sum_by}
use Rattle.std.specs.List.{sum_by}
use Rattle.atspi_pool.specs.declared.run.Run.{Run}
use Rattle.atspi_pool.specs.Links.{times, Linked, Entry, IsApart, no_entry, entry_at, with_entry}
use Rattle.atspi_pool.specs.Walk.{walk, entry_of, linked_of, no_run, EndsRight, IsLinked}
use Rattle.atspi_pool.proofs.WalkLemmas.{length-walk, walk-set}

pub get_or-map : {X Y : Type 0} (f : X → Y) (xs : List X) (q : ℕ) (d : X) → get_or (map f xs) q (f d) ≡ f (get_or xs q d)
get_or-map f [] q d = refl
get_or-map f (x ∷ xs) zero d = refl
get_or-map f (x ∷ xs) (suc q) d = get_or-map f xs q d

-- two places of a list, apart, count at most what all do
pub two_le-sum_by : {X : Type 0} (f : X → ℕ) (xs : List X) (c q : ℕ) (d : X) → f d ≡ 0 → c < length xs → q < length xs → q ≢ c
    → f (get_or xs c d) + f (get_or xs q d) ≤ sum_by f xs
two_le-sum_by f xs c q d none hc hq ne =
    let there : q < length (set xs c d) = subst (λ n. q < n) (sym (length-set xs c d)) hq in
    omega (arith, sum_by-set f xs c d d hc, get_or-le-sum_by f (set xs c d) q d there, ap f (get_or-set_other xs c q d d ne))

-- a move of blocks between the free ones and a chain
pub IsApart-moved : (l : Linked) (c : ℕ) (unused : List ℕ) (e : Entry) → c < length l.chains
    → ((x : ℕ) → times x unused + times x e.blocks ≡ times x l.unused + times x (entry_at l c).blocks)
    → length unused + length e.blocks ≡ length l.unused + length (entry_at l c).blocks
    → IsApart l → IsApart (with_entry (record l { unused = unused }) c e)
IsApart-moved l c unused e h same count apart = record {
  once = λ x. let before = apart.once x in let moved = sum_by-set (λ (e : Entry). times x e.blocks) l.chains c e no_entry h in let s = same x in
      let total : times x unused + sum_by (λ (e : Entry). times x e.blocks) (set l.chains c e) ≡ times x l.unused + sum_by (λ (e : Entry). times x e.blocks) l.chains = omega (arith, moved, s) in
      total ∙ before;
  counted = omega (arith, apart.counted, sum_by-set (λ (e : Entry). length e.blocks) l.chains c e no_entry h, count);
}

pub chance_le : (b : Bool) → cond b 1 0 ≤ 1
chance_le true = omega arith
chance_le false = omega arith

pub below_of_chance : (x m : ℕ) → 1 ≤ cond (ltb x m) 1 0 → x < m
below_of_chance x m h = grind (arith, nat_tests)

pub free_is_made : (next : List ℕ) (f u : ℕ) (runs : List Run) → IsLinked next f u runs → (x : ℕ) → 1 ≤ times x (walk next f u) → x < length next
free_is_made next f u runs h x here = below_of_chance x (length next) (omega (arith, h.apart.once x))

module _ (next : List ℕ) (f u : ℕ) (runs : List Run) (h : IsLinked next f u runs) (c : ℕ) (within : c < length runs) where
  pub entry_is : get_or (map (entry_of next) runs) c no_entry ≡ entry_of next (get_or runs c no_run)
  entry_is = get_or-map (entry_of next) runs c no_run

  there : c < length (map (entry_of next) runs)
  there = subst (λ n. c < n) (sym (length-map runs (entry_of next))) within

  -- a block stands once in the free ones and the chain
  pub once : (x : ℕ) → times x (walk next f u) + times x (walk next (get_or runs c no_run).first (get_or runs c no_run).count) ≤ 1
  once x =
      let le = get_or-le-sum_by (λ (e : Entry). times x e.blocks) (map (entry_of next) runs) c no_entry there in
      let is = ap (λ (e : Entry). times x e.blocks) entry_is in
      omega (arith, le, is, h.apart.once x, chance_le (ltb x (length next)))

  -- a block of the chain stands in no other
  pub not_elsewhere : (x q : ℕ) → 1 ≤ times x (walk next (get_or runs c no_run).first (get_or runs c no_run).count) → q < length runs → q ≢ c
      → times x (walk next (get_or runs q no_run).first (get_or runs q no_run).count) ≡ 0
  not_elsewhere x q here hq ne =
      let hq' = subst (λ n. q < n) (sym (length-map runs (entry_of next))) hq in
      let le = two_le-sum_by (λ (e : Entry). times x e.blocks) (map (entry_of next) runs) c q no_entry refl there hq' ne in
      let is = ap (λ (e : Entry). times x e.blocks) entry_is in
      let that = ap (λ (e : Entry). times x e.blocks) (get_or-map (entry_of next) runs q no_run) in
      omega (arith, le, is, that, h.apart.once x, chance_le (ltb x (length next)))

  pub is_made : (x : ℕ) → 1 ≤ times x (walk next (get_or runs c no_run).first (get_or runs c no_run).count) → x < length next
  is_made x here =
      let le = get_or-le-sum_by (λ (e : Entry). times x e.blocks) (map (entry_of next) runs) c no_entry there in
      let is = ap (λ (e : Entry). times x e.blocks) entry_is in
      below_of_chance x (length next) (omega (arith, le, is, h.apart.once x))

pub same_linked : {m n : ℕ} {a b : List ℕ} {s t : List Entry} → m ≡ n → a ≡ b → s ≡ t
    → ◌≡◌ {A = Linked} (record { made = m; unused = a; chains = s }) (record { made = n; unused = b; chains = t })
same_linked p q r = λ i. record { made = p i; unused = q i; chains = r i }

-- a new link leaves the chains without its block
map_same : (next : List ℕ) (t v : ℕ) (runs : List Run) → ((q : ℕ) → q < length runs → times t (walk next (get_or runs q no_run).first (get_or runs q no_run).count) ≡ 0)
    → map (entry_of (set next t v)) runs ≡ map (entry_of next) runs
map_same next t v [] h = refl
map_same next t v (r ∷ rs) h =
    let e : entry_of (set next t v) r ≡ entry_of next r = ap (λ w. record { marks = r.marks; blocks = w }) (walk-set next t v r.first r.count (h 0 (omega arith))) in
    let es = map_same next t v rs (λ q l. h (suc q) (omega arith)) in
    ap (λ x. x ∷ map (entry_of (set next t v)) rs) e ∙ ap (λ xs. entry_of next r ∷ xs) es

map_but_one : (next : List ℕ) (t v : ℕ) (runs : List Run) (c : ℕ) (run : Run)
    → ((q : ℕ) → q < length runs → q ≢ c → times t (walk next (get_or runs q no_run).first (get_or runs q no_run).count) ≡ 0)
    → map (entry_of (set next t v)) (set runs c run) ≡ set (map (entry_of next) runs) c (entry_of (set next t v) run)
map_but_one next t v [] c run h = refl
map_but_one next t v (r ∷ rs) zero run h =
    ap (λ xs. entry_of (set next t v) run ∷ xs) (map_same next t v rs (λ q l. h (suc q) (omega arith) (λ e. absurd (omega arith))))
map_but_one next t v (r ∷ rs) (suc c) run h =
    let e : entry_of (set next t v) r ≡ entry_of next r =
    ap (λ w. record { marks = r.marks; blocks = w }) (walk-set next t v r.first r.count (h 0 (omega arith) (λ e. absurd (omega arith)))) in
    let es = map_but_one next t v rs c run (λ q l ne. h (suc q) (omega arith) (λ e. ne (omega arith))) in
    ap (λ x. x ∷ map (entry_of (set next t v)) (set rs c run)) e
    ∙ ap (λ xs. entry_of next r ∷ xs) es

-- the table after a change of a chain and the free blocks
pub record IsChanged (next : List ℕ) (f u : ℕ) (runs : List Run) (next' : List ℕ) (f' u' : ℕ) (runs' : List Run) (c : ℕ) (unused : List ℕ) (e : Entry) : Type 0 where
  pub view : linked_of next' f' u' runs' ≡ with_entry (record (linked_of next f u runs) { unused = unused }) c e
  pub linked : IsLinked next' f' u' runs'

module _ (next : List ℕ) (f u : ℕ) (runs : List Run) (h : IsLinked next f u runs) (c : ℕ) (within : c < length runs) (f' u' : ℕ) (run' : Run) (unused : List ℕ) (e : Entry)
    (same : (x : ℕ) → times x unused + times x e.blocks ≡ times x (walk next f u) + times x (walk next (get_or runs c no_run).first (get_or runs c no_run).count))
    (count : length unused + length e.blocks ≡ u + (get_or runs c no_run).count) where
  moved : IsApart (with_entry (record (linked_of next f u runs) { unused = unused }) c e)
  moved =
      let is = get_or-map (entry_of next) runs c no_run in
      IsApart-moved (linked_of next f u runs) c unused e (subst (λ n. c < n) (sym (length-map runs (entry_of next))) within)
      (λ x. same x ∙ ap (λ (e : Entry). times x (walk next f u) + times x e.blocks) (sym is))
      (count ∙ ap (λ n. n + (get_or runs c no_run).count) (sym (length-walk next f u)) ∙ ap (λ n. length (walk next f u) + n) (sym (length-walk next (get_or runs c no_run).first (get_or runs c no_run).count))
      ∙ ap (λ (e : Entry). length (walk next f u) + length e.blocks) (sym is))
      h.apart

  -- no link is new
  pub relisted : walk next f' u' ≡ unused → entry_of next run' ≡ e → EndsRight next run' → IsChanged next f u runs next f' u' (set runs c run') c unused e
  relisted walks entry right =
      let view : linked_of next f' u' (set runs c run') ≡ with_entry (record (linked_of next f u runs) { unused = unused }) c e =
      same_linked refl walks (map-set (entry_of next) runs c run' ∙ ap (set (map (entry_of next) runs) c) entry) in
      record {
        view = view;
        linked = record {
          apart = subst IsApart (sym view) moved;
          ends = λ q hq. elim (cases_eq q c) [
            | inl e ↦ subst (EndsRight next) (sym (ap (λ i. get_or (set runs c run') i no_run) e ∙ get_or-set_same runs c run' no_run within)) right
            | inr ne ↦ subst (EndsRight next) (sym (get_or-set_other runs c q run' no_run ne)) (h.ends q (subst (λ n. q < n) (length-set runs c run') hq))
          ];
        };
      }

  -- a block of the chain has a new link
  pub relinked : (t v : ℕ) → 1 ≤ times t (walk next (get_or runs c no_run).first (get_or runs c no_run).count)
      → walk (set next t v) f' u' ≡ unused → entry_of (set next t v) run' ≡ e → EndsRight (set next t v) run'
      → IsChanged next f u runs (set next t v) f' u' (set runs c run') c unused e
  relinked t v here walks entry right =
      let others : (q : ℕ) → q < length runs → q ≢ c → times t (walk next (get_or runs q no_run).first (get_or runs q no_run).count) ≡ 0 =
      λ q hq ne. not_elsewhere next f u runs h c within t q here hq ne in
      let view : linked_of (set next t v) f' u' (set runs c run') ≡ with_entry (record (linked_of next f u runs) { unused = unused }) c e =
      same_linked (length-set next t v) walks (map_but_one next t v runs c run' others ∙ ap (set (map (entry_of next) runs) c) entry) in
      record {
        view = view;
        linked = record {
          apart = subst IsApart (sym view) moved;
          ends = λ q hq. elim (cases_eq q c) [
            | inl e ↦ subst (EndsRight (set next t v)) (sym (ap (λ i. get_or (set runs c run') i no_run) e ∙ get_or-set_same runs c run' no_run within)) right
            | inr ne ↦
                let hq' = subst (λ n. q < n) (length-set runs c run') hq in
                subst (EndsRight (set next t v)) (sym (get_or-set_other runs c q run' no_run ne))
                (λ pos. ap (λ w. get_or w ((get_or runs q no_run).count - 1) 0) (walk-set next t v (get_or runs q no_run).first (get_or runs q no_run).count (others q hq' ne)) ∙ h.ends q hq' pos)
          ];
        };
      }
