-- The moves of blocks as contracts see them.
use Rattle.std.proofs.Common.{◌≡◌, ℕ, ◌+◌, ◌-◌, ◌<◌, ◌≤◌, List, [], ◌∷◌, ◌++◌, length, get_or, set, take, drop, map, refl, sym, ap, ◌∙◌, subst, arith}
use Rattle.std.proofs.lemmas.List.{length-map, get_or_read, set-get_or, take_all, drop_all}
use Rattle.std.proofs.lemmas.List.Sums.{get_or-le-sum_by}
use Rattle.atspi_pool.specs.declared.run.Run.{Run}
use Rattle.atspi_pool.specs.declared.run.Marks.{Marks}
use Rattle.atspi_pool.specs.Links.{times, Entry, Linked, IsApart, no_entry, entry_at, with_entry, with_blocks, taken, front_given, front_kept, marked}
use Rattle.atspi_pool.specs.Walk.{walk, entry_of, linked_of, no_run, EndsRight, IsLinked}
use Rattle.atspi_pool.proofs.WalkLemmas.{jump, get_or-walk, length-walk, times-jump}
use Rattle.atspi_pool.proofs.LinkLemmas.{IsChanged, get_or-map, relisted, is_made, free_is_made}
use Rattle.atspi_pool.proofs.LinkMoves as moves

-- the table is seen so now, and is whole
pub record IsNow (next : List ℕ) (f u : ℕ) (runs : List Run) (l : Linked) : Type 0 where
  pub view : linked_of next f u runs ≡ l
  pub linked : IsLinked next f u runs

module _ (next : List ℕ) (f u : ℕ) (runs : List Run) (h : IsLinked next f u runs) (l : Linked) (is : linked_of next f u runs ≡ l) where
  pub free_is : length l.unused ≡ u
  free_is = ap (λ (v : Linked). length v.unused) (sym is) ∙ length-walk next f u

  pub chains_are : length l.chains ≡ length runs
  chains_are = ap (λ (v : Linked). length v.chains) (sym is) ∙ length-map runs (entry_of next)

  pub first_free_in : 0 < length l.unused → f < length next
  first_free_in pos = let free : 0 < u = subst (λ n. 0 < n) free_is pos in free_is_made next f u runs h f (times-jump next f 0 u free)

  module _ (c : ℕ) (within : c < length l.chains) (run : Run) (read : run ≡ get_or runs c run) where
    in_runs : c < length runs
    in_runs = subst (λ n. c < n) chains_are within

    at : get_or runs c no_run ≡ run
    at = sym (get_or_read runs c run in_runs read no_run)

    pub entry_is : entry_at l c ≡ record { marks = run.marks; blocks = walk next run.first run.count }
    entry_is = ap (λ v. entry_at v c) (sym is) ∙ get_or-map (entry_of next) runs c no_run ∙ ap (entry_of next) at

    pub count_is : length (entry_at l c).blocks ≡ run.count
    count_is = ap (λ (e : Entry). length e.blocks) entry_is ∙ length-walk next run.first run.count

    pub room : u + run.count ≤ length next
    room =
        let le = get_or-le-sum_by (λ (e : Entry). length e.blocks) (map (entry_of next) runs) c no_entry (subst (λ n. c < n) (sym (length-map runs (entry_of next))) in_runs) in
        let here : length (get_or (map (entry_of next) runs) c no_entry).blocks ≡ run.count =
        ap (λ (e : Entry). length e.blocks) (get_or-map (entry_of next) runs c no_run ∙ ap (entry_of next) at) ∙ length-walk next run.first run.count in
        omega (arith, le, here, h.apart.counted, length-walk next f u)

    pub block_in : (k : ℕ) → k < run.count → jump next run.first k < length next
    block_in k lt =
        is_made next f u runs h c in_runs (jump next run.first k)
        (subst (λ (r : Run). 1 ≤ times (jump next run.first k) (walk next r.first r.count)) (sym at) (times-jump next run.first k run.count lt))

    pub last_is : 0 < run.count → jump next run.first (run.count - 1) ≡ run.last
    last_is pos =
        sym (get_or-walk next run.first (run.count - 1) run.count (omega arith))
        ∙ subst (EndsRight next) at (h.ends c in_runs) pos

    pub place_is : (k : ℕ) → k < length (entry_at l c).blocks → get_or (entry_at l c).blocks k 0 ≡ jump next run.first k
    place_is k lt =
        ap (λ (e : Entry). get_or e.blocks k 0) entry_is
        ∙ get_or-walk next run.first k run.count (subst (λ n. k < n) count_is lt)

    pub found_in : (k b : ℕ) → k < length (entry_at l c).blocks → b ≡ get_or (entry_at l c).blocks k 0 → b < length next
    found_in k b lt found =
        subst (λ j. j < length next) (sym (found ∙ place_is k lt)) (block_in k (subst (λ n. k < n) count_is lt))

    pub last_in : 0 < run.count → run.last < length next
    last_in pos = subst (λ b. b < length next) (last_is pos) (block_in (run.count - 1) (omega arith))

    -- a view of a change, told of the view before
    told : (next' : List ℕ) (f' u' : ℕ) (runs' : List Run) (unused : List ℕ) (e : Entry) (l' : Linked)
        → with_entry (record (linked_of next f u runs) { unused = unused }) c e ≡ l'
        → IsChanged next f u runs next' f' u' runs' c unused e → IsNow next' f' u' runs' l'
    told next' f' u' runs' unused e l' same now = record { view = now.view ∙ same; linked = now.linked }

    seen_blocks : (g : Linked → Linked) (target : Linked → Entry → Linked) → ((v : Linked) → target v (entry_at v c) ≡ g v)
        → target (linked_of next f u runs) (entry_of next (get_or runs c no_run)) ≡ g l
    seen_blocks g target same =
        ap (target (linked_of next f u runs)) (sym (get_or-map (entry_of next) runs c no_run)) ∙ same (linked_of next f u runs) ∙ ap g is

    pub first_taken : (behind : ℕ) → behind ≡ get_or next f behind → 0 < length l.unused → length (entry_at l c).blocks ≡ 0
        → IsNow next behind (u - 1) (set runs c (record { first = f; last = f; count = 1; marks = run.marks })) (taken l c)
    first_taken behind read_free free empty =
        let none : (get_or runs c no_run).count ≡ 0 = ap (λ (r : Run). r.count) at ∙ sym count_is ∙ empty in
        let there : 0 < u = subst (λ n. 0 < n) free_is free in
        let link : get_or next f 0 ≡ behind = sym (get_or_read next f behind (first_free_in free) read_free 0) in
        subst (λ (r : Run). IsNow next behind (u - 1) (set runs c (record { first = f; last = f; count = 1; marks = r.marks })) (taken l c)) at
        (subst (λ b. IsNow next b (u - 1) (set runs c (record { first = f; last = f; count = 1; marks = (get_or runs c no_run).marks })) (taken l c)) link
        (told _ _ _ _ _ _ (taken l c)
        (seen_blocks (λ v. taken v c) (λ v e. with_entry (record v { unused = drop 1 v.unused }) c (record { marks = e.marks; blocks = e.blocks ++ get_or v.unused 0 0 ∷ [] })) (λ v. refl))
        (moves.first_taken next f u runs h c in_runs there none)))

    pub next_taken : (behind : ℕ) → behind ≡ get_or next f behind → 0 < length l.unused → 0 < length (entry_at l c).blocks
        → IsNow (set next run.last f) behind (u - 1) (set runs c (record { first = run.first; last = f; count = run.count + 1; marks = run.marks })) (taken l c)
    next_taken behind read_free free some =
        let pos : 0 < (get_or runs c no_run).count = subst (λ n. 0 < n) (count_is ∙ ap (λ (r : Run). r.count) (sym at)) some in
        let there : 0 < u = subst (λ n. 0 < n) free_is free in
        let link : get_or next f 0 ≡ behind = sym (get_or_read next f behind (first_free_in free) read_free 0) in
        subst (λ (r : Run). IsNow (set next r.last f) behind (u - 1) (set runs c (record { first = r.first; last = f; count = r.count + 1; marks = r.marks })) (taken l c)) at
        (subst (λ b. IsNow (set next (get_or runs c no_run).last f) b (u - 1) (set runs c (record { first = (get_or runs c no_run).first; last = f; count = (get_or runs c no_run).count + 1; marks = (get_or runs c no_run).marks })) (taken l c)) link
        (told _ _ _ _ _ _ (taken l c)
        (seen_blocks (λ v. taken v c) (λ v e. with_entry (record v { unused = drop 1 v.unused }) c (record { marks = e.marks; blocks = e.blocks ++ get_or v.unused 0 0 ∷ [] })) (λ v. refl))
        (moves.next_taken next f u runs h c in_runs there pos)))

    pub given : (k last behind : ℕ) → last ≡ get_or (entry_at l c).blocks (k - 1) 0 → behind ≡ get_or next last behind → 0 < k → k ≤ length (entry_at l c).blocks
        → IsNow (set next last f) run.first (u + k) (set runs c (record { first = behind; last = run.last; count = run.count - k; marks = run.marks })) (front_given l c k)
    given k last behind found read_last some fits =
        let fits' : k ≤ (get_or runs c no_run).count = subst (λ n. k ≤ n) (count_is ∙ ap (λ (r : Run). r.count) (sym at)) fits in
        let there : k - 1 < length (entry_at l c).blocks = omega arith in
        let place : jump next run.first (k - 1) ≡ last = sym (found ∙ place_is (k - 1) there) in
        let in_run : k - 1 < run.count = subst (λ n. k - 1 < n) count_is there in
        let link : get_or next last 0 ≡ behind = sym (get_or_read next last behind (subst (λ j. j < length next) place (block_in (k - 1) in_run)) read_last 0) in
        let place' : jump next (get_or runs c no_run).first (k - 1) ≡ last = ap (λ (r : Run). jump next r.first (k - 1)) at ∙ place in
        subst (λ (r : Run). IsNow (set next last f) r.first (u + k) (set runs c (record { first = behind; last = r.last; count = r.count - k; marks = r.marks })) (front_given l c k)) at
        (subst (λ b. IsNow (set next last f) (get_or runs c no_run).first (u + k) (set runs c (record { first = b; last = (get_or runs c no_run).last; count = (get_or runs c no_run).count - k; marks = (get_or runs c no_run).marks })) (front_given l c k)) link
        (subst (λ t. IsNow (set next t f) (get_or runs c no_run).first (u + k) (set runs c (record { first = get_or next t 0; last = (get_or runs c no_run).last; count = (get_or runs c no_run).count - k; marks = (get_or runs c no_run).marks })) (front_given l c k)) place'
        (told _ _ _ _ _ _ (front_given l c k)
        (seen_blocks (λ v. front_given v c k) (λ v e. with_entry (record v { unused = take k e.blocks ++ v.unused }) c (record { marks = e.marks; blocks = drop k e.blocks })) (λ v. refl))
        (moves.front_given next f u runs h c in_runs k some fits'))))

    pub kept : (k last behind : ℕ) → last ≡ get_or (entry_at l c).blocks (k - 1) 0 → behind ≡ get_or next last behind → 0 < k → k < length (entry_at l c).blocks
        → IsNow (set next run.last f) behind (u + (run.count - k)) (set runs c (record { first = run.first; last = last; count = k; marks = run.marks })) (front_kept l c k)
    kept k last behind found read_last some fits =
        let fits' : k < (get_or runs c no_run).count = subst (λ n. k < n) (count_is ∙ ap (λ (r : Run). r.count) (sym at)) fits in
        let there : k - 1 < length (entry_at l c).blocks = omega arith in
        let place : jump next run.first (k - 1) ≡ last = sym (found ∙ place_is (k - 1) there) in
        let in_run : k - 1 < run.count = subst (λ n. k - 1 < n) count_is there in
        let link : get_or next last 0 ≡ behind = sym (get_or_read next last behind (subst (λ j. j < length next) place (block_in (k - 1) in_run)) read_last 0) in
        let place' : jump next (get_or runs c no_run).first (k - 1) ≡ last = ap (λ (r : Run). jump next r.first (k - 1)) at ∙ place in
        subst (λ (r : Run). IsNow (set next r.last f) behind (u + (r.count - k)) (set runs c (record { first = r.first; last = last; count = k; marks = r.marks })) (front_kept l c k)) at
        (subst (λ b. IsNow (set next (get_or runs c no_run).last f) b (u + ((get_or runs c no_run).count - k)) (set runs c (record { first = (get_or runs c no_run).first; last = last; count = k; marks = (get_or runs c no_run).marks })) (front_kept l c k)) link
        (subst (λ t. IsNow (set next (get_or runs c no_run).last f) (get_or next t 0) (u + ((get_or runs c no_run).count - k)) (set runs c (record { first = (get_or runs c no_run).first; last = t; count = k; marks = (get_or runs c no_run).marks })) (front_kept l c k)) place'
        (told _ _ _ _ _ _ (front_kept l c k)
        (seen_blocks (λ v. front_kept v c k) (λ v e. with_entry (record v { unused = drop k e.blocks ++ v.unused }) c (record { marks = e.marks; blocks = take k e.blocks })) (λ v. refl))
        (moves.front_kept next f u runs h c in_runs k some fits'))))

    pub marks_set : (marks : Marks) → IsNow next f u (set runs c (record { first = run.first; last = run.last; count = run.count; marks = marks })) (marked l c marks)
    marks_set marks =
        subst (λ (r : Run). IsNow next f u (set runs c (record { first = r.first; last = r.last; count = r.count; marks = marks })) (marked l c marks)) at
        (told _ _ _ _ _ _ (marked l c marks)
        (seen_blocks (λ v. marked v c marks) (λ v e. with_entry v c (record { marks = marks; blocks = e.blocks })) (λ v. refl))
        (relisted next f u runs h c in_runs f u _ (walk next f u) (record { marks = marks; blocks = walk next (get_or runs c no_run).first (get_or runs c no_run).count })
        (λ x. refl) (omega (arith, length-walk next f u, length-walk next (get_or runs c no_run).first (get_or runs c no_run).count))
        refl refl (h.ends c in_runs)))

  pub added : (next' : List ℕ) (block : ℕ) → next' ≡ next ++ f ∷ [] → block ≡ length next
      → IsNow next' block (u + 1) runs (record l { made = l.made + 1; unused = l.made ∷ l.unused })
  added next' block more new =
      subst (λ (v : Linked). IsNow next' block (u + 1) runs (record v { made = v.made + 1; unused = v.made ∷ v.unused })) is
      (subst (λ b. IsNow next' b (u + 1) runs (record (linked_of next f u runs) { made = length next + 1; unused = length next ∷ walk next f u })) (sym new)
      (subst (λ ls. IsNow ls (length next) (u + 1) runs (record (linked_of next f u runs) { made = length next + 1; unused = length next ∷ walk next f u })) (sym more)
      (record { view = moves.added_view next f u runs h; linked = moves.added_linked next f u runs h })))

  pub made_is : u ≤ length next
  made_is = omega (arith, h.apart.counted, length-walk next f u)

  pub apart_is : IsApart l
  apart_is = subst IsApart is h.apart

-- a chain that stays as it is
pub same_entry : (l : Linked) (c : ℕ) → with_blocks l l.unused c (entry_at l c).blocks ≡ l
same_entry l c = ap (λ es. record { made = l.made; unused = l.unused; chains = es }) (set-get_or l.chains c no_entry)

pub none_given : (l : Linked) (c k : ℕ) → k ≡ 0 → l ≡ front_given l c k
none_given l c k none = sym (ap (front_given l c) none ∙ same_entry l c)

pub all_kept : (l : Linked) (c k : ℕ) → k ≡ length (entry_at l c).blocks → l ≡ front_kept l c k
all_kept l c k all =
    sym (ap (λ bs. with_blocks l (bs ++ l.unused) c (take k (entry_at l c).blocks)) (drop_all k (entry_at l c).blocks (omega arith))
    ∙ ap (with_blocks l l.unused c) (take_all k (entry_at l c).blocks (omega arith)) ∙ same_entry l c)
