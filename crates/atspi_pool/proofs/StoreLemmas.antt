-- Chains in their blocks, and what each change leaves.
use Rattle.std.proofs.Common.{◌≡◌, ◌≢◌, ℕ, suc, ◌+◌, ◌-◌, ◌*◌, ◌/◌, ◌%◌, ◌<◌, ◌≤◌, min, List, [], ◌∷◌, ◌++◌, Bool, true, false, cond, eqb, Option, Some, None, length, get_or, set, take, drop, map, refl, sym, ap, ◌∙◌, subst, arith, inl, inr}
use Rattle.std.specs.Prelude.{IsSome}
use Rattle.std.specs.List.{sum_by}
use Rattle.std.proofs.lemmas.List.{length-take, length-map, map-set, set-set, get_or-set_same, take-append-le, take_all, take-take, drop-take, drop-drop, drop_more, get_or_past}
use Rattle.std.proofs.lemmas.List.Sums.{sum_by-cons, get_or-le-sum_by}
use Rattle.std.proofs.lemmas.Bool.Decides.{nat_tests}
use Rattle.std.proofs.lemmas.Bool.{cases_lt}
use Rattle.atspi_pool.specs.declared.run.Marks.{Marks}
use Rattle.atspi_pool.specs.Links.{times, first_of, Entry, Linked, IsApart, no_entry, entry_at, with_entry, with_blocks, front_given, front_kept, marked}
use Rattle.atspi_pool.specs.Chains.{Chain, empty_chain, blocks_for, front_of, popped_by, cut_by}
use Rattle.atspi_pool.specs.Store.{Store, block_bytes, blocks_in, all_blocks, held, chain_at, HasFront, with_chain, contents, chain_in, store_of, IsStore}
use Rattle.atspi_pool.proofs.WalkLemmas.{times_here}
use Rattle.atspi_pool.proofs.LinkLemmas.{get_or-map, below_of_chance}
use Rattle.atspi_pool.proofs.BlockLemmas.{AllMade, length-contents, contents-take, contents-drop, length_part, popped_part, cut_part, length-block}

pub all_made : (l : Linked) → IsApart l → (c : ℕ) → c < length l.chains → AllMade l.made (entry_at l c).blocks
all_made l apart c within x here =
    below_of_chance x l.made (omega (arith, apart.once x, get_or-le-sum_by (λ (e : Entry). times x e.blocks) l.chains c no_entry within))

used_of_some : {X : Type 0} (b : Bool) (x : X) → IsSome (cond b (Some x) None) → b ≡ true
used_of_some true x h = refl
used_of_some false x h = h

len_by : (b : Bool) (p len : ℕ) (part : List ℕ) → (b ≡ false → len ≡ 0) → length part ≡ len
    → len ≡ length (held (cond b (Some (record { popped = p; bytes = part })) None)).bytes
len_by true p len part none size = sym size
len_by false p len part none size = none refl

popped_by_use : (b : Bool) (p : ℕ) (part : List ℕ) → (b ≡ false → p ≡ 0) → p ≡ (held (cond b (Some (record { popped = p; bytes = part })) None)).popped
popped_by_use true p part none = refl
popped_by_use false p part none = none refl

blocks_by : (b : Bool) (p len n : ℕ) (part : List ℕ) → (b ≡ false → n ≡ 0) → length part ≡ len → n ≡ blocks_for (p + len)
    → blocks_in (cond b (Some (record { popped = p; bytes = part })) None) ≡ n
blocks_by true p len n part none size count = ap (λ m. blocks_for (p + m)) size ∙ sym count
blocks_by false p len n part none size count = sym (none refl)

module _ (bytes : List ℕ) (l : Linked) (h : IsStore bytes l) (apart : IsApart l) where
  module _ (c : ℕ) (within : c < length l.chains) where
    pub size : length (contents bytes (entry_at l c).blocks) ≡ 256 * length (entry_at l c).blocks
    size = length-contents bytes l.made (entry_at l c).blocks h.room (all_made l apart c within)

    pub in_blocks : (entry_at l c).marks.popped + (entry_at l c).marks.len ≤ length (contents bytes (entry_at l c).blocks)
    in_blocks = omega (arith, size, (h.fit c).count)

    pub part_size : length (drop (entry_at l c).marks.popped (take ((entry_at l c).marks.popped + (entry_at l c).marks.len) (contents bytes (entry_at l c).blocks))) ≡ (entry_at l c).marks.len
    part_size = length_part (contents bytes (entry_at l c).blocks) (entry_at l c).marks.popped (entry_at l c).marks.len in_blocks

    pub entry_blocks : blocks_in (chain_in bytes (entry_at l c)) ≡ length (entry_at l c).blocks
    entry_blocks =
        blocks_by (entry_at l c).marks.is_used (entry_at l c).marks.popped (entry_at l c).marks.len (length (entry_at l c).blocks) _
        (λ un. let none : (entry_at l c).marks.len ≡ 0 = (h.fit c).unused un in let zero : (entry_at l c).marks.popped ≡ 0 = (h.fit c).empty none in omega (arith, (h.fit c).count))
        part_size (h.fit c).count

  sums : (es : List Entry) → ((q : ℕ) → q < length es → blocks_in (chain_in bytes (get_or es q no_entry)) ≡ length (get_or es q no_entry).blocks)
      → sum_by blocks_in (map (chain_in bytes) es) ≡ sum_by (λ (e : Entry). length e.blocks) es
  sums [] g = refl
  sums (e ∷ es) g =
      let rest = sums es (λ q lt. g (suc q) (omega arith)) in
      let here = g 0 (omega arith) in
      omega (arith, sum_by-cons blocks_in (chain_in bytes e) (map (chain_in bytes) es), sum_by-cons (λ (e : Entry). length e.blocks) e es, rest, here)

  pub all_is : all_blocks (store_of bytes l).chains ≡ sum_by (λ (e : Entry). length e.blocks) l.chains
  all_is = sums l.chains (λ q lt. entry_blocks q lt)

  pub free_and_all : length l.unused + all_blocks (store_of bytes l).chains ≡ l.made
  free_and_all = omega (arith, all_is, apart.counted)

take_least : (xs : List ℕ) (m u n : ℕ) → n ≡ min m u → take m (take u xs) ≡ take n xs
take_least xs m u n least =
    elim (cases_lt m u) [
      | inl lt ↦ let le : m ≤ u = omega arith in let e : m ≡ n = omega arith in take-take m u xs le ∙ ap (λ k. take k xs) e
      | inr ge ↦ let e : u ≡ n = omega arith in take_all m (take u xs) (omega (arith, length-take u xs)) ∙ ap (λ k. take k xs) e
    ]

some_of_used : {X : Type 0} (b : Bool) (x : X) → (b ≡ false → ⊥) → IsSome (cond b (Some x) None)
some_of_used true x h = refl
some_of_used false x h = absurd (h refl)

other_test : (a b : ℕ) → a ≢ b → eqb a b ≡ false
other_test a b ne = grind (arith, nat_tests)

module _ (bytes : List ℕ) (l : Linked) (sv : Store) (is : store_of bytes l ≡ sv) where
  pub chains_are : length sv.chains ≡ length l.chains
  chains_are = ap (λ (s : Store). length s.chains) (sym is) ∙ length-map l.chains (chain_in bytes)

  module _ (c : ℕ) (within : c < length sv.chains) where
    pub in_links : c < length l.chains
    in_links = subst (λ n. c < n) chains_are within

    pub chain_is : chain_at sv c ≡ chain_in bytes (entry_at l c)
    chain_is = ap (λ s. chain_at s c) (sym is) ∙ get_or-map (chain_in bytes) l.chains c no_entry

    -- other marks
    pub remarked : (m : Marks) (l2 : Linked) → l2 ≡ marked l c m → (target : Option Chain) → chain_in bytes (record { marks = m; blocks = (entry_at l c).blocks }) ≡ target
        → store_of bytes l2 ≡ with_chain sv c target
    remarked m l2 now target same =
        ap (store_of bytes) now
        ∙ ap (λ cs. record { made = l.made; chains = cs }) (map-set (chain_in bytes) l.chains c (record { marks = m; blocks = (entry_at l c).blocks }) ∙ ap (set (map (chain_in bytes) l.chains) c) same)
        ∙ ap (λ s. with_chain s c target) is

    -- other blocks, then other marks
    pub changed : (unused bs : List ℕ) (m : Marks) (l1 l2 : Linked) → l1 ≡ with_blocks l unused c bs → l2 ≡ marked l1 c m
        → (target : Option Chain) → chain_in bytes (record { marks = m; blocks = bs }) ≡ target → store_of bytes l2 ≡ with_chain sv c target
    changed unused bs m l1 l2 first second target same =
        let old : Entry = record { marks = (entry_at l c).marks; blocks = bs } in
        let there : (get_or (set l.chains c (record { marks = (entry_at l c).marks; blocks = bs })) c no_entry) ≡ record { marks = (entry_at l c).marks; blocks = bs } =
        get_or-set_same l.chains c _ no_entry in_links in
        ap (store_of bytes) (second ∙ ap (λ v. marked v c m) first)
        ∙ ap (λ (e : Entry). store_of bytes (with_entry (with_blocks l unused c bs) c (record { marks = m; blocks = e.blocks }))) there
        ∙ ap (λ es. store_of bytes (record { made = l.made; unused = unused; chains = es })) (set-set l.chains c (record { marks = (entry_at l c).marks; blocks = bs }) (record { marks = m; blocks = bs }))
        ∙ ap (λ cs. record { made = l.made; chains = cs }) (map-set (chain_in bytes) l.chains c (record { marks = m; blocks = bs }) ∙ ap (set (map (chain_in bytes) l.chains) c) same)
        ∙ ap (λ s. with_chain s c target) is

module _ (bytes : List ℕ) (l : Linked) (h : IsStore bytes l) (apart : IsApart l) (sv : Store) (is : store_of bytes l ≡ sv) where
  pub free_seen : length l.unused + all_blocks sv.chains ≡ sv.made
  free_seen = subst (λ (s : Store). length l.unused + all_blocks s.chains ≡ s.made) is (free_and_all bytes l h apart)

  module _ (c : ℕ) (within : c < length sv.chains) where
    pub len_is : (entry_at l c).marks.len ≡ length (held (chain_at sv c)).bytes
    len_is =
        len_by (entry_at l c).marks.is_used (entry_at l c).marks.popped (entry_at l c).marks.len _ (h.fit c).unused (part_size bytes l h apart c (in_links bytes l sv is c within))
        ∙ ap (λ o. length (held o).bytes) (sym (chain_is bytes l sv is c within))

    pub popped_is : (entry_at l c).marks.popped ≡ (held (chain_at sv c)).popped
    popped_is =
        popped_by_use (entry_at l c).marks.is_used (entry_at l c).marks.popped _ (λ un. (h.fit c).empty ((h.fit c).unused un))
        ∙ ap (λ o. (held o).popped) (sym (chain_is bytes l sv is c within))

    pub blocks_is : blocks_in (chain_at sv c) ≡ length (entry_at l c).blocks
    blocks_is = ap blocks_in (chain_is bytes l sv is c within) ∙ entry_blocks bytes l h apart c (in_links bytes l sv is c within)

    pub held_is : IsSome (chain_at sv c) → held (chain_at sv c) ≡ record {
      popped = (entry_at l c).marks.popped;
      bytes = drop (entry_at l c).marks.popped (take ((entry_at l c).marks.popped + (entry_at l c).marks.len) (contents bytes (entry_at l c).blocks));
    }
    held_is used =
        let b = used_of_some (entry_at l c).marks.is_used _ (subst IsSome (chain_is bytes l sv is c within) used) in
        ap held ((chain_is bytes l sv is c within) ∙ ap (λ b. cond b (Some (record {
          popped = (entry_at l c).marks.popped;
          bytes = drop (entry_at l c).marks.popped (take ((entry_at l c).marks.popped + (entry_at l c).marks.len) (contents bytes (entry_at l c).blocks));
        })) None) b)

    pub popped_chain : (n : ℕ) → IsSome (chain_at sv c) → n ≤ (entry_at l c).marks.len → (entry_at l c).marks.len ≢ n
        → chain_in bytes (record {
          marks = record { is_used = true; popped = ((entry_at l c).marks.popped + n) % 256; len = (entry_at l c).marks.len - n };
          blocks = drop (((entry_at l c).marks.popped + n) / 256) (entry_at l c).blocks;
        })
        ≡ Some (popped_by (held (chain_at sv c)) n)
    popped_chain n used le ne =
        let p : ℕ = (entry_at l c).marks.popped in
        let len : ℕ = (entry_at l c).marks.len in
        let k : ℕ = ((entry_at l c).marks.popped + n) / 256 in
        let split : 256 * (((entry_at l c).marks.popped + n) / 256) + ((entry_at l c).marks.popped + n) % 256 ≡ (entry_at l c).marks.popped + n = omega arith in
        let fits : ((entry_at l c).marks.popped + n) / 256 ≤ length (entry_at l c).blocks = omega (arith, (h.fit c).count) in
        let kept = contents-drop bytes l.made (((entry_at l c).marks.popped + n) / 256) (entry_at l c).blocks h.room (all_made l apart c (in_links bytes l sv is c within)) fits in
        let test : eqb (length (drop (entry_at l c).marks.popped (take ((entry_at l c).marks.popped + (entry_at l c).marks.len) (contents bytes (entry_at l c).blocks)))) n ≡ false =
        ap (λ m. eqb m n) (part_size bytes l h apart c (in_links bytes l sv is c within)) ∙ other_test (entry_at l c).marks.len n ne in
        let g : Chain → Option Chain = λ ch. Some (popped_by ch n) in
        ap (λ w. Some (record { popped = ((entry_at l c).marks.popped + n) % 256; bytes = w }))
        (ap (λ w. drop (((entry_at l c).marks.popped + n) % 256) (take (((entry_at l c).marks.popped + n) % 256 + ((entry_at l c).marks.len - n)) w)) kept
        ∙ popped_part (contents bytes (entry_at l c).blocks) (entry_at l c).marks.popped (entry_at l c).marks.len n (((entry_at l c).marks.popped + n) / 256) (((entry_at l c).marks.popped + n) % 256) split le)
        ∙ sym (ap (λ ch. Some (popped_by ch n)) (held_is used)
        ∙ ap (λ b. Some (cond b empty_chain (record { popped = ((entry_at l c).marks.popped + n) % 256; bytes = drop n (drop (entry_at l c).marks.popped (take ((entry_at l c).marks.popped + (entry_at l c).marks.len) (contents bytes (entry_at l c).blocks))) }))) test)

    pub cut_chain : (n : ℕ) → IsSome (chain_at sv c) → n ≤ (entry_at l c).marks.len → (entry_at l c).marks.len ≢ n
        → chain_in bytes (record {
          marks = record { is_used = true; popped = (entry_at l c).marks.popped; len = (entry_at l c).marks.len - n };
          blocks = take (blocks_for ((entry_at l c).marks.popped + ((entry_at l c).marks.len - n))) (entry_at l c).blocks;
        })
        ≡ Some (cut_by (held (chain_at sv c)) n)
    cut_chain n used le ne =
        let k : ℕ = blocks_for ((entry_at l c).marks.popped + ((entry_at l c).marks.len - n)) in
        let fits : blocks_for ((entry_at l c).marks.popped + ((entry_at l c).marks.len - n)) ≤ length (entry_at l c).blocks = omega (arith, (h.fit c).count) in
        let within_kept : (entry_at l c).marks.popped + ((entry_at l c).marks.len - n) ≤ 256 * blocks_for ((entry_at l c).marks.popped + ((entry_at l c).marks.len - n)) = omega arith in
        let kept = contents-take bytes l.made (blocks_for ((entry_at l c).marks.popped + ((entry_at l c).marks.len - n))) (entry_at l c).blocks h.room (all_made l apart c (in_links bytes l sv is c within)) fits in
        let part : List ℕ = drop (entry_at l c).marks.popped (take ((entry_at l c).marks.popped + (entry_at l c).marks.len) (contents bytes (entry_at l c).blocks)) in
        let test : eqb (length (drop (entry_at l c).marks.popped (take ((entry_at l c).marks.popped + (entry_at l c).marks.len) (contents bytes (entry_at l c).blocks)))) n ≡ false =
        ap (λ m. eqb m n) (part_size bytes l h apart c (in_links bytes l sv is c within)) ∙ other_test (entry_at l c).marks.len n ne in
        ap (λ w. Some (record { popped = (entry_at l c).marks.popped; bytes = w }))
        (ap (λ w. drop (entry_at l c).marks.popped (take ((entry_at l c).marks.popped + ((entry_at l c).marks.len - n)) w)) kept
        ∙ cut_part (contents bytes (entry_at l c).blocks) (entry_at l c).marks.popped (entry_at l c).marks.len n (blocks_for ((entry_at l c).marks.popped + ((entry_at l c).marks.len - n))) within_kept
        ∙ ap (λ m. take (m - n) (drop (entry_at l c).marks.popped (take ((entry_at l c).marks.popped + (entry_at l c).marks.len) (contents bytes (entry_at l c).blocks)))) (sym (part_size bytes l h apart c (in_links bytes l sv is c within))))
        ∙ sym (ap (λ ch. Some (cut_by ch n)) (held_is used)
        ∙ ap (λ b. Some (cond b empty_chain (record { popped = (entry_at l c).marks.popped; bytes = take (length (drop (entry_at l c).marks.popped (take ((entry_at l c).marks.popped + (entry_at l c).marks.len) (contents bytes (entry_at l c).blocks))) - n) (drop (entry_at l c).marks.popped (take ((entry_at l c).marks.popped + (entry_at l c).marks.len) (contents bytes (entry_at l c).blocks))) }))) test)

    same_test : (a b : ℕ) → a ≡ b → eqb a b ≡ true
    same_test a b e = grind (arith, nat_tests)

    pub none_left : (n : ℕ) → (entry_at l c).marks.len ≡ n → (f : Chain → Chain) → empty_chain ≡ cond (eqb (length (held (chain_at sv c)).bytes) n) empty_chain (f (held (chain_at sv c)))
    none_left n all f = sym (ap (λ b. cond b empty_chain (f (held (chain_at sv c)))) (same_test (length (held (chain_at sv c)).bytes) n (sym len_is ∙ all)))

    first_made : 0 < length (entry_at l c).blocks → first_of (entry_at l c).blocks < l.made
    first_made pos =
        all_made l apart c (in_links bytes l sv is c within) (first_of (entry_at l c).blocks)
        (omega (arith, ap (times (first_of (entry_at l c).blocks)) (drop_more (entry_at l c).blocks 0 0 pos), times_here (first_of (entry_at l c).blocks) (drop 1 (entry_at l c).blocks)))

    -- the bytes of the first block
    pub front_chain : (b n : ℕ) → IsSome (chain_at sv c) → 0 < (entry_at l c).marks.len → b ≡ first_of (entry_at l c).blocks
        → n ≡ min 256 ((entry_at l c).marks.popped + (entry_at l c).marks.len)
        → take (256 * b + n - (256 * b + (entry_at l c).marks.popped)) (drop (256 * b + (entry_at l c).marks.popped) bytes) ≡ front_of (held (chain_at sv c))
    front_chain b n used some first least =
        let p : ℕ = (entry_at l c).marks.popped in
        let u : ℕ = (entry_at l c).marks.popped + (entry_at l c).marks.len in
        let front : (entry_at l c).marks.popped < 256 = (h.fit c).front in
        let pos : 0 < length (entry_at l c).blocks = omega (arith, (h.fit c).count) in
        let whole : contents bytes (entry_at l c).blocks ≡ block_bytes bytes b ++ contents bytes (drop 1 (entry_at l c).blocks) =
        ap (contents bytes) (drop_more (entry_at l c).blocks 0 0 pos)
        ∙ ap (λ x. block_bytes bytes x ++ contents bytes (drop 1 (entry_at l c).blocks)) (sym first) in
        let made : b < l.made = subst (λ x. x < l.made) (sym first) (first_made pos) in
        let le : n ≤ length (block_bytes bytes b) = omega (arith, length-block bytes b l.made h.room made) in
        let small : n ≤ 256 = omega arith in
        let size : 256 * b + n - (256 * b + (entry_at l c).marks.popped) ≡ n - (entry_at l c).marks.popped = omega arith in
        let sum : (entry_at l c).marks.popped + (n - (entry_at l c).marks.popped) ≡ n = omega arith in
        let sum256 : (entry_at l c).marks.popped + (256 - (entry_at l c).marks.popped) ≡ 256 = omega arith in
        ap (λ m. take m (drop (256 * b + (entry_at l c).marks.popped) bytes)) size
        ∙ ap (take (n - (entry_at l c).marks.popped)) (sym (drop-drop (entry_at l c).marks.popped (256 * b) bytes))
        ∙ sym (drop-take (entry_at l c).marks.popped (n - (entry_at l c).marks.popped) (drop (256 * b) bytes))
        ∙ ap (λ m. drop (entry_at l c).marks.popped (take m (drop (256 * b) bytes))) sum
        ∙ ap (drop (entry_at l c).marks.popped) (sym (take-take n 256 (drop (256 * b) bytes) small)
        ∙ sym (take-append-le n (block_bytes bytes b) (contents bytes (drop 1 (entry_at l c).blocks)) le) ∙ ap (take n) (sym whole)
        ∙ sym (take_least (contents bytes (entry_at l c).blocks) 256 ((entry_at l c).marks.popped + (entry_at l c).marks.len) n least))
        ∙ ap (λ m. drop (entry_at l c).marks.popped (take m (take ((entry_at l c).marks.popped + (entry_at l c).marks.len) (contents bytes (entry_at l c).blocks)))) (sym sum256)
        ∙ drop-take (entry_at l c).marks.popped (256 - (entry_at l c).marks.popped) (take ((entry_at l c).marks.popped + (entry_at l c).marks.len) (contents bytes (entry_at l c).blocks))
        ∙ ap front_of (sym (held_is used))

    -- a chain with bytes is in use
    pub used_with_bytes : 0 < (entry_at l c).marks.len → IsSome (chain_at sv c)
    used_with_bytes some =
        subst IsSome (sym (chain_is bytes l sv is c within)) (some_of_used (entry_at l c).marks.is_used _ (λ un. let none : (entry_at l c).marks.len ≡ 0 = (h.fit c).unused un in absurd (omega arith)))

    pub pop_seen : (m : Marks) → m ≡ (entry_at l c).marks → (n : ℕ) → IsSome (chain_at sv c) → n ≤ length (held (chain_at sv c)).bytes → m.len ≢ n
        → (l1 l2 : Linked) → l1 ≡ front_given l c ((m.popped + n) / 256)
        → l2 ≡ marked l1 c (record { is_used = true; popped = (m.popped + n) % 256; len = m.len - n })
        → store_of bytes l2 ≡ with_chain sv c (Some (popped_by (held (chain_at sv c)) n))
    pop_seen m e n used le ne l1 l2 first second =
        changed bytes l sv is c within _ _ (record { is_used = true; popped = ((entry_at l c).marks.popped + n) % 256; len = (entry_at l c).marks.len - n }) l1 l2
        (first ∙ ap (λ (m : Marks). front_given l c ((m.popped + n) / 256)) e)
        (second ∙ ap (λ (m : Marks). marked l1 c (record { is_used = true; popped = (m.popped + n) % 256; len = m.len - n })) e)
        (Some (popped_by (held (chain_at sv c)) n))
        (popped_chain n used (omega (arith, len_is)) (λ same. ne (ap (λ (m : Marks). m.len) e ∙ same)))

    pub cut_seen : (m : Marks) → m ≡ (entry_at l c).marks → (n k : ℕ) → IsSome (chain_at sv c) → n ≤ length (held (chain_at sv c)).bytes → m.len ≢ n
        → k ≡ blocks_for (m.popped + (m.len - n)) → (l1 l2 : Linked) → l1 ≡ front_kept l c k
        → l2 ≡ marked l1 c (record { is_used = true; popped = m.popped; len = m.len - n })
        → store_of bytes l2 ≡ with_chain sv c (Some (cut_by (held (chain_at sv c)) n))
    cut_seen m e n k used le ne count l1 l2 first second =
        changed bytes l sv is c within _ _ (record { is_used = true; popped = (entry_at l c).marks.popped; len = (entry_at l c).marks.len - n }) l1 l2
        (first ∙ ap (front_kept l c) count ∙ ap (λ (m : Marks). front_kept l c (blocks_for (m.popped + (m.len - n)))) e)
        (second ∙ ap (λ (m : Marks). marked l1 c (record { is_used = true; popped = m.popped; len = m.len - n })) e)
        (Some (cut_by (held (chain_at sv c)) n))
        (cut_chain n used (omega (arith, len_is)) (λ same. ne (ap (λ (m : Marks). m.len) e ∙ same)))

    pub front_seen : (m : Marks) → m ≡ (entry_at l c).marks → (b n : ℕ) → (m.len ≡ 0 → ⊥) → b ≡ first_of (entry_at l c).blocks → n ≡ min 256 (m.popped + m.len)
        → (held_bytes : List ℕ) → held_bytes ≡ bytes
        → take (256 * b + n - (256 * b + m.popped)) (drop (256 * b + m.popped) held_bytes) ≡ front_of (held (chain_at sv c))
    front_seen m e b n some first least held_bytes same =
        let pos : 0 < (entry_at l c).marks.len = let ne = λ (z : (entry_at l c).marks.len ≡ 0). some (ap (λ (m : Marks). m.len) e ∙ z) in omega arith in
        ap (λ d. take (256 * b + n - (256 * b + m.popped)) (drop (256 * b + m.popped) d)) same
        ∙ ap (λ (m : Marks). take (256 * b + n - (256 * b + m.popped)) (drop (256 * b + m.popped) bytes)) e
        ∙ front_chain b n (used_with_bytes pos) pos first (least ∙ ap (λ (m : Marks). min 256 (m.popped + m.len)) e)

    pub front_fits : (m : Marks) → m ≡ (entry_at l c).marks → (b : ℕ) → (m.len ≡ 0 → ⊥) → b ≡ first_of (entry_at l c).blocks → (256 * b + 256 ≤ length bytes) × (m.popped < 256)
    front_fits m e b some first =
        let pos : 0 < length (entry_at l c).blocks =
        let ne = λ (z : (entry_at l c).marks.len ≡ 0). some (ap (λ (m : Marks). m.len) e ∙ z) in omega (arith, (h.fit c).count) in
        (omega (arith, h.room, first, first_made pos), omega (arith, (h.fit c).front, ap (λ (m : Marks). m.popped) e))

    pub front_some : 0 < length (held (chain_at sv c)).bytes → 0 < length (front_of (held (chain_at sv c)))
    front_some some =
        omega (arith, length-take (256 - (held (chain_at sv c)).popped) (held (chain_at sv c)).bytes, popped_is, (h.fit c).front)

front_by : (b : Bool) (p len : ℕ) (part : List ℕ) → p < 256 → (len ≡ 0 → p ≡ 0) → length part ≡ len → HasFront (cond b (Some (record { popped = p; bytes = part })) None)
front_by true p len part front empty long = (front, λ none. empty (sym long ∙ none))
front_by false p len part front empty long = tt

-- every chain has its front
pub fronts : (bytes : List ℕ) (l : Linked) → IsStore bytes l → IsApart l → (sv : Store) → store_of bytes l ≡ sv → (q : ℕ) → HasFront (chain_at sv q)
fronts bytes l h apart sv is q =
    subst (λ s. HasFront (chain_at s q)) is (subst HasFront (sym (get_or-map (chain_in bytes) l.chains q no_entry))
    (elim (cases_lt q (length l.chains)) [
      | inl lt ↦ front_by (entry_at l q).marks.is_used (entry_at l q).marks.popped (entry_at l q).marks.len _ (h.fit q).front (h.fit q).empty (part_size bytes l h apart q lt)
      | inr ge ↦ subst (λ e. HasFront (chain_in bytes e)) (sym (get_or_past l.chains q no_entry ge)) tt
    ]))
