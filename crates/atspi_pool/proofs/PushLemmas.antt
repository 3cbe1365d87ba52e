-- A piece that is written into the last block of a chain.
use Rattle.std.proofs.Common.{◌≡◌, ◌≢◌, ℕ, suc, zero, ◌+◌, ◌-◌, ◌*◌, ◌%◌, ◌^◌, ◌<◌, ◌≤◌, List, [], ◌∷◌, ◌++◌, Bool, true, false, cond, eqb, ltb, max, Option, Some, None, length, get_or, set, take, drop, map, refl, sym, ap, ◌∙◌, subst, arith, inl, inr}
use Rattle.std.specs.Prelude.{IsSome}
use Rattle.std.specs.Bool.{MatchBool}
use Rattle.std.proofs.lemmas.List.{length-append, length-take, length-set, length_push, set-set, get_or-set_same, get_or-set_other, append_assoc, append-nil, set-get_or, drop-append-le, take-append-le, get_or_push}
use Rattle.std.proofs.lemmas.List.Sums.{sum_by-set, get_or-le-sum_by}
use Rattle.std.proofs.lemmas.Bool.Decides.{nat_tests}
use Rattle.std.proofs.lemmas.Bool.{cases_eq}
use Rattle.atspi_pool.specs.declared.run.Marks.{Marks}
use Rattle.atspi_pool.specs.Links.{times, last_of, first_of, Entry, Linked, IsApart, no_entry, entry_at, with_entry, with_blocks, marked, taken}
use Rattle.atspi_pool.specs.Chains.{Chain, blocks_for, room_in, pushed}
use Rattle.atspi_pool.specs.Store.{Store, blocks_in, all_blocks, held, chain_at, with_chain, with_pushed, contents, chain_in, store_of, written, IsFit, IsStore}
use Rattle.atspi_pool.proofs.WalkLemmas.{times-append, times_here}
use Rattle.atspi_pool.proofs.LinkLemmas.{two_le-sum_by, chance_le}
use Rattle.atspi_pool.proofs.LinkSpecs.{same_entry}
use Rattle.atspi_pool.proofs.BlockLemmas.{contents-more, contents-append, length-written, contents-written, pushed_contents, length-contents, last_split, AllMade}
use Rattle.atspi_pool.proofs.StoreLemmas.{all_made, in_links, free_seen, len_is, popped_is, blocks_is, held_is, in_blocks}

zero_of_test : (o : ℕ) → eqb o 0 ≡ true → o ≡ 0
zero_of_test o e = grind (arith, nat_tests)

some_of_test : (o : ℕ) → eqb o 0 ≡ false → 0 < o
some_of_test o e = grind (arith, nat_tests)

pub all_same : (f g : Entry → Option Chain) (ys : List Entry) → ((q : ℕ) → q < length ys → f (get_or ys q no_entry) ≡ g (get_or ys q no_entry)) → map f ys ≡ map g ys
all_same f g [] k = refl
all_same f g (y ∷ ys) k = ap (λ z. z ∷ map f ys) (k 0 (omega arith)) ∙ ap (λ zs. g y ∷ zs) (all_same f g ys (λ q l. k (suc q) (omega arith)))

map_but_one : (f g : Entry → Option Chain) (es : List Entry) (c : ℕ) (e : Entry) → ((q : ℕ) → q < length es → q ≢ c → f (get_or es q no_entry) ≡ g (get_or es q no_entry))
    → map f (set es c e) ≡ set (map g es) c (f e)
map_but_one f g [] c e h = refl
map_but_one f g (x ∷ xs) zero e h = ap (λ ys. f e ∷ ys) (all_same f g xs (λ q l. h (suc q) (omega arith) (λ i. absurd (omega arith))))
map_but_one f g (x ∷ xs) (suc c) e h =
    ap (λ y. y ∷ map f (set xs c e)) (h 0 (omega arith) (λ i. absurd (omega arith)))
    ∙ ap (λ ys. g x ∷ ys) (map_but_one f g xs c e (λ q l ne. h (suc q) (omega arith) (λ i. ne (omega arith))))

-- where the piece goes: behind `init` stands the block, in which the chain's bytes end at `o`
pub record IsTail (bytes : List ℕ) (l : Linked) (c o : ℕ) (l1 : Linked) (block : ℕ) (init unused : List ℕ) : Type 0 where
  pub link : l1 ≡ with_blocks l unused c (init ++ block ∷ [])
  pub place : 256 * length init + o ≡ (entry_at l c).marks.popped + (entry_at l c).marks.len
  pub same : take ((entry_at l c).marks.popped + (entry_at l c).marks.len) (contents bytes (init ++ block ∷ []))
      ≡ take ((entry_at l c).marks.popped + (entry_at l c).marks.len) (contents bytes (entry_at l c).blocks)

module _ (bytes : List ℕ) (l : Linked) (h : IsStore bytes l) (apart : IsApart l) (sv : Store) (is : store_of bytes l ≡ sv) (c : ℕ) (within : c < length sv.chains) where
  there : c < length l.chains
  there = in_links bytes l sv is c within

  -- a block is free where one is wanted
  pub free_wanted : (piece : List ℕ) → 0 < length piece → all_blocks (with_pushed sv c piece).chains ≤ sv.made
      → eqb (((entry_at l c).marks.popped + (entry_at l c).marks.len) % 256) 0 ≡ true → 0 < length l.unused
  free_wanted piece some fits full =
      let o = zero_of_test (((entry_at l c).marks.popped + (entry_at l c).marks.len) % 256) full in
      omega (
        arith,
        fits,
        free_seen bytes l h apart sv is,
        sum_by-set blocks_in sv.chains c (Some (pushed (held (chain_at sv c)) piece)) None within,
        blocks_is bytes l h apart sv is c within,
        (h.fit c).count,
        len_is bytes l h apart sv is c within,
        popped_is bytes l h apart sv is c within,
        length-append (held (chain_at sv c)).bytes piece,
      )

  pub tail_found : (l1 : Linked) (o block : ℕ) (full : Bool) → o ≡ ((entry_at l c).marks.popped + (entry_at l c).marks.len) % 256 → eqb o 0 ≡ full
      → MatchBool full (l1 ≡ taken l c) (l1 ≡ l) → block ≡ last_of (entry_at l1 c).blocks
      → (init : List ℕ) × (unused : List ℕ) × IsTail bytes l c o l1 block init unused
  tail_found l1 o block true is_o test links last =
      let zero_o = zero_of_test o test in
      let e : get_or (set l.chains c (record { marks = (entry_at l c).marks; blocks = (entry_at l c).blocks ++ first_of l.unused ∷ [] })) c no_entry
      ≡ record { marks = (entry_at l c).marks; blocks = (entry_at l c).blocks ++ first_of l.unused ∷ [] } = get_or-set_same l.chains c _ no_entry there in
      let at_end : length (entry_at l c).blocks ≡ length ((entry_at l c).blocks ++ first_of l.unused ∷ []) - 1 = omega (arith, length_push (entry_at l c).blocks (first_of l.unused)) in
      let b : block ≡ first_of l.unused =
      last ∙ ap (λ v. last_of (entry_at v c).blocks) links ∙ ap (λ (e : Entry). last_of e.blocks) e
      ∙ get_or_push (entry_at l c).blocks (first_of l.unused) 0 (length ((entry_at l c).blocks ++ first_of l.unused ∷ []) - 1) at_end in (
        (entry_at l c).blocks,
        drop 1 l.unused,
        record {
          link = links ∙ ap (λ x. with_blocks l (drop 1 l.unused) c ((entry_at l c).blocks ++ x ∷ [])) (sym b);
          place = omega (arith, (h.fit c).count);
          same =
              ap (take ((entry_at l c).marks.popped + (entry_at l c).marks.len)) (contents-append bytes (entry_at l c).blocks (block ∷ []))
              ∙ take-append-le ((entry_at l c).marks.popped + (entry_at l c).marks.len) (contents bytes (entry_at l c).blocks) (contents bytes (block ∷ [])) (in_blocks bytes l h apart c there);
        },
      )
  tail_found l1 o block false is_o test links last =
      let some_o = some_of_test o test in
      let pos : 0 < length (entry_at l c).blocks = omega (arith, (h.fit c).count) in
      let b : block ≡ last_of (entry_at l c).blocks = last ∙ ap (λ v. last_of (entry_at v c).blocks) links in
      let split : (entry_at l c).blocks ≡ take (length (entry_at l c).blocks - 1) (entry_at l c).blocks ++ block ∷ [] =
      last_split (entry_at l c).blocks pos ∙ ap (λ x. take (length (entry_at l c).blocks - 1) (entry_at l c).blocks ++ x ∷ []) (sym b) in (
        take (length (entry_at l c).blocks - 1) (entry_at l c).blocks,
        l.unused,
        record {
          link = links ∙ sym (same_entry l c) ∙ ap (with_blocks l l.unused c) split;
          place = omega (arith, (h.fit c).count, length-take (length (entry_at l c).blocks - 1) (entry_at l c).blocks);
          same = ap (λ bs. take ((entry_at l c).marks.popped + (entry_at l c).marks.len) (contents bytes bs)) (sym split);
        },
      )

  module _ (l1 : Linked) (apart1 : IsApart l1) (o block : ℕ) (init unused : List ℕ) (t : IsTail bytes l c o l1 block init unused)
      (piece : List ℕ) (some : 0 < length piece) (inside : o + length piece ≤ 256) where
    entry1 : entry_at l1 c ≡ record { marks = (entry_at l c).marks; blocks = init ++ block ∷ [] }
    entry1 = ap (λ v. entry_at v c) t.link ∙ get_or-set_same l.chains c _ no_entry there

    there1 : c < length l1.chains
    there1 = subst (λ n. c < n) (sym (ap (λ (v : Linked). length v.chains) t.link ∙ length-set l.chains c _)) there

    made1 : l1.made ≡ l.made
    made1 = ap (λ (v : Linked). v.made) t.link

    all_here : AllMade l.made (init ++ block ∷ [])
    all_here = subst (λ m. AllMade m (init ++ block ∷ [])) made1 (subst (λ (e : Entry). AllMade l1.made e.blocks) entry1 (all_made l1 apart1 c there1))

    counts : (x : ℕ) → times x (init ++ block ∷ []) ≡ times x init + times x (block ∷ [])
    counts x = times-append x init (block ∷ [])

    pub block_made : block < l.made
    block_made = all_here block (omega (arith, counts block, times_here block []))

    pub fits : 256 * block + o + length piece ≤ length bytes
    fits = omega (arith, h.room, block_made)

    none_before : times block init ≡ 0
    none_before =
        let le = get_or-le-sum_by (λ (e : Entry). times block e.blocks) l1.chains c no_entry there1 in
        let here = ap (λ (e : Entry). times block e.blocks) entry1 in
        omega (arith, le, here, apart1.once block, chance_le (ltb block l1.made), counts block, times_here block [])

    not_elsewhere : (q : ℕ) → q < length l.chains → q ≢ c → times block (entry_at l q).blocks ≡ 0
    not_elsewhere q lt ne =
        let lt1 : q < length l1.chains = subst (λ n. q < n) (sym (ap (λ (v : Linked). length v.chains) t.link ∙ length-set l.chains c _)) lt in
        let le = two_le-sum_by (λ (e : Entry). times block e.blocks) l1.chains c q no_entry refl there1 lt1 ne in
        let here = ap (λ (e : Entry). times block e.blocks) entry1 in
        let other : entry_at l1 q ≡ entry_at l q = ap (λ v. entry_at v q) t.link ∙ get_or-set_other l.chains c q _ no_entry ne in
        let that = ap (λ (e : Entry). times block e.blocks) other in
        omega (arith, le, here, that, apart1.once block, chance_le (ltb block l1.made), counts block, times_here block [])

    pub new_bytes : (now : List ℕ) → now ≡ written bytes (256 * block + o) piece
        → drop (entry_at l c).marks.popped (take ((entry_at l c).marks.popped + ((entry_at l c).marks.len + length piece)) (contents now (init ++ block ∷ [])))
        ≡ drop (entry_at l c).marks.popped (take ((entry_at l c).marks.popped + (entry_at l c).marks.len) (contents bytes (entry_at l c).blocks)) ++ piece
    new_bytes now is_now =
        let u : (entry_at l c).marks.popped + ((entry_at l c).marks.len + length piece) ≡ 256 * length init + o + length piece = omega (arith, t.place) in
        let init_made : AllMade l.made init = λ x here. all_here x (omega (arith, counts x)) in
        let size = length-contents bytes l.made init h.room init_made in
        let long : (entry_at l c).marks.popped ≤ length (take ((entry_at l c).marks.popped + (entry_at l c).marks.len) (contents bytes (entry_at l c).blocks)) =
        omega (arith, length-take ((entry_at l c).marks.popped + (entry_at l c).marks.len) (contents bytes (entry_at l c).blocks), in_blocks bytes l h apart c there) in
        ap (drop (entry_at l c).marks.popped)
        (ap (λ m. take m (contents now (init ++ block ∷ []))) u
        ∙ ap (λ d. take (256 * length init + o + length piece) (contents d (init ++ block ∷ []))) is_now
        ∙ pushed_contents bytes block o piece fits inside init none_before size
        ∙ ap (λ m. take m (contents bytes (init ++ block ∷ [])) ++ piece) t.place
        ∙ ap (λ w. w ++ piece) t.same)
        ∙ drop-append-le (entry_at l c).marks.popped (take ((entry_at l c).marks.popped + (entry_at l c).marks.len) (contents bytes (entry_at l c).blocks)) piece long

    module _ (now : List ℕ) (is_now : now ≡ written bytes (256 * block + o) piece) (l2 : Linked)
        (is_l2 : l2 ≡ marked l1 c (record { is_used = true; popped = (entry_at l c).marks.popped; len = (entry_at l c).marks.len + length piece })) where
      linked2 : l2 ≡ record {
        made = l.made;
        unused = unused;
        chains = set l.chains c (record {
          marks = record { is_used = true; popped = (entry_at l c).marks.popped; len = (entry_at l c).marks.len + length piece };
          blocks = init ++ block ∷ [];
        });
      }
      linked2 =
          let m : Marks = record { is_used = true; popped = (entry_at l c).marks.popped; len = (entry_at l c).marks.len + length piece } in
          is_l2
          ∙ ap (λ (e : Entry). with_entry l1 c (record {
            marks = record { is_used = true; popped = (entry_at l c).marks.popped; len = (entry_at l c).marks.len + length piece };
            blocks = e.blocks;
          })) entry1
          ∙ ap (λ v. with_entry v c (record {
            marks = record { is_used = true; popped = (entry_at l c).marks.popped; len = (entry_at l c).marks.len + length piece };
            blocks = init ++ block ∷ [];
          })) t.link
          ∙ ap (λ es. record { made = l.made; unused = unused; chains = es }) (set-set l.chains c _ _)

      pub seen : IsSome (chain_at sv c) → store_of now l2 ≡ with_pushed sv c piece
      seen used =
          let others : (q : ℕ) → q < length l.chains → q ≢ c → chain_in now (get_or l.chains q no_entry) ≡ chain_in bytes (get_or l.chains q no_entry) =
          λ q lt ne. ap (λ w. cond (entry_at l q).marks.is_used (Some (record {
            popped = (entry_at l q).marks.popped;
            bytes = drop (entry_at l q).marks.popped (take ((entry_at l q).marks.popped + (entry_at l q).marks.len) w);
          })) None)
          (ap (λ d. contents d (entry_at l q).blocks) is_now ∙ contents-written bytes block o piece fits inside (entry_at l q).blocks (not_elsewhere q lt ne)) in
          ap (store_of now) linked2
          ∙ ap (λ cs. record { made = l.made; chains = cs })
          (map_but_one (chain_in now) (chain_in bytes) l.chains c _ others
          ∙ ap (λ w. set (map (chain_in bytes) l.chains) c (Some (record { popped = (entry_at l c).marks.popped; bytes = w }))) (new_bytes now is_now)
          ∙ ap (λ ch. set (map (chain_in bytes) l.chains) c (Some (pushed ch piece))) (sym (held_is bytes l h apart sv is c within used)))
          ∙ ap (λ (s : Store). with_chain s c (Some (pushed (held (chain_at sv c)) piece))) is

      pub stored : (entry_at l c).marks.len + length piece < 2 ^ 32 → IsStore now l2
      stored small = record {
        room = ap length is_now ∙ length-written bytes (256 * block + o) piece fits ∙ h.room ∙ ap (λ (v : Linked). 256 * v.made) (sym linked2);
        fit = λ q. subst (λ (v : Linked). IsFit (get_or v.chains q no_entry)) (sym linked2)
            (elim (cases_eq q c) [
              | inl e ↦ subst (λ i. IsFit (get_or (set l.chains c (record {
                marks = record { is_used = true; popped = (entry_at l c).marks.popped; len = (entry_at l c).marks.len + length piece };
                blocks = init ++ block ∷ [];
              })) i no_entry)) (sym e) (subst IsFit (sym (get_or-set_same l.chains c _ no_entry there)) (record {
                count = omega (arith, length_push init block, t.place);
                front = (h.fit c).front;
                small = small;
                empty = λ none. absurd (omega arith);
                unused = λ un. absurd (not_true un);
              }))
              | inr ne ↦ subst IsFit (sym (get_or-set_other l.chains c q _ no_entry ne)) (h.fit q)
            ]);
      }
        where
          not_true : true ≡ false → ⊥
          not_true e = cc

-- a new block leaves the chains
pub block_added : (bytes : List ℕ) (l : Linked) → IsStore bytes l → IsApart l → (sv : Store) → store_of bytes l ≡ sv
    → (more now : List ℕ) → now ≡ bytes ++ more → (l2 : Linked) → l2 ≡ record l { made = l.made + 1; unused = l.made ∷ l.unused }
    → store_of now l2 ≡ record sv { made = sv.made + 1 }
block_added bytes l h apart sv is more now is_now l2 is_l2 =
    ap (store_of now) is_l2
    ∙ ap (λ cs. record { made = l.made + 1; chains = cs }) (all_same (chain_in now) (chain_in bytes) l.chains (λ q lt.
    ap (λ w. cond (entry_at l q).marks.is_used (Some (record {
      popped = (entry_at l q).marks.popped;
      bytes = drop (entry_at l q).marks.popped (take ((entry_at l q).marks.popped + (entry_at l q).marks.len) w);
    })) None)
    (ap (λ d. contents d (entry_at l q).blocks) is_now ∙ contents-more bytes more l.made (entry_at l q).blocks h.room (all_made l apart q lt))))
    ∙ ap (λ (s : Store). record s { made = s.made + 1 }) is

-- pieces, one behind the other
module _ (s : Store) (c : ℕ) (within : c < length s.chains) where
  pub pushed_twice : (a b : List ℕ) → with_pushed (with_pushed s c a) c b ≡ with_pushed s c (a ++ b)
  pushed_twice a b =
      let at : chain_at (with_pushed s c a) c ≡ Some (pushed (held (chain_at s c)) a) = get_or-set_same s.chains c _ None within in
      ap (λ o. with_chain (with_pushed s c a) c (Some (pushed (held o) b))) at
      ∙ ap (λ cs. record { made = s.made; chains = cs }) (set-set s.chains c _ _)
      ∙ ap (λ bs. with_chain s c (Some (record { popped = (held (chain_at s c)).popped; bytes = bs }))) (append_assoc (held (chain_at s c)).bytes a b)

  pub nothing_pushed : IsSome (chain_at s c) → with_pushed s c [] ≡ s
  nothing_pushed used =
      ap (λ bs. with_chain s c (Some (record { popped = (held (chain_at s c)).popped; bytes = bs }))) (append-nil (held (chain_at s c)).bytes)
      ∙ ap (with_chain s c) (sym (some_held (chain_at s c) used))
      ∙ ap (λ cs. record { made = s.made; chains = cs }) (set-get_or s.chains c None)
    where
      some_held : (o : Option Chain) → IsSome o → o ≡ Some (held o)
      some_held None h = cc
      some_held (Some ch) h = refl

  pub all_pushed : (a : List ℕ) → all_blocks (with_pushed s c a).chains + blocks_in (chain_at s c)
      ≡ all_blocks s.chains + blocks_for ((held (chain_at s c)).popped + (length (held (chain_at s c)).bytes + length a))
  all_pushed a =
      sum_by-set blocks_in s.chains c (Some (pushed (held (chain_at s c)) a)) None within
      ∙ ap (λ n. all_blocks s.chains + blocks_for ((held (chain_at s c)).popped + n)) (length-append (held (chain_at s c)).bytes a)

  pub front_fits : (a b : List ℕ) → all_blocks (with_pushed s c a).chains ≤ all_blocks (with_pushed s c (a ++ b)).chains
  front_fits a b = omega (arith, all_pushed a, all_pushed (a ++ b), length-append a b)

  pub all_bytes : (a : List ℕ) → length (held (chain_at (with_pushed s c a) c)).bytes ≡ length (held (chain_at s c)).bytes + length a
  all_bytes a =
      ap (λ o. length (held o).bytes) (get_or-set_same s.chains c (Some (pushed (held (chain_at s c)) a)) None within)
      ∙ length-append (held (chain_at s c)).bytes a

  pub still_used : (a : List ℕ) → IsSome (chain_at (with_pushed s c a) c)
  still_used a = subst IsSome (sym (get_or-set_same s.chains c (Some (pushed (held (chain_at s c)) a)) None within)) refl

-- what a call that appends a piece needs to know
module _ (bytes : List ℕ) (l : Linked) (h : IsStore bytes l) (apart : IsApart l) (sv : Store) (is : store_of bytes l ≡ sv) (c : ℕ) (within : c < length sv.chains)
    (m : Marks) (m_is : m ≡ (entry_at l c).marks) where
  pub room_is : room_in (held (chain_at sv c)) ≡ 256 - (m.popped + m.len) % 256
  room_is =
      sym (ap (λ (m : Marks). 256 - (m.popped + m.len) % 256) m_is
      ∙ ap (λ p. 256 - (p + (entry_at l c).marks.len) % 256) (popped_is bytes l h apart sv is c within)
      ∙ ap (λ n. 256 - ((held (chain_at sv c)).popped + n) % 256) (len_is bytes l h apart sv is c within))

  pub missing_is : (piece : List ℕ) (wanted filled free missing : ℕ) → wanted ≡ blocks_for (m.popped + m.len + length piece) → filled ≡ blocks_for (m.popped + m.len)
      → free ≡ length l.unused → missing ≡ wanted - filled - free
      → sv.made + missing ≡ max sv.made (all_blocks (with_pushed sv c piece).chains)
  missing_is piece wanted filled free missing is_wanted is_filled is_free is_missing =
      omega (
        arith,
        free_seen bytes l h apart sv is,
        all_pushed sv c within piece,
        blocks_is bytes l h apart sv is c within,
        (h.fit c).count,
        len_is bytes l h apart sv is c within,
        popped_is bytes l h apart sv is c within,
        ap (λ (m : Marks). m.popped) m_is,
        ap (λ (m : Marks). m.len) m_is,
      )

  module _ (l1 : Linked) (apart1 : IsApart l1) (block : ℕ) (links : MatchBool (eqb ((m.popped + m.len) % 256) 0) (l1 ≡ taken l c) (l1 ≡ l))
      (last : block ≡ last_of (entry_at l1 c).blocks) (piece : List ℕ) (some : 0 < length piece) (room : length piece ≤ room_in (held (chain_at sv c))) where
    found : (init : List ℕ) × (unused : List ℕ) × IsTail bytes l c ((m.popped + m.len) % 256) l1 block init unused
    found = tail_found bytes l h apart sv is c within l1 ((m.popped + m.len) % 256) block (eqb ((m.popped + m.len) % 256) 0)
        (ap (λ (m : Marks). (m.popped + m.len) % 256) m_is) refl links last

    inside : (m.popped + m.len) % 256 + length piece ≤ 256
    inside = omega (arith, room, room_is)

    pub written_fits : 256 * block + (m.popped + m.len) % 256 + length piece ≤ length bytes
    written_fits = fits bytes l h apart sv is c within l1 apart1 ((m.popped + m.len) % 256) block found.0 found.1 found.2 piece some inside

    pub written_stored : (now : List ℕ) → now ≡ written bytes (256 * block + (m.popped + m.len) % 256) piece → (l2 : Linked)
        → l2 ≡ marked l1 c (record { is_used = true; popped = m.popped; len = m.len + length piece })
        → length (held (chain_at sv c)).bytes + length piece < 2 ^ 32 → IsStore now l2
    written_stored now is_now l2 is_l2 small =
        stored bytes l h apart sv is c within l1 apart1 ((m.popped + m.len) % 256) block found.0 found.1 found.2 piece some inside now is_now l2
        (is_l2 ∙ ap (λ (m : Marks). marked l1 c (record { is_used = true; popped = m.popped; len = m.len + length piece })) m_is)
        (omega (arith, small, len_is bytes l h apart sv is c within))

    pub written_seen : (now : List ℕ) → now ≡ written bytes (256 * block + (m.popped + m.len) % 256) piece → (l2 : Linked)
        → l2 ≡ marked l1 c (record { is_used = true; popped = m.popped; len = m.len + length piece })
        → IsSome (chain_at sv c) → store_of now l2 ≡ with_pushed sv c piece
    written_seen now is_now l2 is_l2 used =
        seen bytes l h apart sv is c within l1 apart1 ((m.popped + m.len) % 256) block found.0 found.1 found.2 piece some inside now is_now l2
        (is_l2 ∙ ap (λ (m : Marks). marked l1 c (record { is_used = true; popped = m.popped; len = m.len + length piece })) m_is) used

-- a chain and what is left to append to it
module _ (was now : Store) (c : ℕ) (in_was : c < length was.chains) (in_now : c < length now.chains) (bytes rest : List ℕ) (same : with_pushed now c rest ≡ with_pushed was c bytes) where
  pub lengths_left : length (held (chain_at now c)).bytes + length rest ≡ length (held (chain_at was c)).bytes + length bytes
  lengths_left = sym (all_bytes now c in_now rest) ∙ ap (λ s. length (held (chain_at s c)).bytes) same ∙ all_bytes was c in_was bytes

  pub made_left : now.made ≡ was.made
  made_left = ap (λ (s : Store). s.made) same

  pub blocks_left : all_blocks (with_pushed now c rest).chains ≡ all_blocks (with_pushed was c bytes).chains
  blocks_left = ap (λ (s : Store). all_blocks s.chains) same
