-- Numbers of chains, and how many blocks there are at most.
use Rattle.std.proofs.Common.{◌≡◌, ◌≢◌, ℕ, suc, ◌+◌, ◌/◌, ◌<◌, ◌≤◌, List, [], ◌∷◌, ◌++◌, Bool, true, false, cond, eqb, ltb, max, ◌&&◌, Option, Some, None, is_some, length, get_or, refl, sym, ap, ◌∙◌, subst, arith, inl, inr}
use Rattle.std.specs.Prelude.{IsSome, is_none}
use Rattle.std.proofs.lemmas.List.{length-append, length_push, length-set, get_or-set_same, get_or-set_other, get_or_past, get_or_append_left, get_or_push}
use Rattle.std.proofs.lemmas.List.Sums.{sum_by-cons, sum_by-set}
use Rattle.std.proofs.lemmas.Bool.Decides.{nat_tests}
use Rattle.std.proofs.lemmas.Bool.{cases_eq, cases_lt}
use Rattle.atspi_pool.specs.Chains.{Chain, blocks_of, pushed}
use Rattle.atspi_pool.specs.Links.{times}
use Rattle.atspi_pool.specs.Store.{Store, blocks_in, all_blocks, held, chain_at, with_chain, with_pushed, HasFront}
use Rattle.atspi_pool.specs.Pool.{no_pool, in_use, SetsChain, IsNumbered, most_in, most_of, AreCalls, made_after, greatest, MadeIsBound, BlocksAreFew}
use Rattle.atspi_pool.proofs.WalkLemmas.{times-cons, times-append, times_here}

some_if : (b : Bool) (n : ℕ) → eqb n 0 ≡ b → (blocks : ℕ) → (n ≡ 0 → blocks ≡ 0) → (0 < n → blocks ≤ n / 256 + 2) → blocks ≤ cond b 0 (n / 256 + 2)
some_if true n test blocks none some = let e : n ≡ 0 = grind (arith, nat_tests) in let z : blocks ≡ 0 = none e in omega arith
some_if false n test blocks none some = some (grind (arith, nat_tests))

pub few : BlocksAreFew
few chain front empty =
    some_if (eqb (length chain.bytes) 0) (length chain.bytes) refl (blocks_of chain)
    (λ none. let p : chain.popped ≡ 0 = empty none in omega arith) (λ some. omega arith)

bounded : (s : Store) (calls : List (ℕ × Store)) → AreCalls s calls → made_after s calls ≤ max s.made (greatest calls)
bounded s [] h = omega arith
bounded s (call ∷ calls) h =
    let rest : made_after call.1 calls ≤ max call.1.made (greatest calls) = bounded call.1 calls h.1 in
    elim h.0 [
      | inl push ↦ let le : call.1.made ≤ max s.made call.0 = push.2.1 in omega arith
      | inr quiet ↦ let e : call.1.made ≡ s.made = quiet.1 in omega arith
    ]

pub made_is_bound : MadeIsBound
made_is_bound calls h = let le : made_after no_pool calls ≤ max 0 (greatest calls) = bounded no_pool calls h in omega arith

pub few_in : (o : Option Chain) → HasFront o → blocks_in o ≤ most_in o
few_in None h = omega arith
few_in (Some chain) h = few chain h.0 h.1

pub all_few : (os : List (Option Chain)) → ((q : ℕ) → HasFront (get_or os q None)) → all_blocks os ≤ most_of os
all_few [] h = omega arith
all_few (o ∷ os) h =
    omega (arith, sum_by-cons blocks_in o os, sum_by-cons most_in o os, few_in o (h 0), all_few os (λ q. h (suc q)))

pushed_front : (o : Option Chain) (bytes : List ℕ) → HasFront o → HasFront (Some (pushed (held o) bytes))
pushed_front None bytes h = (omega arith, λ e. refl)
pushed_front (Some chain) bytes h = (h.0, λ e. h.1 (omega (arith, length-append chain.bytes bytes)))

pub fronts_pushed : (s : Store) (c : ℕ) (bytes : List ℕ) → c < length s.chains → ((q : ℕ) → HasFront (chain_at s q)) → (q : ℕ) → HasFront (chain_at (with_pushed s c bytes) q)
fronts_pushed s c bytes within h q =
    elim (cases_eq q c) [
      | inl e ↦ subst HasFront (sym (ap (λ i. chain_at (with_pushed s c bytes) i) e ∙ get_or-set_same s.chains c _ None within)) (pushed_front (chain_at s c) bytes (h c))
      | inr ne ↦ subst HasFront (sym (get_or-set_other s.chains c q _ None ne)) (h q)
    ]

-- a chain in use has a number below the table's length
pub used_within : (s : Store) (c : ℕ) → IsSome (chain_at s c) → c < length s.chains
used_within s c used =
    elim (cases_lt c (length s.chains)) [
      | inl lt ↦ lt
      | inr ge ↦ absurd (not_some (chain_at s c) (get_or_past s.chains c None ge) used)
    ]
  where
    not_some : (o : Option Chain) → o ≡ None → IsSome o → ⊥
    not_some None e h = cc
    not_some (Some chain) e h = cc

pub sets : (old new : Store) (c : ℕ) (o : Option Chain) → c < length old.chains → new ≡ with_chain old c o → SetsChain old new c o
sets old new c o within is = record {
  named = ap (λ s. chain_at s c) is ∙ get_or-set_same old.chains c o None within;
  others = λ q ne. ap (λ s. chain_at s q) is ∙ get_or-set_other old.chains c q o None ne;
  made = ap (λ (s : Store). s.made) is;
}

pub sets_behind : (old new : Store) (o : Option Chain) → new ≡ record old { chains = old.chains ++ o ∷ [] } → SetsChain old new (length old.chains) o
sets_behind old new o is = record {
  named = ap (λ s. chain_at s (length old.chains)) is ∙ get_or_push old.chains o None (length old.chains) refl;
  others = λ q ne. ap (λ s. chain_at s q) is ∙ elim (cases_lt q (length old.chains)) [
    | inl lt ↦ get_or_append_left old.chains (o ∷ []) None q lt
    | inr ge ↦
        get_or_past (old.chains ++ o ∷ []) q None (let gt : length old.chains < q = omega arith in omega (arith, length_push old.chains o)) ∙ sym (get_or_past old.chains q None ge)
  ];
  made = ap (λ (s : Store). s.made) is;
}

-- what is known of the number that is taken, and what is kept
module _ (s : Store) (unused : List ℕ) (room : ℕ) (h : IsNumbered s unused room) where
  vacant : (q : ℕ) → 1 ≤ times q unused → (q < length s.chains) × (chain_at s q ≡ None)
  vacant q here = by_tests (ltb q (length s.chains)) refl (chain_at s q) (subst (λ n. 1 ≤ n) (h.once q) here)
    where
      by_tests : (b : Bool) → ltb q (length s.chains) ≡ b → (o : Option Chain) → 1 ≤ cond {A = ℕ} (b && is_none o) 1 0 → (q < length s.chains) × (o ≡ None)
      by_tests true lt None le = (grind (arith, nat_tests), refl)
      by_tests true lt (Some c) le = absurd (omega arith)
      by_tests false lt None le = absurd (omega arith)
      by_tests false lt (Some c) le = absurd (omega arith)

  module _ (rest : List ℕ) (n : ℕ) (split : unused ≡ rest ++ n ∷ []) where
    pub taken_vacant : (n < length s.chains) × (chain_at s n ≡ None)
    taken_vacant = vacant n (omega (arith, ap (times n) split, times-append n rest (n ∷ []), times_here n []))

    pub taken_numbered : (new : Store) (c : Chain) → new ≡ with_chain s n (Some c) → IsNumbered new rest room
    taken_numbered new c is =
        let lengths : length new.chains ≡ length s.chains = ap (λ (s : Store). length s.chains) is ∙ length-set s.chains n (Some c) in
        let at_n : times n rest ≡ 0 = omega (arith, ap (times n) split, times-append n rest (n ∷ []), times_here n [], h.once n, chance_le (ltb n (length s.chains) && is_none (chain_at s n))) in
        record {
          once = λ q. elim (cases_eq q n) [
            | inl e ↦
                ap (λ i. times i rest) e ∙ at_n
                ∙ sym (ap (λ i. cond {A = ℕ} (ltb i (length new.chains) && is_none (chain_at new i)) 1 0) e
                ∙ ap (λ o. cond {A = ℕ} (ltb n (length new.chains) && is_none o) 1 0) (ap (λ s. chain_at s n) is ∙ get_or-set_same s.chains n (Some c) None taken_vacant.0)
                ∙ never (ltb n (length new.chains)))
            | inr ne ↦
                let other : times q (n ∷ []) ≡ 0 = times-cons q n [] ∙ ap (λ b. cond b 1 0 + 0) (other_test n q (λ e. ne (sym e))) in
                omega (
                  arith,
                  ap (times q) split,
                  times-append q rest (n ∷ []),
                  other,
                  h.once q,
                  ap (λ m. cond {A = ℕ} (ltb q m && is_none (chain_at new q)) 1 0) lengths,
                  ap (λ o. cond {A = ℕ} (ltb q (length s.chains) && is_none o) 1 0) (ap (λ s. chain_at s q) is ∙ get_or-set_other s.chains n q (Some c) None ne),
                )
          ];
          counted = omega (
            arith,
            h.counted,
            lengths,
            ap length split,
            length_push rest n,
            sum_by-set (λ (o : Option Chain). cond (is_some o) 1 0) s.chains n (Some c) None taken_vacant.0,
            ap (λ (o : Option Chain). cond {A = ℕ} (is_some o) 1 0) taken_vacant.1,
            ap (λ (s : Store). in_use s.chains) is,
          );
          room = omega (arith, h.room, lengths);
        }
      where
        never : (b : Bool) → cond {A = ℕ} (b && false) 1 0 ≡ 0
        never true = refl
        never false = refl

        other_test : (a b : ℕ) → a ≢ b → eqb a b ≡ false
        other_test a b ne = grind (arith, nat_tests)

        chance_le : (b : Bool) → cond {A = ℕ} b 1 0 ≤ 1
        chance_le true = omega arith
        chance_le false = omega arith

-- how many chains are in use after a change of one
pub in_use_set : (s new : Store) (c : ℕ) (o : Option Chain) → c < length s.chains → new ≡ with_chain s c o
    → in_use new.chains + cond {A = ℕ} (is_some (chain_at s c)) 1 0 ≡ in_use s.chains + cond {A = ℕ} (is_some o) 1 0
in_use_set s new c o within is =
    ap (λ (s' : Store). in_use s'.chains + cond {A = ℕ} (is_some (chain_at s c)) 1 0) is
    ∙ sum_by-set (λ (o : Option Chain). cond (is_some o) 1 0) s.chains c o None within
