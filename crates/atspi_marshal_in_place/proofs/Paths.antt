-- Paths, by each byte and the one behind it.
use Rattle.std.proofs.Common.{◌≡◌, ℕ, zero, suc, ◌+◌, ◌-◌, ◌<◌, ◌≤◌, Bool, true, false, not, cond, get_or, drop, List, [], ◌∷◌, length, refl, sym, subst, ◌∙◌, arith, inl, inr}
use Rattle.std.specs.Prelude.{◌&&◌, ◌||◌, ◌==◌}
use Rattle.std.specs.List.{slice_index}
use Rattle.std.proofs.lemmas.Bool.{cases_lt}
use Rattle.atspi_base.specs.valid_names.Elements.{is_plain, may_come, are_elements}
use Rattle.atspi_base.specs.valid_names.Names.{is_path}
use Rattle.atspi_base.specs.declared.valid_names.elements.Form.TheVariants.{Path}
use Rattle.atspi_base.proofs.OfValidNames.ElementLemmas.{goes_on, goes_on-are_elements, goes_on-past, goes_on-over}
use Rattle.atspi_marshal_in_place.specs.Paths.{is_in_path, may_precede, precede, is_long_path}

both_true : (a b : Bool) → (a && b) ≡ true → (a ≡ true) × (b ≡ true)
both_true true true h = (refl, refl)
both_true true false h = absurd cc
both_true false b h = absurd cc

both_from : (a b : Bool) → a ≡ true → b ≡ true → (a && b) ≡ true
both_from true true h g = refl
both_from true false h g = absurd cc
both_from false b h g = absurd cc

-- a byte before the one behind it
abbrev At : List ℕ → ℕ → Type 0
At bytes j = may_precede (slice_index bytes j) (slice_index bytes (j + 1)) ≡ true

holds : (at n : ℕ) (bytes : List ℕ) → precede at n bytes ≡ true → (j : ℕ) → at ≤ j → j < at + n → At bytes j
holds at zero bytes h j le lt = absurd (omega (arith, le, lt))
holds at (suc n) bytes h j le lt =
    let both = both_true (precede at n bytes) (may_precede (slice_index bytes (at + n)) (slice_index bytes (at + n + 1))) h in
    elim (cases_lt j (at + n)) [
      | inl before ↦ holds at n bytes both.0 j le before
      | inr behind ↦ here (omega (arith, behind, lt)) both.1
    ]
  where
    here : at + n ≡ j → At bytes (at + n) → At bytes j
    here e = subst (λ (k : ℕ). At bytes k) e

made : (at n : ℕ) (bytes : List ℕ) → ((j : ℕ) → at ≤ j → j < at + n → At bytes j) → precede at n bytes ≡ true
made at zero bytes h = refl
made at (suc n) bytes h =
    both_from (precede at n bytes) (may_precede (slice_index bytes (at + n)) (slice_index bytes (at + n + 1))) (made at n bytes (λ j le lt. h j le (omega (arith, lt)))) (h (at + n) (omega arith) (omega arith))

-- of two parts that overlap or meet both hold, and then the whole
pub precede_both : (at from n m : ℕ) (bytes : List ℕ) → from ≤ at → m ≤ from + n → precede 0 at bytes ≡ true → precede from n bytes ≡ true → precede 0 m bytes ≡ true
precede_both at from n m bytes meet le first second =
    made 0 m bytes (λ j zero_le lt. elim (cases_lt j at) [
      | inl before ↦ holds 0 at bytes first j (omega arith) (omega (arith, before))
      | inr behind ↦ holds from n bytes second j (omega (arith, meet, behind)) (omega (arith, le, lt))
    ])

-- a part that fails
pub precede_fails : (at n m : ℕ) (bytes : List ℕ) → at + n ≤ m → precede at n bytes ≡ false → precede 0 m bytes ≡ false
precede_fails at n m bytes le h = by (precede 0 m bytes) refl
  where
    by : (t : Bool) → precede 0 m bytes ≡ t → precede 0 m bytes ≡ false
    by false e = e
    by true e = absurd (never (sym (made at n bytes (λ j from lt. holds 0 m bytes e j (omega arith) (omega (arith, le, lt)))) ∙ h))
      where
        never : true ≡ false → ⊥
        never q = cc

pub precede_decides : (at from n m : ℕ) (bytes : List ℕ) → from ≤ at → m ≡ from + n → precede 0 at bytes ≡ true → precede from n bytes ≡ precede 0 m bytes
precede_decides at from n m bytes meet e first = by (precede from n bytes) refl
  where
    by : (t : Bool) → precede from n bytes ≡ t → precede from n bytes ≡ precede 0 m bytes
    by true h = h ∙ sym (precede_both at from n m bytes meet (omega (arith, e)) first h)
    by false h = h ∙ sym (precede_fails from n m bytes (omega (arith, e)) h)

-- the walk of the rule over such bytes
chosen : (x y p : Bool) → not (x && y) ≡ true → (p || y) ≡ true → cond y (not x) (cond (not x) p p) ≡ true
chosen true true p h g = absurd cc
chosen false true p h g = refl
chosen true false true h g = refl
chosen false false true h g = refl
chosen true false false h g = absurd cc
chosen false false false h g = absurd cc

comes : (b c : ℕ) → may_precede b c ≡ true → is_in_path c ≡ true → may_come Path 47 (not (b == 47)) c ≡ true
comes b c h g = chosen (b == 47) (c == 47) (is_plain c) (both_true (is_in_path b) (not (b == 47 && c == 47)) h).1 g

ends : (b : ℕ) → may_precede b 47 ≡ true → not (b == 47) ≡ true
ends b h = by (b == 47) (both_true (is_in_path b) (not (b == 47 && 47 == 47)) h).1
  where
    by : (x : Bool) → not (x && true) ≡ true → not x ≡ true
    by true e = absurd cc
    by false e = refl

record Goes (bytes : List ℕ) : Type 0 where
  pub all : (j : ℕ) → j + 1 < length bytes → At bytes j
  pub last : may_precede (slice_index bytes (length bytes - 1)) 47 ≡ true

stands : (bytes : List ℕ) → Goes bytes → (j : ℕ) → j < length bytes → is_in_path (slice_index bytes j) ≡ true
stands bytes g j lt =
    elim (cases_lt (j + 1) (length bytes)) [
      | inl inner ↦ (both_true (is_in_path (slice_index bytes j)) _ (g.all j inner)).0
      | inr outer ↦ here (omega (arith, lt, outer)) (both_true (is_in_path (slice_index bytes (length bytes - 1))) _ g.last).0
    ]
  where
    here : length bytes - 1 ≡ j → is_in_path (slice_index bytes (length bytes - 1)) ≡ true → is_in_path (slice_index bytes j) ≡ true
    here e = subst (λ (k : ℕ). is_in_path (slice_index bytes k) ≡ true) e

walk : (bytes : List ℕ) → Goes bytes → (n i : ℕ) → i + 1 + n ≡ length bytes → goes_on Path 47 (not (get_or bytes i 0 == 47)) (drop (i + 1) bytes) ≡ true
walk bytes g zero i e =
    let last : length bytes - 1 ≡ i = omega (arith, e) in
    goes_on-over Path 47 (not (get_or bytes i 0 == 47)) bytes (i + 1) (omega (arith, e)) ∙ subst (λ (k : ℕ). not (get_or bytes k 0 == 47) ≡ true) last (ends (slice_index bytes (length bytes - 1)) g.last)
walk bytes g (suc n) i e =
    let lt : i + 1 < length bytes = omega (arith, e) in
    goes_on-past Path 47 (not (get_or bytes i 0 == 47)) bytes (i + 1) lt (comes (get_or bytes i 0) (get_or bytes (i + 1) 0) (g.all i lt) (stands bytes g (i + 1) lt)) ∙ walk bytes g n (i + 1) (omega (arith, e))

either : (a b : Bool) → b ≡ true → (a || b) ≡ true
either true b h = refl
either false b h = h

path_by : (bytes : List ℕ) → 17 ≤ length bytes → (slice_index bytes 0 == 47) ≡ true → Goes bytes → is_path bytes ≡ true
unfolding is_path
path_by [] long first g = absurd (omega (arith, long))
path_by (b ∷ bytes) long first g =
    let go : goes_on Path 47 (not (b == 47)) bytes ≡ true = walk (b ∷ bytes) g (length bytes) 0 (omega arith) in
    let from : goes_on Path 47 false bytes ≡ true = subst (λ (x : Bool). goes_on Path 47 (not x) bytes ≡ true) first go in
    both_from (b == 47) (length bytes == 0 || are_elements Path 47 bytes) first (either (length bytes == 0) (are_elements Path 47 bytes) (sym (goes_on-are_elements Path 47 bytes) ∙ from))

pub path_is : (bytes : List ℕ) → 17 ≤ length bytes → is_long_path bytes ≡ true → is_path bytes ≡ true
path_is bytes long h =
    let first = both_true (slice_index bytes 0 == 47) (may_precede (slice_index bytes (length bytes - 1)) 47 && precede 0 (length bytes - 1) bytes) h in
    let rest = both_true (may_precede (slice_index bytes (length bytes - 1)) 47) (precede 0 (length bytes - 1) bytes) first.1 in
    path_by bytes long first.0 (record {
      all = λ j lt. holds 0 (length bytes - 1) bytes rest.1 j (omega arith) (omega (arith, lt));
      last = rest.0;
    })
