-- The first place in a list at which a test passes.
use Rattle.std.proofs.Common.{◌≡◌, ℕ, suc, ◌+◌, ◌<◌, Bool, true, false, cond, List, [], ◌∷◌, length, Option, Some, None, map, refl, sym, ◌∙◌, ap, subst, arith}
use Rattle.std.specs.Prelude.{position, slice_get, nat_lt, IfSome}
use Rattle.std.specs.List.{position_or_len}
use Rattle.std.specs.Str.{bytes_eq}
use mathlib.Core.Bool.{not}
use Rattle.std.proofs.lemmas.Bool.{ltb-true}
use Rattle.std.proofs.lemmas.Slice.Eq.{bytes_eq-Decides}

same_place : {X Y : Type 0} (p : Y → Bool) (f : X → Y) (xs : List X) → position_or_len p (map f xs) ≡ position_or_len (λ x. p (f x)) xs
same_place p f [] = refl
same_place p f (x ∷ xs) = rw (same_place p f xs) refl

same_length : {X Y : Type 0} (f : X → Y) (xs : List X) → length (map f xs) ≡ length xs
same_length f [] = refl
same_length f (x ∷ xs) = ap suc (same_length f xs)

-- the place in a list of images
pub position-map : {X Y : Type 0} (p : Y → Bool) (f : X → Y) (xs : List X) → position p (map f xs) ≡ position (λ x. p (f x)) xs
position-map p f xs = rw (same_place p f xs, same_length f xs) refl

-- what stands at this place passes
abbrev PassesAt : {X : Type 0} → (X → Bool) → List X → ℕ → Type 0
PassesAt {X} p xs k = (x : X) × (slice_get xs k ≡ Some x) × (p x ≡ true)

later : {X : Type 0} (p : X → Bool) (x : X) (xs : List X) (k j : ℕ) → j ≡ suc k → PassesAt p xs k → PassesAt p (x ∷ xs) j
later p x xs k j e h = subst (PassesAt p (x ∷ xs)) (sym e) h

passes_cons : {X : Type 0} (p : X → Bool) (x : X) (xs : List X) (k : ℕ) (b : Bool) → p x ≡ b → cond (not b) (1 + k) 0 < suc (length xs) → (k < length xs → PassesAt p xs k)
    → PassesAt p (x ∷ xs) (cond (not b) (1 + k) 0)
passes_cons p x xs k true e l h = (x, refl, e)
passes_cons p x xs k false e l h = later p x xs k (1 + k) (omega arith) (h (omega arith))

passes : {X : Type 0} (p : X → Bool) (xs : List X) → position_or_len p xs < length xs → PassesAt p xs (position_or_len p xs)
passes p [] l = absurd (omega arith)
passes p (x ∷ xs) l = passes_cons p x xs (position_or_len p xs) (p x) refl l (passes p xs)

-- what is found passes
pub position_passes : {X : Type 0} (p : X → Bool) (xs : List X) → IfSome (position p xs) (PassesAt p xs)
position_passes p xs = at (nat_lt (position_or_len p xs) (length xs)) refl
  where
    at : (b : Bool) → nat_lt (position_or_len p xs) (length xs) ≡ b → IfSome (cond b (Some (position_or_len p xs)) None) (PassesAt p xs)
    at true e = passes p xs (ltb-true _ _ e)
    at false e = tt

-- a place that is found is one of the list
pub position_below : {X : Type 0} (p : X → Bool) (xs : List X) → IfSome (position p xs) (λ i. i < length xs)
position_below p xs = at (nat_lt (position_or_len p xs) (length xs)) refl
  where
    at : (b : Bool) → nat_lt (position_or_len p xs) (length xs) ≡ b → IfSome (cond b (Some (position_or_len p xs)) None) (λ i. i < length xs)
    at true e = ltb-true _ _ e
    at false e = tt

-- the name that is found is this one
pub named_at : (name : List ℕ) (names : List (List ℕ)) → IfSome (position (λ n. bytes_eq n name) names) (λ i. slice_get names i ≡ Some name)
named_at name names = at (position (λ n. bytes_eq n name) names) (position_passes (λ n. bytes_eq n name) names)
  where
    at : (r : Option ℕ) → IfSome r (PassesAt (λ n. bytes_eq n name) names) → IfSome r (λ i. slice_get names i ≡ Some name)
    at None h = tt
    at (Some i) h = h.1 ∙ ap Some ((bytes_eq-Decides h.0 name).0 h.2)

-- a place where a table has a name is one of the table
pub named_below : {X : Type 0} (f : X → List ℕ) (name : List ℕ) (names : List X) → IfSome (position (λ n. bytes_eq n name) (map f names)) (λ i. i < length names)
named_below f name names = subst (λ k. IfSome (position (λ n. bytes_eq n name) (map f names)) (λ i. i < k)) (same_length f names) (position_below (λ n. bytes_eq n name) (map f names))
