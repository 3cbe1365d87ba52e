-- Reading at any number of levels is one level over reading at one level less.
use Rattle.std.proofs.Common.{◌≡◌, ℕ, zero, suc, ◌-◌, Bool, true, false, nat_lt, cond, List, [], ◌∷◌, Result, Ok, Err, ◌+◌, refl, ap, arith}
use Rattle.std.specs.Prelude.{◌==◌}
use Rattle.std.specs.Int.{w32}
use Rattle.std.proofs.Math.Dec.{eqb-suc-zero}
use Rattle.atspi_types.specs.Kinds.{Kind, number, boolean, text, path, signature, array, structure, variant, dictionary, Kinds, no_kinds, kind, kinds_of, types_in, alignment}
use Rattle.atspi_types.specs.Data.{Data}
use Rattle.atspi_types.specs.declared.fault.Fault.{Fault}
use Rattle.atspi_marshal.specs.declared.input.Bound.{Bound}
use Rattle.atspi_marshal.specs.Faults.{entry_kind, short_in}
use Rattle.atspi_types.specs.SignatureReading.{signature_in}
use Rattle.atspi_marshal.specs.Input.{Input, number_in, byte_in, slice_in, aligned}
use Rattle.atspi_marshal.specs.Reading.{◌>>=◌, bad, room_at, padding_at, short_place, short_at, inner_at, variant_with, variant_body_at, array_place, unless_deep, array_at, array_body_at, dictionary_body_at, as_dictionary, dictionary_at, nothing, single_at, first_in, deep_at, structure_at, is_structure, Reader, level, read}

bind_same : {A B : Type 0} (r : Result A Fault) (f g : A → Result B Fault) → ((x : A) → f x ≡ g x) → (r >>= f) ≡ (r >>= g)
bind_same (Ok x) f g h = h x
bind_same (Err e) f g h = refl

same_variant : (i : Input) (below other : Reader) (b : Bound) (p : ℕ) (r : Result (List Kind) Fault) → variant_with true below i b p r ≡ variant_with true other i b p r
unfolding inner_at
same_variant i below other b p (Ok []) = refl
same_variant i below other b p (Ok (k ∷ [])) = refl
same_variant i below other b p (Ok (k ∷ j ∷ ks)) = refl
same_variant i below other b p (Err f) = refl

same_body : (i : Input) (below other : Reader) (b : Bound) (p : ℕ) → variant_body_at true below i b p ≡ variant_body_at true other i b p
unfolding variant_body_at
same_body i below other b p = same_variant i below other b p (signature_in (short_in i p))

same_array : (i : Input) (below other : Reader) (k : Kind) (b : Bound) (at : ℕ) → array_at true below i k b at ≡ array_at true other i k b at
unfolding array_at
same_array i below other k b at = refl

pub same_single : (i : Input) (below other : Reader) (k : Kind) (b : Bound) (at : ℕ) → single_at true below i k b at ≡ single_at true other i k b at
unfolding single_at dictionary_at short_at
same_single i below other (number n) b at = refl
same_single i below other boolean b at = refl
same_single i below other text b at = refl
same_single i below other path b at = refl
same_single i below other signature b at = refl
same_single i below other (array k) b at = same_array i below other k b at
same_single i below other (structure ks) b at = refl
same_single i below other variant b at = bind_same (short_place i b at) (variant_body_at true below i b) (variant_body_at true other i b) (λ p. same_body i below other b p)
same_single i below other (dictionary k v) b at = refl

same_structure : (i : Input) (below other : Reader) (ks : List Kind) (b : Bound) (at : ℕ) → structure_at true below i ks b at ≡ structure_at true other i ks b at
unfolding structure_at
same_structure i below other ks b at =
    bind_same (padding_at i 8 b at) (λ p. deep_at p (single_at true below i (first_in ks) b p)) (λ p. deep_at p (single_at true other i (first_in ks) b p)) (λ p. ap (deep_at p) (same_single i below other (first_in ks) b p))

same_level : (i : Input) (below other : Reader) (k : Kind) (b : Bound) (at : ℕ) → level true below i k b at ≡ level true other i k b at
unfolding level
same_level i below other (number n) b at = same_single i below other (number n) b at
same_level i below other boolean b at = same_single i below other boolean b at
same_level i below other text b at = same_single i below other text b at
same_level i below other path b at = same_single i below other path b at
same_level i below other signature b at = same_single i below other signature b at
same_level i below other (array k) b at = same_single i below other (array k) b at
same_level i below other (structure ks) b at = same_structure i below other (types_in ks) b at
same_level i below other variant b at = same_single i below other variant b at
same_level i below other (dictionary k v) b at = same_single i below other (dictionary k v) b at

read_zero : (i : Input) (below : Reader) (k : Kind) (b : Bound) (at : ℕ) → read i 0 k b at ≡ level true below i k b at
unfolding read
read_zero i below k b at = same_level i nothing below k b at

read_suc : (i : Input) (n : ℕ) (k : Kind) (b : Bound) (at : ℕ) → read i (suc n) k b at ≡ level false (read i n) i k b at
unfolding read
read_suc i n k b at = refl

pub read_is : (i : Input) (n : ℕ) (k : Kind) (b : Bound) (at : ℕ) → read i n k b at ≡ level (n == 0) (read i (n - 1)) i k b at
read_is i zero k b at = read_zero i (read i (0 - 1)) k b at
read_is i (suc n) k b at =
    let e : suc n - 1 ≡ n = omega arith in
    let z : (suc n == 0) ≡ false = eqb-suc-zero n in
    rw (e, z) (read_suc i n k b at)

pub types_in-kinds_of : (ks : List Kind) → types_in (kinds_of ks) ≡ ks
types_in-kinds_of [] = refl
types_in-kinds_of (k ∷ ks) = ap (λ (js : List Kind). k ∷ js) (types_in-kinds_of ks)

-- a dictionary is read as an array of structs
pub dictionary_is : (deep : Bool) (below : Reader) (i : Input) (k v : Kind) (b : Bound) (at : ℕ) → dictionary_at deep below i k v b at ≡ (array_at deep below i (entry_kind k v) b at >>= as_dictionary k v)
unfolding dictionary_at array_at
dictionary_is deep below i k v b at = by_place (array_place i 8 b at) deep
  where
    by_place : (r : Result ℕ Fault) (deep : Bool) → (r >>= unless_deep deep (dictionary_body_at below i k v)) ≡ ((r >>= unless_deep deep (array_body_at below i (entry_kind k v))) >>= as_dictionary k v)
    by_place (Ok p) true = refl
    by_place (Ok p) false = refl
    by_place (Err f) deep = refl

-- what is no struct is read as such
pub level_single : (deep : Bool) (below : Reader) (i : Input) (k : Kind) (b : Bound) (at : ℕ) → is_structure k ≡ false → level deep below i k b at ≡ single_at deep below i k b at
unfolding level
level_single deep below i (number n) b at none = refl
level_single deep below i boolean b at none = refl
level_single deep below i text b at none = refl
level_single deep below i path b at none = refl
level_single deep below i signature b at none = refl
level_single deep below i (array k) b at none = refl
level_single deep below i (structure ks) b at none = absurd cc
level_single deep below i variant b at none = refl
level_single deep below i (dictionary k v) b at none = refl
