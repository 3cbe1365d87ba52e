-- The spellings of types between quotes.
use Rattle.std.proofs.Common.{◌≡◌, ℕ, List, [], ◌∷◌, ◌++◌, refl, ap, ◌∙◌}
use Rattle.std.proofs.lemmas.Grind.{flat_map-append}
use Rattle.std.specs.List.{flat_map}
use Rattle.atspi_base.specs.Quoted.{escaped}
use Rattle.atspi_types.specs.Kinds.{Num, byte, i16, u16, i32, u32, i64, u64, double, Kind, Kinds, number, boolean, text, path, signature, array, structure, variant, dictionary, no_kinds, kind}
use Rattle.atspi_types.specs.Signatures.{number_code, type_bytes, signature_bytes}

-- no code is escaped between quotes
plain_number : (n : Num) → flat_map escaped (number_code n ∷ []) ≡ number_code n ∷ []
plain_number byte = refl
plain_number i16 = refl
plain_number u16 = refl
plain_number i32 = refl
plain_number u32 = refl
plain_number i64 = refl
plain_number u64 = refl
plain_number double = refl

both : (xs ys : List ℕ) → flat_map escaped xs ≡ xs → flat_map escaped ys ≡ ys → flat_map escaped (xs ++ ys) ≡ xs ++ ys
both xs ys p q = flat_map-append escaped xs ys ∙ ap (λ w. w ++ flat_map escaped ys) p ∙ ap (λ w. xs ++ w) q

mutual
  plain_type : (k : Kind) → flat_map escaped (type_bytes k) ≡ type_bytes k
  plain_type (number n) = plain_number n
  plain_type boolean = refl
  plain_type text = refl
  plain_type path = refl
  plain_type signature = refl
  plain_type (array k) = ap (λ w. 97 ∷ w) (plain_type k)
  plain_type (structure ks) = ap (λ w. 40 ∷ w) (both (signature_bytes ks) (41 ∷ []) (plain_types ks) refl)
  plain_type variant = refl
  plain_type (dictionary k v) = ap (λ w. 97 ∷ 123 ∷ w) (both (type_bytes k) (type_bytes v ++ 125 ∷ []) (plain_type k) (both (type_bytes v) (125 ∷ []) (plain_type v) refl))

  pub plain_types : (ks : Kinds) → flat_map escaped (signature_bytes ks) ≡ signature_bytes ks
  plain_types no_kinds = refl
  plain_types (kind k ks) = both (type_bytes k) (signature_bytes ks) (plain_type k) (plain_types ks)
