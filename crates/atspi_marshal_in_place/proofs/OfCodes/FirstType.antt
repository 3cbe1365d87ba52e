-- Where the first of some types ends.
use Rattle.std.proofs.Common.{◌≡◌, ℕ, suc, ◌+◌, List, [], ◌∷◌, ◌++◌, length, refl, ap, append_assoc, length-append, arith}
use Rattle.std.proofs.Math.Dec.{eqb-suc-zero}
use Rattle.atspi_types.specs.Kinds.{Num, byte, i16, u16, i32, u32, i64, u64, double, Kind, Kinds, number, boolean, text, path, signature, array, structure, variant, dictionary, no_kinds, kind}
use Rattle.atspi_types.specs.Signatures.{type_bytes, signature_bytes, number_code}
use Rattle.atspi_marshal_in_place.specs.codes.Codes.{first_end}

-- within brackets a number has one code, and is the first type outside
number_over : (n : ℕ) (m : Num) (rest : List ℕ) → first_end (suc n) (number_code m ∷ rest) ≡ suc (first_end (suc n) rest)
number_over n byte rest = refl
number_over n i16 rest = refl
number_over n u16 rest = refl
number_over n i32 rest = refl
number_over n u32 rest = refl
number_over n i64 rest = refl
number_over n u64 rest = refl
number_over n double rest = refl

number_first : (m : Num) (rest : List ℕ) → first_end 0 (number_code m ∷ rest) ≡ 1
number_first byte rest = refl
number_first i16 rest = refl
number_first u16 rest = refl
number_first i32 rest = refl
number_first u32 rest = refl
number_first i64 rest = refl
number_first u64 rest = refl
number_first double rest = refl

-- a closer within brackets
closing : (n : ℕ) (rest : List ℕ) → first_end (suc (suc n)) (41 ∷ rest) ≡ suc (first_end (suc n) rest)
closing n rest = rw (eqb-suc-zero n) refl

closing_entry : (n : ℕ) (rest : List ℕ) → first_end (suc (suc n)) (125 ∷ rest) ≡ suc (first_end (suc n) rest)
closing_entry n rest = rw (eqb-suc-zero n) refl

-- codes in front of others
in_struct : (ks : Kinds) (rest : List ℕ) → ((signature_bytes ks ++ 41 ∷ []) ++ rest) ≡ (signature_bytes ks ++ 41 ∷ rest)
in_struct ks rest = simp append_assoc refl

in_entry : (k v : Kind) (rest : List ℕ) → ((type_bytes k ++ (type_bytes v ++ 125 ∷ [])) ++ rest) ≡ (type_bytes k ++ (type_bytes v ++ 125 ∷ rest))
in_entry k v rest = simp append_assoc refl

in_list : (k : Kind) (ks : Kinds) (rest : List ℕ) → ((type_bytes k ++ signature_bytes ks) ++ rest) ≡ (type_bytes k ++ (signature_bytes ks ++ rest))
in_list k ks rest = simp append_assoc refl

-- within brackets types are passed over
mutual
  over : (n : ℕ) (k : Kind) (rest : List ℕ) → first_end (suc n) (type_bytes k ++ rest) ≡ length (type_bytes k) + first_end (suc n) rest
  over n (number m) rest = omega (arith, number_over n m rest)
  over n boolean rest = omega arith
  over n text rest = omega arith
  over n path rest = omega arith
  over n signature rest = omega arith
  over n (array k) rest = omega (arith, over n k rest)
  over n (structure ks) rest = omega (arith, overs (suc n) ks (41 ∷ rest), ap (first_end (suc (suc n))) (in_struct ks rest), closing n rest, length-append (signature_bytes ks) (41 ∷ []))
  over n variant rest = omega arith
  over n (dictionary k v) rest =
      omega (arith, over (suc n) k (type_bytes v ++ 125 ∷ rest), over (suc n) v (125 ∷ rest), ap (first_end (suc (suc n))) (in_entry k v rest), closing_entry n rest, length-append (type_bytes k) (type_bytes v ++ 125 ∷ []), length-append (type_bytes v) (125 ∷ []))

  overs : (n : ℕ) (ks : Kinds) (rest : List ℕ) → first_end (suc n) (signature_bytes ks ++ rest) ≡ length (signature_bytes ks) + first_end (suc n) rest
  overs n no_kinds rest = omega arith
  overs n (kind k ks) rest = omega (arith, over n k (signature_bytes ks ++ rest), overs n ks rest, ap (first_end (suc n)) (in_list k ks rest), length-append (type_bytes k) (signature_bytes ks))

-- the first type ends where its spelling does
pub first_is : (k : Kind) (rest : List ℕ) → first_end 0 (type_bytes k ++ rest) ≡ length (type_bytes k)
first_is (number m) rest = number_first m rest
first_is boolean rest = refl
first_is text rest = refl
first_is path rest = refl
first_is signature rest = refl
first_is (array k) rest = omega (arith, first_is k rest)
first_is (structure ks) rest = omega (arith, overs 0 ks (41 ∷ rest), ap (first_end 1) (in_struct ks rest), length-append (signature_bytes ks) (41 ∷ []))
first_is variant rest = refl
first_is (dictionary k v) rest =
    omega (arith, over 0 k (type_bytes v ++ 125 ∷ rest), over 0 v (125 ∷ rest), ap (first_end 1) (in_entry k v rest), length-append (type_bytes k) (type_bytes v ++ 125 ∷ []), length-append (type_bytes v) (125 ∷ []))
