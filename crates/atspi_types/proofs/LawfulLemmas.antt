-- Lists of lawful types, one type more.
use Rattle.std.proofs.Common.{◌≡◌, ◌↔◌, IsTrue, ℕ, zero, suc, ◌+◌, ◌<◌, List, [], ◌∷◌, ◌++◌, length, take, get_or, map, Bool, false, subst, sym, ap, arith}
use Rattle.std.specs.Prelude.{◌==◌}
use Rattle.atspi_types.specs.Kinds.{Kind, kinds_of, structure, IsLawful, AreLawful}
use Rattle.atspi_types.specs.KindView.{kind_of}
use Rattle.atspi_types.specs.declared.ty.Ty.{Ty}
use Rattle.atspi_types.proofs.KindSize.{kind_size, kind_sizes}
use Rattle.atspi_types.proofs.SpellingLemmas.{kinds_more}

-- a type of a list is smaller than the list
pub kind_size_in : (items : List Ty) (ks : List Kind) (i : ℕ) (ty : Ty) → map kind_of items ≡ ks → i < length items → ty ≡ get_or items i ty → kind_size (kind_of ty) < kind_sizes (kinds_of ks)
kind_size_in items ks i ty e lt is = let P : List Kind → Type 0 = λ ls. kind_size (kind_of ty) < kind_sizes (kinds_of ls) in subst P e (by items i lt is)
  where
    by : (xs : List Ty) (i : ℕ) → i < length xs → ty ≡ get_or xs i ty → kind_size (kind_of ty) < kind_sizes (kinds_of (map kind_of xs))
    by [] i lt is = absurd (omega arith)
    by (x ∷ xs) zero lt is = let same : ty ≡ x = cc in omega (arith, ap (λ (t : Ty). kind_size (kind_of t)) same)
    by (x ∷ xs) (suc i) lt is = let below = by xs i (omega arith) is in omega (arith, below)

lawful_push : (ks : List Kind) (k : Kind) → AreLawful (kinds_of ks) → IsLawful k → AreLawful (kinds_of (ks ++ k ∷ []))
lawful_push [] k all one = (one, tt)
lawful_push (x ∷ ks) k all one = (all.0, lawful_push ks k all.1 one)

-- the first types, and one more
pub lawful_more : (items : List Ty) (i : ℕ) (ty : Ty) → i < length items → ty ≡ get_or items i ty → AreLawful (kinds_of (map kind_of (take i items))) → IsLawful (kind_of ty) → AreLawful (kinds_of (map kind_of (take (i + 1) items)))
lawful_more items i ty lt is all one = rw (kinds_more items i ty lt is) (lawful_push (map kind_of (take i items)) (kind_of ty) all one)

-- one of them
pub lawful_at : (items : List Ty) (ks : List Kind) (i : ℕ) (ty : Ty) → map kind_of items ≡ ks → i < length items → ty ≡ get_or items i ty → AreLawful (kinds_of ks) → IsLawful (kind_of ty)
lawful_at items ks i ty e lt is all = by items i lt is (let P : List Kind → Type 0 = λ ls. AreLawful (kinds_of ls) in subst P (sym e) all)
  where
    by : (xs : List Ty) (i : ℕ) → i < length xs → ty ≡ get_or xs i ty → AreLawful (kinds_of (map kind_of xs)) → IsLawful (kind_of ty)
    by [] i lt is all = absurd (omega arith)
    by (x ∷ xs) zero lt is all = let same : x ≡ ty = cc in let P : Ty → Type 0 = λ t. IsLawful (kind_of t) in subst P same all.0
    by (x ∷ xs) (suc i) lt is all = by xs i (omega arith) is all.1

-- a struct that is not empty is lawful with its fields
pub lawful_struct : (k : Kind) (ks : List Kind) (r : Bool) → k ≡ structure (kinds_of ks) → (length ks == 0) ≡ false → (IsTrue r ↔ AreLawful (kinds_of ks)) → (IsTrue r ↔ IsLawful k)
lawful_struct k [] r e full all = absurd cc
lawful_struct k (x ∷ ks) r e full all = rw e all
