-- When types are the same, by one level of each.
use Rattle.std.proofs.Common.{◌≡◌, ◌↔◌, IsTrue, ℕ, zero, suc, ◌<◌, List, [], ◌∷◌, ◌++◌, length, get_or, map, Bool, refl, sym, ap, ◌∙◌, arith, length-append}
use Rattle.atspi_types.specs.Kinds.{Kind, kinds_of, types_in, number, boolean, text, path, signature, array, structure, variant, dictionary}
use Rattle.atspi_types.specs.Signatures.{type_bytes, signature_bytes}
use Rattle.atspi_types.specs.inner.Shapes.{IsShapeOf}
use Rattle.atspi_types.specs.declared.ty.shape.Shape.{Shape}
use Rattle.atspi_types.specs.declared.ty.shape.Shape.TheVariants.{Code, Array, Struct, Dict}
use Rattle.atspi_types.specs.KindView.{kind_of, kinds_in}
use Rattle.atspi_types.specs.declared.ty.Ty.{Ty}
use Rattle.atspi_types.proofs.DataLemmas.{types_in-kinds_of}

pub kinds_of-once : (ks ls : List Kind) → kinds_of ks ≡ kinds_of ls → ks ≡ ls
kinds_of-once ks ls e = sym (types_in-kinds_of ks) ∙ ap types_in e ∙ types_in-kinds_of ls

-- structs are the same where their fields are
pub same_structs : (k l : Kind) (ks ls : List Kind) (r : Bool) → k ≡ structure (kinds_of ks) → l ≡ structure (kinds_of ls) → (IsTrue r ↔ (ks ≡ ls)) → (IsTrue r ↔ (k ≡ l))
same_structs k l ks ls r e f h = (λ t. e ∙ ap (λ (ms : List Kind). structure (kinds_of ms)) (h.0 t) ∙ sym f, λ s. h.1 (kinds_of-once ks ls (let same : structure (kinds_of ks) ≡ structure (kinds_of ls) = cc in cc)))

same_at : (xs ys : List Ty) (i : ℕ) (x y : Ty) → i < length xs → i < length ys → x ≡ get_or xs i x → y ≡ get_or ys i y → map kind_of xs ≡ map kind_of ys → kind_of x ≡ kind_of y
same_at [] ys i x y lt lt' is is' e = absurd (omega arith)
same_at (a ∷ xs) [] i x y lt lt' is is' e = absurd (omega arith)
same_at (a ∷ xs) (b ∷ ys) zero x y lt lt' is is' e = let p : x ≡ a = cc in let q : y ≡ b = cc in let s : kind_of a ≡ kind_of b = cc in ap kind_of p ∙ s ∙ sym (ap kind_of q)
same_at (a ∷ xs) (b ∷ ys) (suc i) x y lt lt' is is' e = same_at xs ys i x y (omega arith) (omega arith) is is' (let rest : map kind_of xs ≡ map kind_of ys = cc in rest)

-- lists with two types that differ
pub other_at : (xs ys : List Ty) (ks ls : List Kind) (i : ℕ) (x y : Ty) → map kind_of xs ≡ ks → map kind_of ys ≡ ls → i < length xs → i < length ys → x ≡ get_or xs i x → y ≡ get_or ys i y → (kind_of x ≡ kind_of y → ⊥) → ks ≡ ls → ⊥
other_at xs ys ks ls i x y e f lt lt' is is' differ same = differ (same_at xs ys i x y lt lt' is is' (e ∙ same ∙ sym f))

spelled : (k : Kind) → type_bytes k ≡ [] → ⊥
spelled (number n) e = cc
spelled boolean e = cc
spelled text e = cc
spelled path e = cc
spelled signature e = cc
spelled (array k) e = cc
spelled (structure ks) e = cc
spelled variant e = cc
spelled (dictionary k v) e = cc

-- a type of one byte is no container
pub code_is_no_container : (s : Shape) (k l : Kind) (c : ℕ) → type_bytes k ≡ c ∷ [] → ((x : ℕ) → s ≡ Code x → ⊥) → IsShapeOf s l → k ≡ l → ⊥
code_is_no_container (Code x) k l c code other is same = other x refl
code_is_no_container (Array t) k l c code other is same =
    let e : 97 ∷ type_bytes (kind_of t.now) ≡ c ∷ [] = ap type_bytes (sym (same ∙ is)) ∙ code in spelled (kind_of t.now) (cc)
code_is_no_container (Struct ts) k l c code other is same =
    let e : 40 ∷ (signature_bytes (kinds_of (kinds_in ts.now)) ++ 41 ∷ []) ≡ c ∷ [] = ap type_bytes (sym (same ∙ is)) ∙ code in
    omega (arith, ap length e, length-append (signature_bytes (kinds_of (kinds_in ts.now))) (41 ∷ []))
code_is_no_container (Dict t u) k l c code other is same =
    let e : 97 ∷ 123 ∷ (type_bytes (kind_of t.now) ++ (type_bytes (kind_of u.now) ++ 125 ∷ [])) ≡ c ∷ [] = ap type_bytes (sym (same ∙ is)) ∙ code in cc
