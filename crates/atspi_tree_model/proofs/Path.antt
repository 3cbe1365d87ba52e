-- No two nodes have one path.
use Rattle.std.proofs.Common.{◌≡◌, ℕ, zero, suc, ◌+◌, ◌^◌, ◌<◌, Bool, true, false, cond, List, [], ◌∷◌, ◌++◌, refl, sym, ap, ◌∙◌, subst, arith}
use Rattle.std.specs.Prelude.{nat_lt, codes, decimal, get_or}
use Rattle.std.specs.Str.Parse.{IsNumeral, digits_value}
use Rattle.std.proofs.lemmas.Bool.{ltb-true}
use Rattle.std.proofs.lemmas.List.{append_cancel_left}
use Rattle.std.proofs.lemmas.Fmt.{decimal_is_IsNumeral}
use Rattle.atspi_tree_model.specs.Path.{base_path, path_of}

decimal_apart : (m n : ℕ) → m < 2 ^ 32 → n < 2 ^ 32 → decimal m ≡ decimal n → m ≡ n
decimal_apart m n l k e =
    sym (decimal_is_IsNumeral m (omega arith)).1 ∙ ap (digits_value 10) e ∙ (decimal_is_IsNumeral n (omega arith)).1

pub not_root : (n : ℕ) → n < 2 ^ 32 → codes "root" ≡ decimal n → ⊥
not_root n l e =
    let d : IsNumeral 10 (codes "root") = subst (IsNumeral 10) (sym e) (decimal_is_IsNumeral n (omega arith)).0 in
    absurd (omega (arith, d.1.0))

far : (xs : List ℕ) (k : ℕ) → base_path ++ xs ≡ (k + 256) ∷ [] → ⊥
far xs k e = let h : 47 ≡ k + 256 = ap (λ (l : List ℕ). get_or l 0 0) e in omega arith

from_root : (n : ℕ) (b : Bool) → nat_lt (suc n) (2 ^ 32) ≡ b
    → base_path ++ codes "root" ≡ cond b (base_path ++ decimal (suc n)) ((n + 256) ∷ []) → ⊥
from_root n true t e = not_root (suc n) (ltb-true (suc n) (2 ^ 32) t) (append_cancel_left base_path (codes "root") (decimal (suc n)) e)
from_root n false t e = far (codes "root") n e

both : (m n : ℕ) (b d : Bool) → nat_lt (suc m) (2 ^ 32) ≡ b → nat_lt (suc n) (2 ^ 32) ≡ d
    → cond b (base_path ++ decimal (suc m)) ((m + 256) ∷ []) ≡ cond d (base_path ++ decimal (suc n)) ((n + 256) ∷ []) → suc m ≡ suc n
both m n true true s t e = decimal_apart (suc m) (suc n) (ltb-true (suc m) (2 ^ 32) s) (ltb-true (suc n) (2 ^ 32) t) (append_cancel_left base_path (decimal (suc m)) (decimal (suc n)) e)
both m n true false s t e = absurd (far (decimal (suc m)) n e)
both m n false true s t e = absurd (far (decimal (suc n)) m (sym e))
both m n false false s t e = let h : m + 256 ≡ n + 256 = ap (λ (l : List ℕ). get_or l 0 0) e in omega arith

pub path_of_apart : (m n : ℕ) → path_of m ≡ path_of n → m ≡ n
unfolding path_of
path_of_apart zero zero e = refl
path_of_apart zero (suc n) e = absurd (from_root n (nat_lt (suc n) (2 ^ 32)) refl e)
path_of_apart (suc m) zero e = absurd (from_root m (nat_lt (suc m) (2 ^ 32)) refl (sym e))
path_of_apart (suc m) (suc n) e = both m n (nat_lt (suc m) (2 ^ 32)) (nat_lt (suc n) (2 ^ 32)) refl refl e
