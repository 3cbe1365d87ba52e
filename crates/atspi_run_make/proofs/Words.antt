-- A letter and a number, as a text; a test of what was read of a node; and an answer that is no error.
use Rattle.std.proofs.Common.{◌≡◌, ℕ, zero, suc, ◌+◌, ◌<◌, ◌≤◌, ◌^◌, Bool, false, Some, Result, Ok, Err, List, [], ◌∷◌, ◌++◌, length, refl, sym, ap, ◌∙◌, subst, arith, true}
use Rattle.std.specs.Prelude.{◌&&◌, chars, ◌%◌, if◌then◌else◌}
use Rattle.std.specs.Fmt.{decimal}
use Rattle.std.specs.Option.{option_map}
use Rattle.std.specs.Result.{is_err, is_ok}
use Rattle.std.specs.Str.{IsAscii}
use Rattle.std.proofs.lemmas.Fmt.{decimal_by_steps, length-decimal-le, IsAscii-decimal}
use Rattle.std.proofs.lemmas.List.{length-append}
use Rattle.std.proofs.lemmas.Str.{chars-IsAscii, IsAscii-append}
use Rattle.atspi_base.specs.Text.{HasNoZero}
use Rattle.atspi_tree_model.specs.Forest.{has}
use Rattle.atspi_tree_model.specs.Row.{ShapeRow}
use Rattle.atspi_tree_model.specs.Tree.{is_shape}
use Rattle.atspi_tree_model.proofs.Found.{count-has, find-has}
use Rattle.atspi_tree_model.proofs.Lookup.{test_found}
use Rattle.atspi_tree.specs.TreeShape.{TreeShape, IsLawful, row_of}

no_zero_both : (xs ys : List ℕ) → HasNoZero xs → HasNoZero ys → HasNoZero (xs ++ ys)
no_zero_both [] ys h k = k
no_zero_both (zero ∷ xs) ys h k = absurd (omega arith)
no_zero_both (suc x ∷ xs) ys h k = ap suc (no_zero_both xs ys (omega arith) k)

digit_no_zero : (d : ℕ) → HasNoZero ((48 + d) ∷ [])
digit_no_zero d = let up : 48 + d ≡ suc (47 + d) = omega arith in rw up refl

decimal_no_zero : (n : ℕ) → n < 2 ^ 64 → HasNoZero (decimal n)
decimal_no_zero n l = decimal_by_steps (λ m ds. HasNoZero ds) (λ m h. digit_no_zero m) (λ m ds h k. no_zero_both ds ((48 + m % 10) ∷ []) k (digit_no_zero (m % 10))) n l

-- WHAT A LETTER AND A NUMBER SPELL
pub word_no_zero : (letter : List ℕ) (n : ℕ) (bytes : List ℕ) → bytes ≡ letter ++ decimal n → n < 4294967296 → HasNoZero letter → HasNoZero bytes
word_no_zero letter n bytes is l h = subst HasNoZero (sym is) (no_zero_both letter (decimal n) h (decimal_no_zero n (omega arith)))

pub word_short : (letter : List ℕ) (n : ℕ) (bytes : List ℕ) → bytes ≡ letter ++ decimal n → n < 4294967296 → length letter ≤ 1 → length bytes < 4294967296
word_short letter n bytes is l h =
    let a = ap length is in
    let b = length-append letter (decimal n) in
    let c = length-decimal-le 10 n (omega arith) (omega arith) (omega arith) in
    omega arith

pub word_chars : (letter : List ℕ) (n : ℕ) (bytes : List ℕ) → bytes ≡ letter ++ decimal n → n < 4294967296 → IsAscii letter → chars bytes ≡ letter ++ decimal n
word_chars letter n bytes is l h = chars-IsAscii bytes (subst IsAscii (sym is) (IsAscii-append letter (decimal n) h (IsAscii-decimal n (omega arith)))) ∙ is

-- a test of what was read of a node that is there
pub asked : {V : Type 0} (t : TreeShape) (n : ℕ) (g : ShapeRow → V) (v : V) (q : V → Bool) → IsLawful t → has (is_shape n) t.rows ≡ true
    → option_map g (row_of n t) ≡ Some v → has (λ row. is_shape n row && q (g row)) t.rows ≡ q v
asked {V = V} t n g v q lawful there e =
    let row = find-has (is_shape n) t.rows (count-has (is_shape n) t.rows there) in
    let z : Some (g row.0) ≡ Some v = sym (ap (option_map g) row.1) ∙ e in
    test_found (is_shape n) (λ row. q (g row)) t.rows row.0 (lawful.once n) there row.1 ∙ ap q (same (g row.0) v z)
  where
    same : (x y : V) → Some x ≡ Some y → x ≡ y
    same x y e = cc

-- what a push without an error leaves
pub pushed : {T E A : Type 0} (r : Result T E) (before with_one after : List A) → false ≡ is_err r → after ≡ (if is_ok r then with_one else before) → after ≡ with_one
pushed (Ok x) before with_one after e h = h
pushed (Err x) before with_one after e h = absurd cc
