-- Signed numbers as words.
use Rattle.std.proofs.Common.{◌≡◌, ℕ, suc, ◌<◌, ◌≤◌, ◌^◌, ℤ, pos, negsuc, FitsSigned, List, ◌∷◌, Option, None, Some, sym, ap, subst, ◌∙◌, arith, unsigned_abs, true, get_or}
use Rattle.std.specs.Char.{is_ascii_digit}
use Rattle.std.proofs.lemmas.Bool.{false≢true}
use borrow.Author.Differences.{fits_in}
use Rattle.std.specs.Prelude.{MatchOption}
use Rattle.std.specs.Fmt.{decimal, signed_decimal}
use Rattle.std.specs.Int.{w32}
use Rattle.std.proofs.lemmas.Fmt.{signed_decimal_injective}
use Rattle.atspi_script_lines.specs.inner.Reading.{HasNoSpace}
use Rattle.atspi_script_lines.proofs.NumberLemmas.{decimal_no_space, digits_begin, number_once}
use Rattle.atspi_run_hit.specs.inner.Reads.{ReadsBelow, ReadsFrom, ReadsSigned}

-- numbers of 32 bits
pub fits_pos : (n : ℕ) → n < 2147483648 → FitsSigned w32 (pos n)
fits_pos n h = fits_in w32 (pos n) (omega arith)

pub fits_neg : (k : ℕ) → k < 2147483648 → FitsSigned w32 (negsuc k)
fits_neg k h = fits_in w32 (negsuc k) (omega arith)

pub pos_fits : (n : ℕ) → FitsSigned w32 (pos n) → n < 2147483648
pos_fits n f = omega (arith, f.sfits)

pub neg_fits : (k : ℕ) → FitsSigned w32 (negsuc k) → k < 2147483648
neg_fits k f = omega (arith, f.sfits)

-- a small number is one of them
pub small_fits : (z : ℤ) → unsigned_abs z ≤ 1000000 → FitsSigned w32 z
small_fits (pos n) h = fits_pos n (omega (arith, h))
small_fits (negsuc k) h = fits_neg k (omega (arith, h))

-- no sign stands before a number that is not negative
no_minus : (n k : ℕ) → n < 2 ^ 32 → k < 2147483648 → decimal n ≡ 45 ∷ decimal (suc k) → ⊥
no_minus n k p q e = let same : pos n ≡ negsuc k = signed_decimal_injective (pos n) (negsuc k) (omega arith) (omega arith) e in cc

pub no_space : (z : ℤ) → FitsSigned w32 z → HasNoSpace (signed_decimal z)
no_space (pos n) f = decimal_no_space n (omega (arith, pos_fits n f))
no_space (negsuc k) f = (λ e. omega (arith, e), decimal_no_space (suc k) (omega (arith, neg_fits k f)))

pub signed_once : (y z : ℤ) → FitsSigned w32 y → FitsSigned w32 z → signed_decimal y ≡ signed_decimal z → y ≡ z
signed_once (pos m) (pos n) f g e = ap pos (number_once m n (omega (arith, pos_fits m f)) (omega (arith, pos_fits n g)) e)
signed_once (pos m) (negsuc k) f g e = absurd (no_minus m k (omega (arith, pos_fits m f)) (neg_fits k g) e)
signed_once (negsuc k) (pos n) f g e = absurd (no_minus n k (omega (arith, pos_fits n g)) (neg_fits k f) (sym e))
signed_once (negsuc j) (negsuc k) f g e = signed_decimal_injective (negsuc j) (negsuc k) (omega (arith, neg_fits j f)) (omega (arith, neg_fits k g)) e

-- READING: digits behind a minus, and digits alone
no_sign : (n : ℕ) (ds : List ℕ) → n < 2 ^ 32 → decimal n ≡ 45 ∷ ds → ⊥
no_sign n ds small e = false≢true (subst (λ w. is_ascii_digit (get_or w 0 0) ≡ true) e (digits_begin n small))

pub none_below : (digits : List ℕ) → ((n : ℕ) → n < 2 ^ 32 → digits ≡ decimal n → ⊥) → (k : ℕ) → k < 2147483648 → digits ≡ decimal (suc k) → ⊥
none_below digits none k small e = none (suc k) (omega (arith, small)) e

pub some_below : (digits : List ℕ) (size : ℕ) (found : Option ℤ) → (size < 2 ^ 32) × (digits ≡ decimal size) → MatchOption found ((k : ℕ) → k < 2147483648 → size ≡ suc k → ⊥) (λ z. (k : ℕ) × (k < 2147483648) × (size ≡ suc k) × (z ≡ negsuc k))
    → ReadsBelow found digits
some_below digits size None is h = λ k small e. h k small (number_once size (suc k) is.0 (omega (arith, small)) (sym is.1 ∙ e))
some_below digits size (Some z) is h = (h.0, h.1, is.1 ∙ ap decimal h.2, h.3)

pub none_from : (word : List ℕ) → ((n : ℕ) → n < 2 ^ 32 → word ≡ decimal n → ⊥) → (n : ℕ) → n < 2147483648 → word ≡ decimal n → ⊥
none_from word none n small e = none n (omega (arith, small)) e

pub some_from : (word : List ℕ) (size : ℕ) (found : Option ℤ) → (size < 2 ^ 32) × (word ≡ decimal size) → MatchOption found (size < 2147483648 → ⊥) (λ z. (size < 2147483648) × (z ≡ pos size)) → ReadsFrom found word
some_from word size None is h = λ n small e. h (subst (λ m. m < 2147483648) (number_once n size (omega (arith, small)) is.0 (sym e ∙ is.1)) small)
some_from word size (Some z) is h = (size, h.0, is.1, h.1)

pub signed_below : (word digits : List ℕ) (found : Option ℤ) → word ≡ 45 ∷ digits → ReadsBelow found digits → ReadsSigned found word
signed_below word digits None w h = none
  where
    none : (z : ℤ) → FitsSigned w32 z → word ≡ signed_decimal z → ⊥
    none (pos n) f e = no_sign n digits (omega (arith, pos_fits n f)) (sym e ∙ w)
    none (negsuc k) f e = let same : digits ≡ decimal (suc k) = cc in h k (neg_fits k f) same
signed_below word digits (Some z) w h = (subst (λ x. FitsSigned w32 x) (sym h.3) (fits_neg h.0 h.1), w ∙ ap (λ ds. 45 ∷ ds) h.2 ∙ ap signed_decimal (sym h.3))

pub signed_from : (word : List ℕ) (found : Option ℤ) → ((rest : List ℕ) → word ≡ 45 ∷ rest → ⊥) → ReadsFrom found word → ReadsSigned found word
signed_from word None apart h = none
  where
    none : (z : ℤ) → FitsSigned w32 z → word ≡ signed_decimal z → ⊥
    none (pos n) f e = h n (pos_fits n f) e
    none (negsuc k) f e = apart (decimal (suc k)) e
signed_from word (Some z) apart h = (subst (λ x. FitsSigned w32 x) (sym h.3) (fits_pos h.0 h.1), h.2 ∙ ap signed_decimal (sym h.3))
