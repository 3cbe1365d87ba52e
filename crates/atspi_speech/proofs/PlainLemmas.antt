-- Plain words: each byte is a character, and none is 0.
use Rattle.std.proofs.Common.{◌≡◌, ℕ, zero, suc, ◌+◌, ◌<◌, ◌%◌, ◌^◌, Bool, true, false, cond, List, [], ◌∷◌, ◌++◌, chars, refl, ap, arith}
use Rattle.std.specs.Prelude.{nat_lt, slice_get, slice_index, unwrap_or, codes}
use Rattle.std.specs.Fmt.{decimal}
use Rattle.std.proofs.lemmas.Bool.{ltb-true, lt-ltb}
use Rattle.std.proofs.lemmas.Str.{chars-IsAscii}
use Rattle.std.proofs.lemmas.Str.Ascii.{IsAscii-nil}
use Rattle.std.proofs.lemmas.Fmt.{decimal_by_steps}
use Rattle.atspi_base.specs.Text.{HasNoZero}
use Rattle.atspi_tables.specs.Roles.{role_names}
use Rattle.atspi_speech.specs.Words.{is_plain, spoken_role}

plain_first : (b : ℕ) (rest : Bool) → cond (nat_lt 0 b) (cond (nat_lt b 128) rest false) false ≡ true
    → (0 < b) × (b < 128) × (rest ≡ true)
plain_first b rest e = at (nat_lt 0 b) (nat_lt b 128) refl refl e
  where
    at : (x y : Bool) → nat_lt 0 b ≡ x → nat_lt b 128 ≡ y → cond x (cond y rest false) false ≡ true
        → (0 < b) × (b < 128) × (rest ≡ true)
    at true true p q e = (ltb-true 0 b p, ltb-true b 128 q, e)
    at true false p q e = absurd cc
    at false y p q e = absurd cc

plain_cons : (b : ℕ) (bs : List ℕ) → 0 < b → b < 128 → is_plain bs ≡ true → is_plain (b ∷ bs) ≡ true
plain_cons b bs l h p = rw (lt-ltb 0 b l, lt-ltb b 128 h) p

plain_ascii : (bs : List ℕ) → is_plain bs ≡ true → (i : ℕ) → slice_index bs i < 128
plain_ascii [] p i = IsAscii-nil i
plain_ascii (b ∷ bs) p zero = (plain_first b (is_plain bs) p).1
plain_ascii (b ∷ bs) p (suc i) = plain_ascii bs (plain_first b (is_plain bs) p).2 i

-- each byte is a character
pub plain_chars : (bs : List ℕ) → is_plain bs ≡ true → chars bs ≡ bs
plain_chars bs p = chars-IsAscii bs (plain_ascii bs p)

pub plain_no_zero : (bs : List ℕ) → is_plain bs ≡ true → HasNoZero bs
plain_no_zero [] p = refl
plain_no_zero (zero ∷ bs) p = let h = plain_first 0 (is_plain bs) p in absurd (omega (arith, h.0))
plain_no_zero (suc b ∷ bs) p = ap suc (plain_no_zero bs (plain_first (suc b) (is_plain bs) p).2)

plain-append : (xs ys : List ℕ) → is_plain xs ≡ true → is_plain ys ≡ true → is_plain (xs ++ ys) ≡ true
plain-append [] ys p q = q
plain-append (x ∷ xs) ys p q =
    let h = plain_first x (is_plain xs) p in plain_cons x (xs ++ ys) h.0 h.1 (plain-append xs ys h.2 q)

-- a number in decimal is plain
pub plain_decimal : (n : ℕ) → n < 2 ^ 64 → is_plain (decimal n) ≡ true
plain_decimal n l =
    decimal_by_steps (λ n ds. is_plain ds ≡ true)
    (λ n small. plain_cons (48 + n) [] (omega arith) (omega arith) refl)
    (λ n ds large p. plain-append ds ((48 + n % 10) ∷ []) p (plain_cons (48 + n % 10) [] (omega arith) (omega arith) refl))
    n l

abbrev all_plain : List (List ℕ) → Bool
all_plain [] = true
all_plain (x ∷ xs) = cond (is_plain x) (all_plain xs) false

both : (x y : Bool) → cond x y false ≡ true → (x ≡ true) × (y ≡ true)
both true y e = (refl, e)
both false y e = absurd cc

plain_at : (xs : List (List ℕ)) (i : ℕ) → all_plain xs ≡ true
    → is_plain (unwrap_or (slice_get xs i) (codes "unknown")) ≡ true
plain_at [] zero e = refl
plain_at [] (suc i) e = refl
plain_at (x ∷ xs) zero e = (both (is_plain x) (all_plain xs) e).0
plain_at (x ∷ xs) (suc i) e = plain_at xs i (both (is_plain x) (all_plain xs) e).1

names_plain : all_plain role_names ≡ true
unfolding role_names
names_plain = refl

-- and so is the spoken name of a role
pub plain_role : (role : ℕ) → is_plain (spoken_role role) ≡ true
plain_role role = plain_at role_names role names_plain
