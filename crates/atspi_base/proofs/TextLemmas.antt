-- What `text_in` gives, by what is known of the bytes.
use Rattle.std.proofs.Common.{◌≡◌, ℕ, zero, suc, ◌<◌, ◌≤◌, List, [], ◌∷◌, length, Ok, Err, IsUtf8, chars, encode_utf8_all, Bool, true, false, cond, ltb, refl, sym, ap, ◌∙◌, arith}
use Rattle.std.proofs.lemmas.Bool.{lt-ltb, le-ltb, ltb-false}
use Rattle.std.proofs.lemmas.Str.{utf8_valid_len-IsUtf8, is_utf8-from_IsUtf8, IsUtf8-from_is_utf8, chars-encodes, length-le-encodes}
use Rattle.std.specs.Str.{is_utf8, all_scalars}
use Rattle.std.specs.Str.Lossy.{utf8_valid_len}
use Rattle.atspi_base.specs.Text.{bytes_before_zero, HasNoZero}
use Rattle.atspi_base.specs.ReadsText.{text_in}
use Rattle.atspi_base.specs.declared.text.TextFault.TheVariants.{Zero, Utf8}

pub before_le : (bytes : List ℕ) → bytes_before_zero bytes ≤ length bytes
before_le [] = omega arith
before_le (zero ∷ bytes) = omega arith
before_le (suc b ∷ bytes) = omega (arith, before_le bytes)

pub zero_comes : (bytes : List ℕ) (n : ℕ) → IsUtf8 bytes → n ≡ bytes_before_zero bytes → n < length bytes → text_in bytes ≡ Err (Zero n)
unfolding text_in
zero_comes bytes n u e lt = rw (e, utf8_valid_len-IsUtf8 bytes u, lt-ltb (bytes_before_zero bytes) (length bytes) (omega (arith, e, lt))) refl

pub has_no_zero : (bytes : List ℕ) (n : ℕ) → n ≡ bytes_before_zero bytes → length bytes ≤ n → HasNoZero bytes
has_no_zero bytes n e le = omega (arith, before_le bytes, e)

pub whole : (bytes : List ℕ) (n : ℕ) → IsUtf8 bytes → n ≡ bytes_before_zero bytes → length bytes ≤ n → text_in bytes ≡ Ok (chars bytes)
unfolding text_in
whole bytes n u e le =
    rw (utf8_valid_len-IsUtf8 bytes u, le-ltb (bytes_before_zero bytes) (length bytes) (omega (arith, e, le)), is_utf8-from_IsUtf8 bytes u) refl

never : (bytes : List ℕ) → (IsUtf8 bytes → ⊥) → (t : Bool) → is_utf8 bytes ≡ t → t ≡ false
never bytes refuted true e = absurd (refuted (IsUtf8-from_is_utf8 bytes e))
never bytes refuted false e = refl

pub not_text : (bytes : List ℕ) (n v : ℕ) → (IsUtf8 bytes → ⊥) → n ≡ bytes_before_zero bytes → v ≡ utf8_valid_len bytes → v ≤ n → text_in bytes ≡ Err (Utf8 v)
unfolding text_in
not_text bytes n v refuted e f le =
    let is : is_utf8 bytes ≡ false = never bytes refuted (is_utf8 bytes) refl in
    rw (f, le-ltb (bytes_before_zero bytes) (utf8_valid_len bytes) (omega (arith, e, f, le)), is) refl

-- what is read as a text is spelled so
pub text_is : (bytes cs : List ℕ) → text_in bytes ≡ Ok cs → (encode_utf8_all cs ≡ bytes) × (all_scalars cs ≡ true) × HasNoZero bytes
unfolding text_in
text_is bytes cs e = by_zero (ltb (bytes_before_zero bytes) (utf8_valid_len bytes)) refl e
  where
    by_utf8 : (t : Bool) → is_utf8 bytes ≡ t → utf8_valid_len bytes ≤ bytes_before_zero bytes → cond t (Ok (chars bytes)) (Err (Utf8 (utf8_valid_len bytes))) ≡ Ok cs → (encode_utf8_all cs ≡ bytes) × (all_scalars cs ≡ true) × HasNoZero bytes
    by_utf8 false t le e = absurd cc
    by_utf8 true t le e =
        let u = IsUtf8-from_is_utf8 bytes t in
        let is : chars bytes ≡ cs = cc in
        let chosen : u.0 ≡ cs = sym (chars-encodes u.0 u.1.0) ∙ ap chars u.1.1 ∙ is in
        (ap encode_utf8_all (sym chosen) ∙ u.1.1, ap all_scalars (sym chosen) ∙ u.1.0, omega (arith, le, before_le bytes, utf8_valid_len-IsUtf8 bytes u))

    by_zero : (t : Bool) → ltb (bytes_before_zero bytes) (utf8_valid_len bytes) ≡ t → cond t (Err (Zero (bytes_before_zero bytes))) (cond (is_utf8 bytes) (Ok (chars bytes)) (Err (Utf8 (utf8_valid_len bytes)))) ≡ Ok cs → (encode_utf8_all cs ≡ bytes) × (all_scalars cs ≡ true) × HasNoZero bytes
    by_zero true t e = absurd cc
    by_zero false t e = by_utf8 (is_utf8 bytes) refl (ltb-false _ _ t) e

-- the characters of UTF-8 spell it again
pub encodes_again : (bytes : List ℕ) → IsUtf8 bytes → encode_utf8_all (chars bytes) ≡ bytes
encodes_again bytes u = ap encode_utf8_all (ap chars (sym u.1.1) ∙ chars-encodes u.0 u.1.0) ∙ u.1.1

-- UTF-8 has no more characters than bytes
pub length-chars-le : (bytes : List ℕ) → IsUtf8 bytes → length (chars bytes) ≤ length bytes
length-chars-le bytes u =
    let encoded : length (chars bytes) ≤ length (encode_utf8_all (chars bytes)) = length-le-encodes (chars bytes) in
    omega (arith, encoded, ap length (encodes_again bytes u))
