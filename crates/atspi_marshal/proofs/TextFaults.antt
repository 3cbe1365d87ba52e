-- Where bytes are no text: at a zero byte, or where the longest front that is UTF-8 ends.
use Rattle.std.proofs.Common.{◌≡◌, ℕ, zero, suc, ◌+◌, ◌-◌, ◌<◌, ◌≤◌, Bool, true, false, cond, ltb, List, [], ◌∷◌, ◌++◌, length, get_or, take, drop, Result, Ok, Err, IsUtf8, chars, refl, sym, ap, subst, ◌∙◌, arith, inl, inr, ◌⊎◌}
use Rattle.std.specs.Prelude.{◌≢◌}
use Rattle.std.specs.Str.{is_utf8}
use Rattle.std.specs.Str.Lossy.{valid_len_up_to, utf8_valid_len}
use Rattle.std.proofs.lemmas.Bool.{ltb-false, ltb-true, lt-ltb, le-ltb, cases_lt}
use Rattle.std.proofs.lemmas.List.{length-take, take_all}
use Rattle.std.proofs.lemmas.Str.{utf8_valid_len-IsUtf8, utf8_valid_len_le, is_utf8-from_IsUtf8, IsUtf8-from_is_utf8, IsUtf8-append, IsUtf8-from_ascii, IsUtf8-nil}
use Rattle.std.specs.Str.{IsAscii}
use Rattle.atspi_base.specs.Text.{bytes_before_zero}
use Rattle.atspi_base.specs.ReadsText.{text_in}
use Rattle.atspi_base.specs.declared.text.TextFault.{TextFault}
use Rattle.atspi_base.specs.declared.text.TextFault.TheVariants.{Zero, Utf8}
use Rattle.atspi_base.specs.declared.text.TextFault.TheVariants.{NoMemory as TextNoMemory}

-- zero bytes

pub zero_at : (bytes : List ℕ) → bytes_before_zero bytes < length bytes → get_or bytes (bytes_before_zero bytes) 0 ≡ 0
zero_at [] lt = refl
zero_at (zero ∷ bytes) lt = refl
zero_at (suc b ∷ bytes) lt = zero_at bytes (omega arith)

pub zero_before : (bytes : List ℕ) (j : ℕ) → j < length bytes → get_or bytes j 0 ≡ 0 → bytes_before_zero bytes ≤ j
zero_before [] j lt z = omega arith
zero_before (zero ∷ bytes) j lt z = omega arith
zero_before (suc b ∷ bytes) zero lt z = absurd (omega (arith, z))
zero_before (suc b ∷ bytes) (suc j) lt z = omega (arith, zero_before bytes j (omega arith) z)

-- the longest front that is UTF-8

up_to_le : (bytes : List ℕ) (n : ℕ) → valid_len_up_to bytes n ≤ n
up_to_le bytes zero = omega arith
up_to_le bytes (suc n) = by (is_utf8 (take (suc n) bytes)) (up_to_le bytes n)
  where
    by : (t : Bool) → valid_len_up_to bytes n ≤ n → cond t (suc n) (valid_len_up_to bytes n) ≤ suc n
    by true le = omega arith
    by false le = omega (arith, le)

up_to_longest : (bytes : List ℕ) (n m : ℕ) → m ≤ n → is_utf8 (take m bytes) ≡ true → m ≤ valid_len_up_to bytes n
up_to_longest bytes zero m le u = omega arith
up_to_longest bytes (suc n) m le u = by (is_utf8 (take (suc n) bytes)) refl (up_to_longest bytes n m)
  where
    by : (t : Bool) → is_utf8 (take (suc n) bytes) ≡ t → (m ≤ n → is_utf8 (take m bytes) ≡ true → m ≤ valid_len_up_to bytes n) → m ≤ cond t (suc n) (valid_len_up_to bytes n)
    by true t again = le
    by false t again = elim (cases_lt n m) [
      | inl lt ↦ let same : m ≡ suc n = omega (arith, lt, le) in absurd (clash (sym (subst (λ (k : ℕ). is_utf8 (take k bytes) ≡ true) same u) ∙ t))
      | inr le' ↦ again le' u
    ]
      where
        clash : true ≡ false → ⊥
        clash e = cc

up_to_utf8 : (bytes : List ℕ) (n : ℕ) → is_utf8 (take (valid_len_up_to bytes n) bytes) ≡ true
up_to_utf8 bytes zero = is_utf8-from_IsUtf8 [] IsUtf8-nil
up_to_utf8 bytes (suc n) = by (is_utf8 (take (suc n) bytes)) refl (up_to_utf8 bytes n)
  where
    by : (t : Bool) → is_utf8 (take (suc n) bytes) ≡ t → is_utf8 (take (valid_len_up_to bytes n) bytes) ≡ true → is_utf8 (take (cond t (suc n) (valid_len_up_to bytes n)) bytes) ≡ true
    by true t again = t
    by false t again = again

take_one_more : (bytes : List ℕ) (n : ℕ) → n < length bytes → get_or bytes n 0 ≡ 0 → take (suc n) bytes ≡ take n bytes ++ 0 ∷ []
take_one_more [] n lt z = absurd (omega arith)
take_one_more (b ∷ bytes) zero lt z = ap (λ (c : ℕ). c ∷ []) z
take_one_more (b ∷ bytes) (suc n) lt z = ap (λ (bs : List ℕ). b ∷ bs) (take_one_more bytes n (omega arith) z)

zero_ascii : IsAscii (0 ∷ [])
zero_ascii zero = omega arith
zero_ascii (suc i) = omega arith

-- a zero byte is UTF-8, so the longest front does not end before one
pub no_zero_there : (bytes : List ℕ) → utf8_valid_len bytes < length bytes → get_or bytes (utf8_valid_len bytes) 0 ≢ 0
unfolding utf8_valid_len
no_zero_there bytes lt z =
    let v = valid_len_up_to bytes (length bytes) in
    let front : IsUtf8 (take v bytes) = IsUtf8-from_is_utf8 (take v bytes) (up_to_utf8 bytes (length bytes)) in
    let more : is_utf8 (take v bytes ++ 0 ∷ []) ≡ true = is_utf8-from_IsUtf8 (take v bytes ++ 0 ∷ []) (IsUtf8-append (take v bytes) (0 ∷ []) front (IsUtf8-from_ascii (0 ∷ []) zero_ascii)) in
    let longer : suc v ≤ v = up_to_longest bytes (length bytes) (suc v) (omega (arith, lt)) (ap is_utf8 (take_one_more bytes v lt z) ∙ more) in
    omega (arith, longer)

pub whole_utf8 : (bytes : List ℕ) → is_utf8 bytes ≡ false → utf8_valid_len bytes < length bytes
unfolding utf8_valid_len
whole_utf8 bytes f = elim (cases_lt (valid_len_up_to bytes (length bytes)) (length bytes)) [
  | inl lt ↦ lt
  | inr le ↦
      let same : valid_len_up_to bytes (length bytes) ≡ length bytes = omega (arith, le, up_to_le bytes (length bytes)) in
      let u : is_utf8 bytes ≡ true = ap is_utf8 (sym (take_all (length bytes) bytes (omega arith))) ∙ ap (λ (n : ℕ). is_utf8 (take n bytes)) (sym same) ∙ up_to_utf8 bytes (length bytes) in
      absurd (clash (sym u ∙ f))
]
  where
    clash : true ≡ false → ⊥
    clash e = cc

-- what a fault of a text means
abbrev pub TextFaultIs : List ℕ → TextFault → Type 0
TextFaultIs bytes (Zero z) = (z < length bytes) × (z ≡ bytes_before_zero bytes) × (z < utf8_valid_len bytes)
TextFaultIs bytes (Utf8 v) = (v < length bytes) × (v ≡ utf8_valid_len bytes) × (v ≤ bytes_before_zero bytes)
TextFaultIs bytes TextNoMemory = ⊥

abbrev fail : TextFault → Result (List ℕ) TextFault
fail f = Err f

err_of : (g h : TextFault) → fail g ≡ fail h → g ≡ h
err_of g h e = cc

pub text_fault : (bytes : List ℕ) (f : TextFault) → text_in bytes ≡ Err f → TextFaultIs bytes f
unfolding text_in
text_fault bytes f e = by_zero (ltb (bytes_before_zero bytes) (utf8_valid_len bytes)) refl e
  where
    by_utf8 : (t : Bool) → is_utf8 bytes ≡ t → utf8_valid_len bytes ≤ bytes_before_zero bytes → cond t (Ok (chars bytes)) (Err (Utf8 (utf8_valid_len bytes))) ≡ Err f → TextFaultIs bytes f
    by_utf8 true t le e = absurd cc
    by_utf8 false t le e = subst (TextFaultIs bytes) (err_of (Utf8 (utf8_valid_len bytes)) f e) (whole_utf8 bytes t, refl, le)

    by_zero : (t : Bool) → ltb (bytes_before_zero bytes) (utf8_valid_len bytes) ≡ t → cond t (Err (Zero (bytes_before_zero bytes))) (cond (is_utf8 bytes) (Ok (chars bytes)) (Err (Utf8 (utf8_valid_len bytes)))) ≡ Err f → TextFaultIs bytes f
    by_zero true t e = subst (TextFaultIs bytes) (err_of (Zero (bytes_before_zero bytes)) f e) (omega (arith, ltb-true _ _ t, utf8_valid_len_le bytes), refl, ltb-true _ _ t)
    by_zero false t e = by_utf8 (is_utf8 bytes) refl (ltb-false _ _ t) e

-- a zero byte, or a byte where no UTF-8 goes on, is told or something before it
pub zero_refused : (bytes : List ℕ) (j : ℕ) → j < length bytes → get_or bytes j 0 ≡ 0 → (f : TextFault) × (text_in bytes ≡ Err f)
unfolding text_in
zero_refused bytes j lt z = by_zero (ltb (bytes_before_zero bytes) (utf8_valid_len bytes)) refl
  where
    by_utf8 : (t : Bool) → is_utf8 bytes ≡ t → utf8_valid_len bytes ≤ bytes_before_zero bytes → (f : TextFault) × (cond t (Ok (chars bytes)) (Err (Utf8 (utf8_valid_len bytes))) ≡ Err f)
    by_utf8 true t le = absurd (omega (arith, le, utf8_valid_len-IsUtf8 bytes (IsUtf8-from_is_utf8 bytes t), zero_before bytes j lt z, lt))
    by_utf8 false t le = (Utf8 (utf8_valid_len bytes), refl)

    by_zero : (t : Bool) → ltb (bytes_before_zero bytes) (utf8_valid_len bytes) ≡ t → (f : TextFault) × (cond t (Err (Zero (bytes_before_zero bytes))) (cond (is_utf8 bytes) (Ok (chars bytes)) (Err (Utf8 (utf8_valid_len bytes)))) ≡ Err f)
    by_zero true t = (Zero (bytes_before_zero bytes), refl)
    by_zero false t = by_utf8 (is_utf8 bytes) refl (ltb-false _ _ t)

pub utf8_refused : (bytes : List ℕ) → utf8_valid_len bytes < length bytes → (f : TextFault) × (text_in bytes ≡ Err f)
unfolding text_in
utf8_refused bytes lt = by_zero (ltb (bytes_before_zero bytes) (utf8_valid_len bytes)) refl
  where
    by_utf8 : (t : Bool) → is_utf8 bytes ≡ t → (f : TextFault) × (cond t (Ok (chars bytes)) (Err (Utf8 (utf8_valid_len bytes))) ≡ Err f)
    by_utf8 true t = absurd (omega (arith, lt, utf8_valid_len-IsUtf8 bytes (IsUtf8-from_is_utf8 bytes t)))
    by_utf8 false t = (Utf8 (utf8_valid_len bytes), refl)

    by_zero : (t : Bool) → ltb (bytes_before_zero bytes) (utf8_valid_len bytes) ≡ t → (f : TextFault) × (cond t (Err (Zero (bytes_before_zero bytes))) (cond (is_utf8 bytes) (Ok (chars bytes)) (Err (Utf8 (utf8_valid_len bytes)))) ≡ Err f)
    by_zero true t = (Zero (bytes_before_zero bytes), refl)
    by_zero false t = by_utf8 (is_utf8 bytes) refl
