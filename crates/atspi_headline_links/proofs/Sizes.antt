-- Messages that lie whole within so many bytes of a link.
use Rattle.std.proofs.Common.{◌≡◌, ℕ, ◌+◌, ◌-◌, ◌<◌, ◌≤◌, Bool, true, false, List, [], ◌∷◌, ◌++◌, length, drop, refl, sym, ap, ap₂, ◌∙◌, subst, arith, min}
use Rattle.std.specs.Prelude.{nat_le, if◌then◌else◌}
use Rattle.std.proofs.lemmas.Bool.{leb-true, leb-false, le-leb}
use Rattle.std.proofs.lemmas.List.{append-nil, drop_at, drop_all}
use Rattle.atspi_message.specs.Envelope.{Envelope}
use Rattle.atspi_message.specs.Bytes.{Field, header_bytes, spelled_with, rising_fields}
use Rattle.atspi_script_lines.specs.declared.line.Party.{Party}
use Rattle.atspi_headline.specs.Links.{size, sizes, whole_in}

-- each message has bytes
spelled_some : (m : Envelope) (fs : List Field) → 0 < length (spelled_with m fs)
unfolding spelled_with header_bytes
spelled_some m fs = omega arith

pub some : (m : Envelope) → 0 < size m
some m = spelled_some m (rising_fields m)

abbrev pub Mail : Type 0
Mail = List (Party × Envelope)

-- a mark that stands within the first message
abbrev pub IsBegun : ℕ → Mail → Type 0
IsBegun n [] = n ≡ 0
IsBegun n (m ∷ ms) = n < size m.1

pub begun_anew : (ms : Mail) → IsBegun 0 ms
begun_anew [] = refl
begun_anew (m ∷ ms) = some m.1

pub begun_more : (n : ℕ) (xs ys : Mail) → IsBegun n xs → IsBegun n (xs ++ ys)
begun_more n [] ys b = subst (λ k. IsBegun k ys) (sym b) (begun_anew ys)
begun_more n (x ∷ xs) ys b = b

pub begun_within : (n : ℕ) (ms : Mail) → IsBegun n ms → n ≤ sizes ms
begun_within n [] b = omega (arith, b)
begun_within n (m ∷ ms) b = omega (arith, b)

pub sizes_both : (xs ys : Mail) → sizes (xs ++ ys) ≡ sizes xs + sizes ys
sizes_both [] ys = omega arith
sizes_both (x ∷ xs) ys = let h = sizes_both xs ys in omega (arith, h)

is_whole : (m : Party × Envelope) (n : ℕ) → size m.1 ≤ n → nat_le (size m.1) n ≡ true
is_whole m n h = le-leb (size m.1) n h

not_whole : (m : Party × Envelope) (n : ℕ) → n < size m.1 → nat_le (size m.1) n ≡ false
not_whole m n h = by (nat_le (size m.1) n) refl
  where
    by : (b : Bool) → nat_le (size m.1) n ≡ b → b ≡ false
    by true e = let low = leb-true (size m.1) n e in absurd (omega (arith, low, h))
    by false e = refl

pub whole_first : (m : Party × Envelope) (ms : Mail) (n : ℕ) → size m.1 ≤ n → whole_in n (m ∷ ms) ≡ m ∷ whole_in (n - size m.1) ms
whole_first m ms n h = ap (λ b. if b then m ∷ whole_in (n - size m.1) ms else []) (is_whole m n h)

pub whole_none : (n : ℕ) (ms : Mail) → IsBegun n ms → whole_in n ms ≡ []
whole_none n [] b = refl
whole_none n (m ∷ ms) b = ap (λ t. if t then m ∷ whole_in (n - size m.1) ms else []) (not_whole m n b)

pub whole_front : (xs ys : Mail) (n : ℕ) → whole_in (sizes xs + n) (xs ++ ys) ≡ xs ++ whole_in n ys
whole_front [] ys n = let same : 0 + n ≡ n = omega arith in ap (λ k. whole_in k ys) same
whole_front (x ∷ xs) ys n =
    let less : size x.1 ≤ (size x.1 + sizes xs) + n = omega arith in
    let rest : ((size x.1 + sizes xs) + n) - size x.1 ≡ sizes xs + n = omega arith in
    whole_first x (xs ++ ys) ((size x.1 + sizes xs) + n) less ∙ ap (λ k. x ∷ whole_in k (xs ++ ys)) rest ∙ ap (λ l. x ∷ l) (whole_front xs ys n)

pub whole_all : (ms : Mail) (n : ℕ) → sizes ms ≤ n → whole_in n ms ≡ ms
whole_all [] n h = refl
whole_all (m ∷ ms) n h =
    let first : size m.1 ≤ n = omega (arith, h) in
    let rest : sizes ms ≤ n - size m.1 = omega (arith, h) in
    whole_first m ms n first ∙ ap (λ l. m ∷ l) (whole_all ms (n - size m.1) rest)

-- those whose last byte is among so many that are moved next
pub completed_is : (taken rest : Mail) (moved n count : ℕ) → moved ≡ sizes taken + n → IsBegun n rest
    → drop (length (whole_in moved (taken ++ rest))) (whole_in (moved + count) (taken ++ rest)) ≡ whole_in (n + count) rest
completed_is taken rest moved n count h b =
    let before : whole_in moved (taken ++ rest) ≡ taken =
    ap (λ k. whole_in k (taken ++ rest)) h ∙ whole_front taken rest n ∙ ap (λ l. taken ++ l) (whole_none n rest b) ∙ append-nil taken in
    let sum : moved + count ≡ sizes taken + (n + count) = omega (arith, h) in
    let after : whole_in (moved + count) (taken ++ rest) ≡ taken ++ whole_in (n + count) rest =
    ap (λ k. whole_in k (taken ++ rest)) sum ∙ whole_front taken rest (n + count) in
    ap₂ (λ l k. drop (length l) k) before after ∙ drop_at taken (whole_in (n + count) rest) (length taken) refl

-- no more than wait
pub whole_capped : (ms : Mail) (n count : ℕ) → n ≤ sizes ms → whole_in (n + min count (sizes ms - n)) ms ≡ whole_in (n + count) ms
whole_capped ms n count h = by (nat_le count (sizes ms - n)) refl
  where
    by : (b : Bool) → nat_le count (sizes ms - n) ≡ b → whole_in (n + min count (sizes ms - n)) ms ≡ whole_in (n + count) ms
    by true e =
        let low : count ≤ sizes ms - n = leb-true count (sizes ms - n) e in
        let same : n + min count (sizes ms - n) ≡ n + count = omega (arith, low) in
        ap (λ k. whole_in k ms) same
    by false e =
        let high = leb-false count (sizes ms - n) e in
        whole_all ms (n + min count (sizes ms - n)) (omega (arith, high, h)) ∙ sym (whole_all ms (n + count) (omega (arith, high, h)))

-- one more, and so many bytes are left
pub whole_next : (m : Party × Envelope) (ms : Mail) (n count : ℕ) → n < size m.1 → size m.1 - n ≤ count → whole_in (n + count) (m ∷ ms) ≡ m ∷ whole_in (0 + (count - (size m.1 - n))) ms
whole_next m ms n count b h =
    let first : size m.1 ≤ n + count = omega (arith, h) in
    let rest : (n + count) - size m.1 ≡ 0 + (count - (size m.1 - n)) = omega (arith, b, h) in
    whole_first m ms (n + count) first ∙ ap (λ k. m ∷ whole_in k ms) rest

pub whole_one : (m : Party × Envelope) (ms : Mail) (n : ℕ) → n < size m.1 → whole_in (n + (size m.1 - n)) (m ∷ ms) ≡ m ∷ []
whole_one m ms n b =
    let all : size m.1 - n ≤ size m.1 - n = omega arith in
    let none : 0 + ((size m.1 - n) - (size m.1 - n)) ≡ 0 = omega arith in
    whole_next m ms n (size m.1 - n) b all ∙ ap (λ k. m ∷ whole_in k ms) none ∙ ap (λ l. m ∷ l) (whole_none 0 ms (begun_anew ms))

pub whole_less : (m : Party × Envelope) (ms : Mail) (n count : ℕ) → n < size m.1 → count < size m.1 - n → whole_in (n + count) (m ∷ ms) ≡ []
whole_less m ms n count b h = whole_none (n + count) (m ∷ ms) (omega (arith, b, h))

-- no bytes complete nothing
pub none_moved : (ms : Mail) (moved : ℕ) → drop (length (whole_in moved ms)) (whole_in (moved + 0) ms) ≡ []
none_moved ms moved =
    let same : moved + 0 ≡ moved = omega arith in
    let within : length (whole_in moved ms) ≤ length (whole_in moved ms) = omega arith in
    ap (λ k. drop (length (whole_in moved ms)) (whole_in k ms)) same ∙ drop_all (length (whole_in moved ms)) (whole_in moved ms) within
