-- Bytes between quotes can be read in one way.
use Rattle.std.proofs.Common.{◌≡◌, ◌≢◌, ℕ, zero, suc, ◌+◌, ◌/◌, ◌%◌, ◌<◌, ◌≤◌, Bool, true, false, cond, List, [], ◌∷◌, ◌++◌, length, get_or, take, drop, Ok, Err, refl, sym, ap, subst, ◌∙◌, arith, append_assoc, chars, encode_utf8_all}
use Rattle.std.proofs.lemmas.Str.{chars-encodes}
use Rattle.std.proofs.lemmas.Bool.{false≢true}
use Rattle.std.proofs.lemmas.Bool.Decides.{nat_tests}
use Rattle.std.specs.List.{flat_map}
use Rattle.atspi_base.specs.ReadsText.{text_in}
use Rattle.atspi_base.specs.Text.{HasNoZero}
use Rattle.atspi_base.specs.declared.text.TextFault.{TextFault}
use Rattle.atspi_base.proofs.TextLemmas.{whole, text_is}
use Rattle.atspi_base.specs.Quoted.{hex_digit, is_marked, is_control, escaped, in_quotes, quoted}
use Rattle.atspi_script_lines.specs.Words.{IsText}
use Rattle.atspi_script_lines.specs.inner.Reading.{IsTextOf}

-- an escaped byte, by what it is
abbrev form : Bool → Bool → ℕ → List ℕ
form marked control b = cond marked (92 ∷ b ∷ []) (cond control (92 ∷ 120 ∷ hex_digit (b / 16) ∷ hex_digit (b % 16) ∷ []) (b ∷ []))

hex_same : (m n : ℕ) → m < 16 → n < 16 → hex_digit m ≡ hex_digit n → m ≡ n
hex_same m n p q e = grind (arith, nat_tests)

control_small : (b : ℕ) → is_control b ≡ true → b < 128
control_small b e = grind (arith, nat_tests)

at_mark : (b : ℕ) → is_marked b ≡ true → b ≡ 120 → ⊥
at_mark b m e = let h : is_marked 120 ≡ true = subst (λ n. is_marked n ≡ true) e m in false≢true h

not_mark : (b : ℕ) → is_marked b ≡ false → 92 ≡ b → ⊥
not_mark b m e = let h : is_marked 92 ≡ false = subst (λ n. is_marked n ≡ false) (sym e) m in false≢true (sym h)

same_halves : (a b : ℕ) → a < 128 → b < 128 → hex_digit (a / 16) ≡ hex_digit (b / 16) → hex_digit (a % 16) ≡ hex_digit (b % 16) → a ≡ b
same_halves a b p q high low =
    let h = hex_same (a / 16) (b / 16) (omega arith) (omega arith) high in
    let l = hex_same (a % 16) (b % 16) (omega arith) (omega arith) low in
    omega (arith, h, l)

front : (a b : ℕ) (x y : List ℕ) (ma ca mb cb : Bool) → is_marked a ≡ ma → is_control a ≡ ca → is_marked b ≡ mb → is_control b ≡ cb → form ma ca a ++ x ≡ form mb cb b ++ y → (a ≡ b) × (x ≡ y)
front a b x y true ca true cb ea fa eb fb h = let s : a ≡ b = cc in let t : x ≡ y = cc in (s, t)
front a b x y true ca false true ea fa eb fb h = let s : a ≡ 120 = cc in absurd (at_mark a ea s)
front a b x y true ca false false ea fa eb fb h = let s : 92 ≡ b = cc in absurd (not_mark b eb s)
front a b x y false true true cb ea fa eb fb h = let s : b ≡ 120 = cc in absurd (at_mark b eb s)
front a b x y false false true cb ea fa eb fb h = let s : 92 ≡ a = cc in absurd (not_mark a ea s)
front a b x y false true false true ea fa eb fb h =
    let high : hex_digit (a / 16) ≡ hex_digit (b / 16) = cc in
    let low : hex_digit (a % 16) ≡ hex_digit (b % 16) = cc in
    let t : x ≡ y = cc in
    (same_halves a b (control_small a fa) (control_small b fb) high low, t)
front a b x y false true false false ea fa eb fb h = let s : 92 ≡ b = cc in absurd (not_mark b eb s)
front a b x y false false false true ea fa eb fb h = let s : 92 ≡ a = cc in absurd (not_mark a ea s)
front a b x y false false false false ea fa eb fb h = let s : a ≡ b = cc in let t : x ≡ y = cc in (s, t)

pub escaped_front : (a b : ℕ) (x y : List ℕ) → escaped a ++ x ≡ escaped b ++ y → (a ≡ b) × (x ≡ y)
escaped_front a b x y h = front a b x y (is_marked a) (is_control a) (is_marked b) (is_control b) refl refl refl refl h

some_form : (m c : Bool) (b : ℕ) (x : List ℕ) → form m c b ++ x ≡ [] → ⊥
some_form true c b x h = cc
some_form false true b x h = cc
some_form false false b x h = cc

-- no escaped byte begins with the quote
no_quote : (m c : Bool) (b : ℕ) (x y : List ℕ) → is_marked b ≡ m → form m c b ++ x ≡ 34 ∷ y → ⊥
no_quote true c b x y e h = let s : ◌≡◌ {A = ℕ} 92 34 = cc in absurd (omega (arith, s))
no_quote false true b x y e h = let s : ◌≡◌ {A = ℕ} 92 34 = cc in absurd (omega (arith, s))
no_quote false false b x y e h =
    let s : b ≡ 34 = cc in
    let f : is_marked 34 ≡ false = subst (λ n. is_marked n ≡ false) s e in
    absurd (false≢true (sym f))

pub escaped_no_quote : (b : ℕ) (x y : List ℕ) → escaped b ++ x ≡ 34 ∷ y → ⊥
escaped_no_quote b x y h = no_quote (is_marked b) (is_control b) b x y refl h

-- what is read so far is the front of what stands before the closing quote
pub before_quote : (done rest raw more : List ℕ) → flat_map escaped done ++ rest ≡ flat_map escaped raw ++ 34 ∷ more
    → (tail : List ℕ) × (raw ≡ done ++ tail) × (rest ≡ flat_map escaped tail ++ 34 ∷ more)
before_quote [] rest raw more h = (raw, refl, h)
before_quote (b ∷ done) rest [] more h =
    absurd (escaped_no_quote b (flat_map escaped done ++ rest) more (sym (append_assoc (escaped b) (flat_map escaped done) rest) ∙ h))
before_quote (b ∷ done) rest (c ∷ raw) more h =
    let same = escaped_front b c (flat_map escaped done ++ rest) (flat_map escaped raw ++ 34 ∷ more)
    (sym (append_assoc (escaped b) (flat_map escaped done) rest) ∙ h ∙ append_assoc (escaped c) (flat_map escaped raw) (34 ∷ more)) in
    let later = before_quote done rest raw more same.1 in
    let e : c ∷ raw ≡ b ∷ (done ++ later.0) = ap (λ n. n ∷ raw) (sym same.0) ∙ ap (λ l. b ∷ l) later.1 in
    (later.0, e, later.2)

-- bytes in quotes and what follows them: there is one way to cut them
pub quotes_once : (xs ys x y : List ℕ) → in_quotes xs ++ x ≡ in_quotes ys ++ y → (xs ≡ ys) × (x ≡ y)
quotes_once xs ys x y h =
    let t : (flat_map escaped xs ++ 34 ∷ []) ++ x ≡ (flat_map escaped ys ++ 34 ∷ []) ++ y = cc in
    let s : flat_map escaped xs ++ 34 ∷ x ≡ flat_map escaped ys ++ 34 ∷ y =
    sym (append_assoc (flat_map escaped xs) (34 ∷ []) x) ∙ t ∙ append_assoc (flat_map escaped ys) (34 ∷ []) y in
    let more = before_quote xs (34 ∷ x) ys y s in
    ends more.0 more.1 more.2
  where
    by_nil : (l : List ℕ) → l ++ [] ≡ l
    by_nil [] = refl
    by_nil (a ∷ l) = ap (λ t. a ∷ t) (by_nil l)

    ends : (tail : List ℕ) → ys ≡ xs ++ tail → 34 ∷ x ≡ flat_map escaped tail ++ 34 ∷ y → (xs ≡ ys) × (x ≡ y)
    ends [] e g = let r : x ≡ y = cc in (sym (e ∙ by_nil xs), r)
    ends (b ∷ tail) e g =
        absurd (escaped_no_quote b (flat_map escaped tail ++ 34 ∷ y) x (sym (append_assoc (escaped b) (flat_map escaped tail) (34 ∷ y)) ∙ sym g))

pub quoted_once : (a b x y : List ℕ) → IsText a → IsText b → quoted a ++ x ≡ quoted b ++ y → (a ≡ b) × (x ≡ y)
quoted_once a b x y p q h =
    let same = quotes_once (encode_utf8_all a) (encode_utf8_all b) x y h in
    (sym (chars-encodes a p.scalars) ∙ ap chars same.0 ∙ chars-encodes b q.scalars, same.1)

-- a text is what its bytes are read as
pub is_read : (text raw : List ℕ) → IsTextOf raw text → text_in raw ≡ Ok (chars raw)
is_read text raw t =
    subst (λ bytes. text_in bytes ≡ Ok (chars bytes)) t.1
    (whole (encode_utf8_all text) (length (encode_utf8_all text)) (text, (t.0.scalars, refl)) (sym t.0.no_zero) (omega arith))

pub no_text : (raw text : List ℕ) (fault : TextFault) → text_in raw ≡ Err fault → IsTextOf raw text → ⊥
no_text raw text fault f t = let r : text_in raw ≡ Ok (chars raw) = is_read text raw t in cc

pub text_read : (raw text : List ℕ) → length raw ≤ 4294967295 → text_in raw ≡ Ok text → IsTextOf raw text
text_read raw text short t =
    let is = text_is raw text t in (
      record {
        scalars = is.1;
        no_zero = subst HasNoZero (sym is.0) is.2;
        counted = omega (arith, ap length is.0);
      },
      is.0,
    )

-- nothing is spelled where a byte in quotes cannot be read
pub not_escaped : (inner done rest bytes : List ℕ) → bytes ≡ 34 ∷ inner → inner ≡ flat_map escaped done ++ rest → 0 < length rest → get_or rest 0 0 ≢ 34
    → ((b : ℕ) (tail : List ℕ) → rest ≡ escaped b ++ tail → ⊥) → (raw more : List ℕ) → bytes ≡ in_quotes raw ++ more → ⊥
not_escaped inner done rest bytes e f some other none raw more h =
    let t : inner ≡ (flat_map escaped raw ++ 34 ∷ []) ++ more = cc in
    let s : flat_map escaped done ++ rest ≡ flat_map escaped raw ++ 34 ∷ more = sym f ∙ t ∙ append_assoc (flat_map escaped raw) (34 ∷ []) more in
    let left = before_quote done rest raw more s in
    ends left.0 left.2
  where
    ends : (tail : List ℕ) → rest ≡ flat_map escaped tail ++ 34 ∷ more → ⊥
    ends [] g = other (ap (λ l. get_or l 0 0) g)
    ends (b ∷ tail) g = none b (flat_map escaped tail ++ 34 ∷ more) (g ∙ append_assoc (escaped b) (flat_map escaped tail) (34 ∷ more))

-- nor where no quote closes
pub not_closed : (inner done rest bytes : List ℕ) → bytes ≡ 34 ∷ inner → inner ≡ flat_map escaped done ++ rest → length rest ≡ 0
    → (raw more : List ℕ) → bytes ≡ in_quotes raw ++ more → ⊥
not_closed inner done rest bytes e f none raw more h =
    let t : inner ≡ (flat_map escaped raw ++ 34 ∷ []) ++ more = cc in
    let s : flat_map escaped done ++ rest ≡ flat_map escaped raw ++ 34 ∷ more = sym f ∙ t ∙ append_assoc (flat_map escaped raw) (34 ∷ []) more in
    let left = before_quote done rest raw more s in
    long (flat_map escaped left.0) left.2
  where
    long : (front : List ℕ) → rest ≡ front ++ 34 ∷ more → ⊥
    long [] g = let k : length rest ≡ suc (length more) = ap length g in absurd (omega (arith, k))
    long (x ∷ front) g = let k : length rest ≡ suc (length (front ++ 34 ∷ more)) = ap length g in absurd (omega (arith, k))

-- a longer part is read
pub run_read : (inner done plain rest more : List ℕ) → inner ≡ flat_map escaped done ++ rest → flat_map escaped plain ≡ plain → rest ≡ plain ++ more
    → inner ≡ flat_map escaped (done ++ plain) ++ more
run_read inner done plain rest more e f g =
    e ∙ ap (λ l. flat_map escaped done ++ l) (g ∙ ap (λ l. l ++ more) (sym f)) ∙ sym (append_assoc (flat_map escaped done) (flat_map escaped plain) more)
    ∙ ap (λ l. l ++ more) (sym (spread done plain))
  where
    spread : (xs ys : List ℕ) → flat_map escaped (xs ++ ys) ≡ flat_map escaped xs ++ flat_map escaped ys
    spread [] ys = refl
    spread (x ∷ xs) ys = ap (λ l. escaped x ++ l) (spread xs ys) ∙ sym (append_assoc (escaped x) (flat_map escaped xs) (flat_map escaped ys))

nothing_left : (k : ℕ) → drop {A = ℕ} k [] ≡ []
nothing_left zero = refl
nothing_left (suc k) = refl

drop_more : (xs : List ℕ) (a n k : ℕ) → k ≡ a + n → drop k xs ≡ drop n (drop a xs)
drop_more xs zero n k e = let f : k ≡ n = omega arith in ap (λ i. drop i xs) f
drop_more [] (suc a) n k e = nothing_left k ∙ sym (nothing_left n)
drop_more (x ∷ xs) (suc a) n zero e = absurd (omega arith)
drop_more (x ∷ xs) (suc a) n (suc k) e = drop_more xs a n k (omega arith)

front_back : (xs : List ℕ) (n : ℕ) → xs ≡ take n xs ++ drop n xs
front_back [] zero = refl
front_back [] (suc n) = refl
front_back (x ∷ xs) zero = refl
front_back (x ∷ xs) (suc n) = ap (λ l. x ∷ l) (front_back xs n)

-- a run of plain bytes is read
pub plain_read : (inner out new : List ℕ) (at n m : ℕ) → m ≡ n → inner ≡ flat_map escaped out ++ drop at inner
    → flat_map escaped (take n (drop at inner)) ≡ take n (drop at inner) → new ≡ out ++ take m (drop at inner)
    → inner ≡ flat_map escaped new ++ drop (at + n) inner
plain_read inner out new at n m k e f g =
    let plain = take n (drop at inner) in
    let h : new ≡ out ++ plain = g ∙ ap (λ i. out ++ take i (drop at inner)) k in
    let rest : drop at inner ≡ plain ++ drop (at + n) inner = front_back (drop at inner) n ∙ ap (λ l. plain ++ l) (sym (drop_more inner at n (at + n) refl)) in
    run_read inner out plain (drop at inner) (drop (at + n) inner) e f rest ∙ ap (λ l. flat_map escaped l ++ drop (at + n) inner) (sym h)

pub at_drop : (xs : List ℕ) (i : ℕ) → get_or (drop i xs) 0 0 ≡ get_or xs i 0
at_drop [] zero = refl
at_drop [] (suc i) = refl
at_drop (x ∷ xs) zero = refl
at_drop (x ∷ xs) (suc i) = at_drop xs i
