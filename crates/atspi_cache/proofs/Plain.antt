-- Plain words: each byte is a character, and a text has just these characters where it has just these bytes.
use Rattle.std.proofs.Common.{◌≡◌, ℕ, zero, suc, ◌<◌, Bool, true, false, cond, List, [], ◌∷◌, ◌++◌, chars, take, length, get_or, ◌+◌, add-one, refl, sym, ap, ◌∙◌, arith}
use Rattle.std.specs.Prelude.{nat_lt, slice_index, bytes_eq, encode_utf8_all, IsUtf8}
use Rattle.std.proofs.Math.Seq.{take-suc}
use Rattle.std.proofs.lemmas.Bool.{ltb-true}
use Rattle.std.proofs.lemmas.Slice.Eq.{bytes_eq-Decides}
use Rattle.std.proofs.lemmas.Str.{chars-IsAscii, encodes-chars}
use Rattle.std.proofs.lemmas.Str.Ascii.{IsAscii-nil}
use Rattle.atspi_tree_model.specs.News.{offers}
use Rattle.atspi_cache.specs.inner.Plain.{is_plain}

plain_first : (b : ℕ) (rest : Bool) → cond (nat_lt 0 b) (cond (nat_lt b 128) rest false) false ≡ true
    → (0 < b) × (b < 128) × (rest ≡ true)
plain_first b rest e = at (nat_lt 0 b) (nat_lt b 128) refl refl e
  where
    at : (x y : Bool) → nat_lt 0 b ≡ x → nat_lt b 128 ≡ y → cond x (cond y rest false) false ≡ true
        → (0 < b) × (b < 128) × (rest ≡ true)
    at true true p q e = (ltb-true 0 b p, ltb-true b 128 q, e)
    at true false p q e = absurd cc
    at false y p q e = absurd cc

plain_ascii : (bs : List ℕ) → is_plain bs ≡ true → (i : ℕ) → slice_index bs i < 128
plain_ascii [] p i = IsAscii-nil i
plain_ascii (b ∷ bs) p zero = (plain_first b (is_plain bs) p).1
plain_ascii (b ∷ bs) p (suc i) = plain_ascii bs (plain_first b (is_plain bs) p).2 i

-- each byte is a character
pub plain_chars : (bs : List ℕ) → is_plain bs ≡ true → chars bs ≡ bs
plain_chars bs p = chars-IsAscii bs (plain_ascii bs p)

-- the bytes of a text are these just where its characters are
pub same_word : (bytes text word : List ℕ) → IsUtf8 word → is_plain word ≡ true → bytes ≡ encode_utf8_all text → chars bytes ≡ text → bytes_eq bytes word ≡ bytes_eq text word
same_word bytes text word u p s c = by (bytes_eq text word) refl (bytes_eq bytes word) refl
  where
    by : (b : Bool) → bytes_eq text word ≡ b → (d : Bool) → bytes_eq bytes word ≡ d → d ≡ b
    by true eb true ed = refl
    by false eb false ed = refl
    by false eb true ed =
        let same : bytes ≡ word = (bytes_eq-Decides bytes word).0 ed in
        let z : bytes_eq text word ≡ true = (bytes_eq-Decides text word).1 (sym c ∙ (ap chars same ∙ plain_chars word p)) in cc
    by true eb false ed =
        let same : text ≡ word = (bytes_eq-Decides text word).0 eb in
        let z : bytes_eq bytes word ≡ true = (bytes_eq-Decides bytes word).1 (s ∙ (ap encode_utf8_all (same ∙ sym (plain_chars word p)) ∙ encodes-chars word u)) in cc

-- one more interface, which is another
pub offers-snoc : (word x : List ℕ) (xs : List (List ℕ)) → offers word xs ≡ false → bytes_eq x word ≡ false → offers word (xs ++ x ∷ []) ≡ false
offers-snoc word x [] e f = rw f refl
offers-snoc word x (y ∷ ys) e f = at (bytes_eq y word) (λ z. offers-snoc word x ys z f) e
  where
    at : (b : Bool) → (offers word ys ≡ false → offers word (ys ++ x ∷ []) ≡ false) → cond b true (offers word ys) ≡ false → cond b true (offers word (ys ++ x ∷ [])) ≡ false
    at true ih e = cc
    at false ih e = ih e

pub offers-at : (word x : List ℕ) (xs : List (List ℕ)) (i : ℕ) (d : List ℕ) → i < length xs → x ≡ get_or xs i d → bytes_eq x word ≡ true → offers word xs ≡ true
offers-at word x [] i d l r e = absurd (omega arith)
offers-at word x (y ∷ ys) zero d l r e = let z : bytes_eq y word ≡ true = ap (λ w. bytes_eq w word) (sym r) ∙ e in rw z refl
offers-at word x (y ∷ ys) (suc i) d l r e = rw (offers-at word x ys i d (omega arith) r e) (at (bytes_eq y word))
  where
    at : (b : Bool) → cond b true true ≡ true
    at true = refl
    at false = refl

pub offers-more : (word x : List ℕ) (xs : List (List ℕ)) (i : ℕ) (d : List ℕ) → i < length xs → x ≡ get_or xs i d → bytes_eq x word ≡ false → offers word (take i xs) ≡ false → offers word (take (i + 1) xs) ≡ false
offers-more word x xs i d l r f e =
    ap (offers word) (ap (λ m. take m xs) (add-one i) ∙ take-suc xs i d l) ∙ offers-snoc word (get_or xs i d) (take i xs) e (ap (λ w. bytes_eq w word) (sym r) ∙ f)
