-- Words of ASCII are the same as bytes and as characters.
use Rattle.std.proofs.Common.{◌≡◌, ℕ, zero, suc, ◌+◌, Bool, true, false, not, cond, List, [], ◌∷◌, ◌++◌, Some, None, length, take, drop, refl, sym, ap, ◌∙◌, chars, IsUtf8, arith}
use Rattle.std.specs.Prelude.{bytes_eq, encode_utf8_all, nat_lt, codes, position}
use Rattle.std.specs.Bool.{Decides}
use Rattle.std.specs.Str.{IsAscii}
use Rattle.std.specs.Char.{is_ascii}
use Rattle.std.specs.List.{list_all, position_or_len}
use Rattle.std.proofs.lemmas.Bool.{and_parts, ltb-true}
use Rattle.std.proofs.lemmas.List.{take-append-drop}
use Rattle.std.proofs.Math.Seq.{take-append_seam}
use Rattle.std.proofs.lemmas.Slice.Eq.{bytes_eq-Decides}
use Rattle.std.proofs.lemmas.Str.{chars-IsAscii, encodes-IsAscii, encodes-chars, chars-append, encodes-append, IsUtf8-from_ascii}
use Rattle.atspi_tables.specs.States.{state_names}
use Rattle.atspi_protocol.specs.news.Events.{is_front}
use Rattle.atspi_reader_news.specs.Seen.{state_number}

ascii_at : (word : List ℕ) → list_all is_ascii word ≡ true → IsAscii word
ascii_at [] h i = omega arith
ascii_at (b ∷ bytes) h zero = ltb-true b 128 (and_parts (is_ascii b) (list_all is_ascii bytes) h).0
ascii_at (b ∷ bytes) h (suc i) = ascii_at bytes (and_parts (is_ascii b) (list_all is_ascii bytes) h).1 i

-- tests of facts that follow from one another are the same
same_test : (a b : Bool) (P Q : Type 0) → Decides a P → Decides b Q → (P → Q) → (Q → P) → a ≡ b
same_test true true P Q da db f g = refl
same_test false false P Q da db f g = refl
same_test true false P Q da db f g = sym (db.1 (f (da.0 refl)))
same_test false true P Q da db f g = da.1 (g (db.0 refl))

pub same_word : (text word : List ℕ) → IsUtf8 text → list_all is_ascii word ≡ true → bytes_eq word text ≡ bytes_eq word (chars text)
same_word text word u plain =
    same_test (bytes_eq word text) (bytes_eq word (chars text)) (word ≡ text) (word ≡ chars text) (bytes_eq-Decides word text) (bytes_eq-Decides word (chars text))
    (λ e. sym (chars-IsAscii word (ascii_at word plain)) ∙ ap chars e)
    (λ e. sym (encodes-IsAscii word (ascii_at word plain)) ∙ ap encode_utf8_all e ∙ encodes-chars text u)

pub same_texts : (a b : List ℕ) → IsUtf8 a → IsUtf8 b → bytes_eq a b ≡ bytes_eq (chars a) (chars b)
same_texts a b u v =
    same_test (bytes_eq a b) (bytes_eq (chars a) (chars b)) (a ≡ b) (chars a ≡ chars b) (bytes_eq-Decides a b) (bytes_eq-Decides (chars a) (chars b))
    (λ e. ap chars e) (λ e. sym (encodes-chars a u) ∙ ap encode_utf8_all e ∙ encodes-chars b v)

-- a list begins with a word
abbrev Begins : List ℕ → List ℕ → Type 0
Begins text word = (rest : List ℕ) × (text ≡ word ++ rest)

begins_decides : (text word : List ℕ) → Decides (bytes_eq (take (length word) text) word) (Begins text word)
begins_decides text word = (
  (λ e. (drop (length word) text, sym (take-append-drop (length word) text) ∙ ap (λ (w : List ℕ). w ++ drop (length word) text) ((bytes_eq-Decides (take (length word) text) word).0 e))),
  (λ p. (bytes_eq-Decides (take (length word) text) word).1 (ap (take (length word)) p.1 ∙ take-append_seam word p.0)),
)

pub same_front : (text word : List ℕ) → IsUtf8 text → list_all is_ascii word ≡ true → bytes_eq (take (length word) text) word ≡ is_front word (chars text)
same_front text word u plain =
    same_test (bytes_eq (take (length word) text) word) (is_front word (chars text)) (Begins text word) (Begins (chars text) word) (begins_decides text word) (begins_decides (chars text) word)
    (λ p. (chars p.0, ap chars p.1 ∙ chars-append word p.0 (IsUtf8-from_ascii word (ascii_at word plain)) ∙ ap (λ (w : List ℕ). w ++ chars p.0) (chars-IsAscii word (ascii_at word plain))))
    (λ p. (encode_utf8_all p.0, sym (encodes-chars text u) ∙ ap encode_utf8_all p.1 ∙ encodes-append word p.0 ∙ ap (λ (w : List ℕ). w ++ encode_utf8_all p.0) (encodes-IsAscii word (ascii_at word plain))))

-- the other way round
pub turned_front : (text word : List ℕ) → bytes_eq word (take (length word) text) ≡ bytes_eq (take (length word) text) word
turned_front text word =
    same_test (bytes_eq word (take (length word) text)) (bytes_eq (take (length word) text) word) (word ≡ take (length word) text) (take (length word) text ≡ word) (bytes_eq-Decides word (take (length word) text)) (bytes_eq-Decides (take (length word) text) word)
    (λ e. sym e) (λ e. sym e)

-- the names of states are words
states_are_words : list_all (list_all is_ascii) state_names ≡ true
unfolding state_names
states_are_words = refl

abbrev is_name : List ℕ → List ℕ → Bool
is_name name word = bytes_eq word name

same_len : (text : List ℕ) → IsUtf8 text → (words : List (List ℕ)) → list_all (list_all is_ascii) words ≡ true → position_or_len (is_name text) words ≡ position_or_len (is_name (chars text)) words
same_len text u [] h = refl
same_len text u (word ∷ words) h =
    let both = and_parts (list_all is_ascii word) (list_all (list_all is_ascii) words) h in
    ap (λ (b : Bool). cond (not b) (1 + position_or_len (is_name text) words) 0) (same_word text word u both.0)
    ∙ ap (λ (n : ℕ). cond (not (is_name (chars text) word)) (1 + n) 0) (same_len text u words both.1)

pub same_state : (text : List ℕ) → IsUtf8 text → position (λ n. bytes_eq n text) state_names ≡ position (λ n. bytes_eq n (chars text)) state_names
same_state text u = ap (λ (k : ℕ). cond (nat_lt k (length state_names)) (Some k) None) (same_len text u state_names states_are_words)

pub other_state : (text : List ℕ) → IsUtf8 text → bytes_eq (codes "default") (chars text) ≡ false → position (λ n. bytes_eq n text) state_names ≡ state_number (chars text)
other_state text u other = same_state text u ∙ sym (ap (λ (b : Bool). cond b (Some 39) (position (λ n. bytes_eq n (chars text)) state_names)) other)
