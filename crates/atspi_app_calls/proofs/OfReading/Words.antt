-- A text is a plain word where its bytes are that word.
use Rattle.std.proofs.Common.{◌≡◌, ℕ, Bool, true, false, List, refl, sym, ap, ◌∙◌, chars, IsUtf8}
use Rattle.std.specs.Prelude.{bytes_eq, encode_utf8_all}
use Rattle.std.proofs.lemmas.Slice.Eq.{bytes_eq-Decides}
use Rattle.std.proofs.lemmas.Str.{encodes-chars}

-- each byte of the word is a character
pub record IsPlain (word : List ℕ) : Type 0 where
  pub read_ : chars word ≡ word
  pub written : encode_utf8_all word ≡ word

pub same_word : (text word : List ℕ) → IsUtf8 text → IsPlain word → bytes_eq (chars text) word ≡ bytes_eq text word
same_word text word u p = by (bytes_eq (chars text) word) refl (bytes_eq text word) refl
  where
    by : (s : Bool) → bytes_eq (chars text) word ≡ s → (t : Bool) → bytes_eq text word ≡ t → s ≡ t
    by true e true f = refl
    by false e false f = refl
    by true e false f =
        let z = (bytes_eq-Decides text word).1 (sym (encodes-chars text u) ∙ ap encode_utf8_all ((bytes_eq-Decides (chars text) word).0 e) ∙ p.written) in absurd cc
    by false e true f =
        let z = (bytes_eq-Decides (chars text) word).1 (ap chars ((bytes_eq-Decides text word).0 f) ∙ p.read_) in absurd cc

-- the same of a text that is no such word, and of one that is
pub written_word : (text word : List ℕ) → IsUtf8 text → IsPlain word → chars text ≡ word → text ≡ word
written_word text word u p e = sym (encodes-chars text u) ∙ ap encode_utf8_all e ∙ p.written
