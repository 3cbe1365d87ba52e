-- A text is a plain word where its bytes are that word.
use Rattle.std.proofs.Common.{◌≡◌, ℕ, Bool, true, false, List, refl, sym, ap, ◌∙◌, chars, IsUtf8}
use Rattle.std.specs.Prelude.{codes, bytes_eq, encode_utf8_all}
use Rattle.std.specs.Str.{chars as characters}
use Rattle.std.proofs.lemmas.Slice.Eq.{bytes_eq-Decides}
use Rattle.std.proofs.lemmas.Str.{encodes-chars}
use Rattle.atspi_protocol.specs.members.Interfaces as names

-- each byte of the word is a character
pub record IsPlain (word : List ℕ) : Type 0 where
  pub read_ : chars word ≡ word
  pub written : encode_utf8_all word ≡ word

pub same_word : (text word : List ℕ) → IsUtf8 text → IsPlain word → bytes_eq (chars text) word ≡ bytes_eq text word
same_word text word u p = by (bytes_eq (chars text) word) refl (bytes_eq text word) refl
  where
    by : (s : Bool) → bytes_eq (chars text) word ≡ s → (t : Bool) → bytes_eq text word ≡ t → s ≡ t
    by true e true f = refl
    by false e false f = refl
    by true e false f =
        let z = (bytes_eq-Decides text word).1 (sym (encodes-chars text u) ∙ ap encode_utf8_all ((bytes_eq-Decides (chars text) word).0 e) ∙ p.written) in absurd cc
    by false e true f =
        let z = (bytes_eq-Decides (chars text) word).1 (ap chars ((bytes_eq-Decides text word).0 f) ∙ p.read_) in absurd cc

pub plain_registry : IsPlain names.registry
unfolding characters lib.Utf8.encode
plain_registry = record { read_ = refl; written = refl }

pub plain_accessible : IsPlain names.accessible
unfolding characters lib.Utf8.encode
plain_accessible = record { read_ = refl; written = refl }

pub plain_socket : IsPlain names.socket
unfolding characters lib.Utf8.encode
plain_socket = record { read_ = refl; written = refl }

pub plain_properties : IsPlain names.properties
unfolding characters lib.Utf8.encode
plain_properties = record { read_ = refl; written = refl }

pub plain_peer : IsPlain names.peer
unfolding characters lib.Utf8.encode
plain_peer = record { read_ = refl; written = refl }

pub plain_name : IsPlain (codes "Name")
unfolding characters lib.Utf8.encode
plain_name = record { read_ = refl; written = refl }

pub plain_count : IsPlain (codes "ChildCount")
unfolding characters lib.Utf8.encode
plain_count = record { read_ = refl; written = refl }
