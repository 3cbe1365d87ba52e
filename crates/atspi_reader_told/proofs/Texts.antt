-- Texts and names by their bytes and by their characters.
use Rattle.std.proofs.Common.{arith, ◌≡◌, ℕ, Bool, true, false, List, [], ◌∷◌, length, ◌==◌, refl, sym, ap, ◌∙◌, chars, IsUtf8}
use Rattle.std.specs.Prelude.{bytes_eq, encode_utf8_all}
use Rattle.std.specs.Cmp.{both_ways}
use Rattle.std.proofs.lemmas.Bool.{eqb-true}
use Rattle.std.proofs.lemmas.Slice.Eq.{bytes_eq-Decides}
use Rattle.std.proofs.lemmas.Str.{IsUtf8-nil, chars-IsAscii, encodes-chars, encodes-IsAscii}
use Rattle.std.proofs.lemmas.Str.Ascii.{IsAscii-nil}
use Rattle.atspi_types.specs.Data.{Data, text_data}
use Rattle.atspi_base.specs.valid_names.Names.{is_bus_name}
use Rattle.atspi_base.proofs.OfValidNames.NameLemmas.{IsAscii-IsBusName, IsBusName-from_test}
use Rattle.atspi_protocol.specs.following.Replied.{is_unique_name_alone}
use Rattle.atspi_reader_told.specs.inner.Alone.{text_alone, unique_if}

same_text : (a b cs : List ℕ) → IsUtf8 a → IsUtf8 b → chars a ≡ cs → bytes_eq a b ≡ bytes_eq cs (chars b)
same_text a b cs u v e = by (bytes_eq a b) refl (bytes_eq cs (chars b)) refl
  where
    by : (s : Bool) → bytes_eq a b ≡ s → (t : Bool) → bytes_eq cs (chars b) ≡ t → s ≡ t
    by true p true q = refl
    by false p false q = refl
    by true p false q = let z = (bytes_eq-Decides cs (chars b)).1 (sym e ∙ ap chars ((bytes_eq-Decides a b).0 p)) in absurd cc
    by false p true q =
        let z = (bytes_eq-Decides a b).1 (sym (encodes-chars a u) ∙ ap encode_utf8_all (e ∙ (bytes_eq-Decides cs (chars b)).0 q) ∙ encodes-chars b v) in absurd cc

empty_bytes : (bytes : List ℕ) → (length bytes == 0) ≡ bytes_eq bytes []
empty_bytes [] = refl
empty_bytes (b ∷ bytes) = by (length (b ∷ bytes) == 0) refl (bytes_eq (b ∷ bytes) []) refl
  where
    by : (s : Bool) → (length (b ∷ bytes) == 0) ≡ s → (t : Bool) → bytes_eq (b ∷ bytes) [] ≡ t → s ≡ t
    by true e t f = let z = eqb-true (length (b ∷ bytes)) 0 e in absurd (omega (arith, z))
    by false e true f = let z = (bytes_eq-Decides (b ∷ bytes) []).0 f in absurd cc
    by false e false f = refl

-- a text is empty where it has no character
pub empty_text : (bytes : List ℕ) → IsUtf8 bytes → (length bytes == 0) ≡ bytes_eq (chars bytes) []
empty_text bytes u = empty_bytes bytes ∙ same_text bytes [] (chars bytes) u IsUtf8-nil refl ∙ ap (bytes_eq (chars bytes)) (chars-IsAscii [] IsAscii-nil)

pub name_chars : (name : List ℕ) → is_bus_name name ≡ true → chars name ≡ name
name_chars name e = chars-IsAscii name (IsAscii-IsBusName name (IsBusName-from_test name e))

-- the bytes of a text are a bus name where its characters are
pub same_name : (text : List ℕ) → IsUtf8 text → is_bus_name (chars text) ≡ is_bus_name text
same_name text utf8 =
    both_ways (is_bus_name (chars text)) (is_bus_name text)
    (λ e. ap is_bus_name (sym (encodes-chars text utf8) ∙ encodes-IsAscii (chars text) (IsAscii-IsBusName (chars text) (IsBusName-from_test (chars text) e))) ∙ e)
    (λ e. ap is_bus_name (name_chars text e) ∙ e)

-- a unique name alone is the one text, and that a unique name
pub alone_is : (body : List Data) → unique_if (text_alone body) ≡ is_unique_name_alone body
alone_is (text_data name ∷ []) = refl
alone_is (text_data name ∷ (d ∷ ds)) = refl
alone_is _ = refl
