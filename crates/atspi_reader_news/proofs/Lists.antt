-- Lists of elements, of words of states, and of items; and the arguments of a body.
use Rattle.std.proofs.Common.{◌≡◌, ℕ, List, [], None, IsTrue, refl, sym, ap, ◌∙◌}
use Rattle.std.specs.Prelude.{codes}
use Rattle.atspi_types.specs.Kinds.{Kind, number, text, variant, i32, u32, kinds_of}
use Rattle.atspi_types.specs.Data.{Data, number_data, text_data, array_data, structure_data, variant_data, items_of, type_of}
use Rattle.atspi_types.specs.Signatures.{signature_bytes}
use Rattle.atspi_types.proofs.DataLemmas.{values_in-items_of}
use Rattle.atspi_marshal_in_place.specs.codes.Codes.{is_array, is_structure}
use Rattle.atspi_marshal_in_place.specs.codes.TyRefs.{refs_kinds}
use Rattle.atspi_marshal_in_place.specs.declared.codes.types.TysRef.{TysRef}
use Rattle.atspi_marshal.specs.Reading.{input_of}
use Rattle.atspi_marshal_in_place.specs.Items.{fields_data, fields_kinds}
use Rattle.atspi_marshal_in_place.specs.declared.cursor.Fields.{Fields}
use Rattle.atspi_message_in_place.proofs.ReadTypes.{fields_types}
use Rattle.atspi_protocol.specs.news.Arguments.{signature_of, text_in, number_in}
use Rattle.atspi_protocol.specs.news.CacheSignals.{item_of, item_in}
use Rattle.atspi_reader_news.specs.Seen.{elements_seen, count_seen}

-- values of another type
pub not_text : (d : Data) → (type_of d ≡ text → ⊥) → [] ≡ text_in d
not_text (text_data cs) other = absurd (other refl)
not_text _ other = refl

pub not_number : (d : Data) → (type_of d ≡ number u32 → ⊥) → 0 ≡ number_in d
not_number (number_data u32 x) other = absurd (other refl)
not_number _ other = refl

pub not_item : (d : Data) → (IsTrue (is_structure (type_of d)) → ⊥) → None ≡ item_in d
not_item (structure_data fs) other = absurd (other refl)
not_item _ other = refl

pub item_fields : (d : Data) (fs : List Data) → d ≡ structure_data (items_of fs) → item_in d ≡ item_of fs
item_fields d fs is = ap item_in is ∙ ap item_of (values_in-items_of fs)

pub not_elements : (d : Data) → (IsTrue (is_array (type_of d)) → ⊥) → [] ≡ elements_seen d
not_elements (array_data k es) other = absurd (other refl)
not_elements _ other = refl

pub elements_in : (d : Data) (k : Kind) (es : List Data) → d ≡ array_data k (items_of es) → elements_seen d ≡ es
elements_in d k es is = ap elements_seen is ∙ values_in-items_of es

-- no count in a variant
pub no_count : (d : Data) → (type_of d ≡ variant → ⊥) → None ≡ count_seen d
no_count (variant_data k v) other = absurd (other refl)
no_count _ other = refl

no_number : (k : Kind) (v : Data) → (type_of v ≡ number i32 → ⊥) → None ≡ count_seen (variant_data k v)
no_number k (number_data i32 x) other = absurd (other refl)
no_number k _ other = refl

pub no_count_in : (d v : Data) (k : Kind) → d ≡ variant_data k v → (type_of v ≡ number i32 → ⊥) → None ≡ count_seen d
no_count_in d v k is other = no_number k v other ∙ sym (ap count_seen is)

-- the codes of the types of a body
pub codes_are : (f : Fields) (ts : TysRef) (codes : List ℕ) → codes ≡ signature_bytes (kinds_of (refs_kinds ts)) → refs_kinds ts ≡ fields_kinds f → codes ≡ signature_of (fields_data f)
codes_are f ts codes spelled types =
    spelled ∙ ap (λ (ks : List Kind). signature_bytes (kinds_of ks)) types
    ∙ sym (ap signature_bytes (fields_types (input_of f.input) f.levels (fields_kinds f) f.bound f.at f.known))
