-- A value of another type is not what is read next.
use Rattle.std.proofs.Common.{◌≡◌, List, ◌∷◌, None, IsTrue, refl}
use Rattle.atspi_types.specs.Kinds.{number, text, path, variant, byte, i16, u16, i32, u32, i64, u64, double}
use Rattle.atspi_types.specs.Data.{Data, number_data, boolean_data, text_data, path_data, signature_data, array_data, structure_data, dictionary_data, variant_data, type_of}
use Rattle.atspi_marshal_in_place.specs.codes.Codes.{is_array, is_structure}
use Rattle.atspi_protocol.specs.news.Arguments.{then_text, then_path, then_signed, then_unsigned, then_variant, then_texts, then_numbers, reference_in}
use Rattle.atspi_reader_news.specs.Seen.{together}

pub no_text : (d : Data) (ds : List Data) → (type_of d ≡ text → ⊥) → then_text together (d ∷ ds) ≡ None
no_text (number_data n x) ds other = refl
no_text (boolean_data b) ds other = refl
no_text (text_data cs) ds other = absurd (other refl)
no_text (path_data bs) ds other = refl
no_text (signature_data ks) ds other = refl
no_text (array_data k es) ds other = refl
no_text (structure_data es) ds other = refl
no_text (dictionary_data k v es) ds other = refl
no_text (variant_data k d) ds other = refl

pub no_path : (d : Data) (ds : List Data) → (type_of d ≡ path → ⊥) → then_path together (d ∷ ds) ≡ None
no_path (number_data n x) ds other = refl
no_path (boolean_data b) ds other = refl
no_path (text_data cs) ds other = refl
no_path (path_data bs) ds other = absurd (other refl)
no_path (signature_data ks) ds other = refl
no_path (array_data k es) ds other = refl
no_path (structure_data es) ds other = refl
no_path (dictionary_data k v es) ds other = refl
no_path (variant_data k d) ds other = refl

pub no_signed : (d : Data) (ds : List Data) → (type_of d ≡ number i32 → ⊥) → then_signed together (d ∷ ds) ≡ None
no_signed (number_data byte x) ds other = refl
no_signed (number_data i16 x) ds other = refl
no_signed (number_data u16 x) ds other = refl
no_signed (number_data i32 x) ds other = absurd (other refl)
no_signed (number_data u32 x) ds other = refl
no_signed (number_data i64 x) ds other = refl
no_signed (number_data u64 x) ds other = refl
no_signed (number_data double x) ds other = refl
no_signed (boolean_data b) ds other = refl
no_signed (text_data cs) ds other = refl
no_signed (path_data bs) ds other = refl
no_signed (signature_data ks) ds other = refl
no_signed (array_data k es) ds other = refl
no_signed (structure_data es) ds other = refl
no_signed (dictionary_data k v es) ds other = refl
no_signed (variant_data k d) ds other = refl

pub no_unsigned : (d : Data) (ds : List Data) → (type_of d ≡ number u32 → ⊥) → then_unsigned together (d ∷ ds) ≡ None
no_unsigned (number_data byte x) ds other = refl
no_unsigned (number_data i16 x) ds other = refl
no_unsigned (number_data u16 x) ds other = refl
no_unsigned (number_data i32 x) ds other = refl
no_unsigned (number_data u32 x) ds other = absurd (other refl)
no_unsigned (number_data i64 x) ds other = refl
no_unsigned (number_data u64 x) ds other = refl
no_unsigned (number_data double x) ds other = refl
no_unsigned (boolean_data b) ds other = refl
no_unsigned (text_data cs) ds other = refl
no_unsigned (path_data bs) ds other = refl
no_unsigned (signature_data ks) ds other = refl
no_unsigned (array_data k es) ds other = refl
no_unsigned (structure_data es) ds other = refl
no_unsigned (dictionary_data k v es) ds other = refl
no_unsigned (variant_data k d) ds other = refl

pub no_variant : (d : Data) (ds : List Data) → (type_of d ≡ variant → ⊥) → then_variant together (d ∷ ds) ≡ None
no_variant (number_data n x) ds other = refl
no_variant (boolean_data b) ds other = refl
no_variant (text_data cs) ds other = refl
no_variant (path_data bs) ds other = refl
no_variant (signature_data ks) ds other = refl
no_variant (array_data k es) ds other = refl
no_variant (structure_data es) ds other = refl
no_variant (dictionary_data k v es) ds other = refl
no_variant (variant_data k d) ds other = absurd (other refl)

pub no_texts : (d : Data) (ds : List Data) → (IsTrue (is_array (type_of d)) → ⊥) → then_texts together (d ∷ ds) ≡ None
no_texts (number_data n x) ds other = refl
no_texts (boolean_data b) ds other = refl
no_texts (text_data cs) ds other = refl
no_texts (path_data bs) ds other = refl
no_texts (signature_data ks) ds other = refl
no_texts (array_data k es) ds other = absurd (other refl)
no_texts (structure_data es) ds other = refl
no_texts (dictionary_data k v es) ds other = refl
no_texts (variant_data k d) ds other = refl

pub no_numbers : (d : Data) (ds : List Data) → (IsTrue (is_array (type_of d)) → ⊥) → then_numbers together (d ∷ ds) ≡ None
no_numbers (number_data n x) ds other = refl
no_numbers (boolean_data b) ds other = refl
no_numbers (text_data cs) ds other = refl
no_numbers (path_data bs) ds other = refl
no_numbers (signature_data ks) ds other = refl
no_numbers (array_data k es) ds other = absurd (other refl)
no_numbers (structure_data es) ds other = refl
no_numbers (dictionary_data k v es) ds other = refl
no_numbers (variant_data k d) ds other = refl

pub no_reference : (d : Data) → (IsTrue (is_structure (type_of d)) → ⊥) → reference_in d ≡ None
no_reference (number_data n x) other = refl
no_reference (boolean_data b) other = refl
no_reference (text_data cs) other = refl
no_reference (path_data bs) other = refl
no_reference (signature_data ks) other = refl
no_reference (array_data k es) other = refl
no_reference (structure_data es) other = absurd (other refl)
no_reference (dictionary_data k v es) other = refl
no_reference (variant_data k d) other = refl
