-- Reading one value after the other: what is made of the next one is made of what came.
use Rattle.std.proofs.Common.{◌≡◌, ℕ, ℤ, List, [], ◌∷◌, Option, Some, None, refl}
use Rattle.std.specs.Prelude.{option_and_then}
use Rattle.atspi_types.specs.Kinds.{number, boolean, text, path, signature, array, structure, variant, dictionary, byte, i16, u16, i32, u32, i64, u64, double}
use Rattle.atspi_types.specs.Data.{Data, number_data, boolean_data, text_data, path_data, signature_data, array_data, structure_data, dictionary_data, variant_data}
use Rattle.atspi_tree_model.specs.declared.news.Reference.{Reference}
use Rattle.atspi_protocol.specs.news.Arguments.{then_text, then_path, then_signed, then_unsigned, then_texts, then_numbers, then_reference, reference_in}
use Rattle.atspi_reader_news.specs.Seen.{together}

-- what is made of a pair
abbrev pub of_pair : {X A : Type 0} → (X → List Data → Option A) → X × List Data → Option A
of_pair made p = made p.0 p.1

pub text_via : {A : Type 0} (made : List ℕ → List Data → Option A) (old : List Data) → then_text made old ≡ option_and_then (of_pair made) (then_text together old)
text_via made [] = refl
text_via made (number_data n x ∷ ds) = refl
text_via made (boolean_data b ∷ ds) = refl
text_via made (text_data cs ∷ ds) = refl
text_via made (path_data bs ∷ ds) = refl
text_via made (signature_data ks ∷ ds) = refl
text_via made (array_data k es ∷ ds) = refl
text_via made (structure_data es ∷ ds) = refl
text_via made (dictionary_data k v es ∷ ds) = refl
text_via made (variant_data k d ∷ ds) = refl

pub path_via : {A : Type 0} (made : List ℕ → List Data → Option A) (old : List Data) → then_path made old ≡ option_and_then (of_pair made) (then_path together old)
path_via made [] = refl
path_via made (number_data n x ∷ ds) = refl
path_via made (boolean_data b ∷ ds) = refl
path_via made (text_data cs ∷ ds) = refl
path_via made (path_data bs ∷ ds) = refl
path_via made (signature_data ks ∷ ds) = refl
path_via made (array_data k es ∷ ds) = refl
path_via made (structure_data es ∷ ds) = refl
path_via made (dictionary_data k v es ∷ ds) = refl
path_via made (variant_data k d ∷ ds) = refl

pub signed_via : {A : Type 0} (made : ℤ → List Data → Option A) (old : List Data) → then_signed made old ≡ option_and_then (of_pair made) (then_signed together old)
signed_via made [] = refl
signed_via made (number_data byte x ∷ ds) = refl
signed_via made (number_data i16 x ∷ ds) = refl
signed_via made (number_data u16 x ∷ ds) = refl
signed_via made (number_data i32 x ∷ ds) = refl
signed_via made (number_data u32 x ∷ ds) = refl
signed_via made (number_data i64 x ∷ ds) = refl
signed_via made (number_data u64 x ∷ ds) = refl
signed_via made (number_data double x ∷ ds) = refl
signed_via made (boolean_data b ∷ ds) = refl
signed_via made (text_data cs ∷ ds) = refl
signed_via made (path_data bs ∷ ds) = refl
signed_via made (signature_data ks ∷ ds) = refl
signed_via made (array_data k es ∷ ds) = refl
signed_via made (structure_data es ∷ ds) = refl
signed_via made (dictionary_data k v es ∷ ds) = refl
signed_via made (variant_data k d ∷ ds) = refl

pub unsigned_via : {A : Type 0} (made : ℕ → List Data → Option A) (old : List Data) → then_unsigned made old ≡ option_and_then (of_pair made) (then_unsigned together old)
unsigned_via made [] = refl
unsigned_via made (number_data byte x ∷ ds) = refl
unsigned_via made (number_data i16 x ∷ ds) = refl
unsigned_via made (number_data u16 x ∷ ds) = refl
unsigned_via made (number_data i32 x ∷ ds) = refl
unsigned_via made (number_data u32 x ∷ ds) = refl
unsigned_via made (number_data i64 x ∷ ds) = refl
unsigned_via made (number_data u64 x ∷ ds) = refl
unsigned_via made (number_data double x ∷ ds) = refl
unsigned_via made (boolean_data b ∷ ds) = refl
unsigned_via made (text_data cs ∷ ds) = refl
unsigned_via made (path_data bs ∷ ds) = refl
unsigned_via made (signature_data ks ∷ ds) = refl
unsigned_via made (array_data k es ∷ ds) = refl
unsigned_via made (structure_data es ∷ ds) = refl
unsigned_via made (dictionary_data k v es ∷ ds) = refl
unsigned_via made (variant_data k d ∷ ds) = refl

pub texts_via : {A : Type 0} (made : List (List ℕ) → List Data → Option A) (old : List Data) → then_texts made old ≡ option_and_then (of_pair made) (then_texts together old)
texts_via made [] = refl
texts_via made (number_data n x ∷ ds) = refl
texts_via made (boolean_data b ∷ ds) = refl
texts_via made (text_data cs ∷ ds) = refl
texts_via made (path_data bs ∷ ds) = refl
texts_via made (signature_data ks ∷ ds) = refl
texts_via made (array_data (number n) es ∷ ds) = refl
texts_via made (array_data boolean es ∷ ds) = refl
texts_via made (array_data text es ∷ ds) = refl
texts_via made (array_data path es ∷ ds) = refl
texts_via made (array_data signature es ∷ ds) = refl
texts_via made (array_data (array k) es ∷ ds) = refl
texts_via made (array_data (structure ks) es ∷ ds) = refl
texts_via made (array_data variant es ∷ ds) = refl
texts_via made (array_data (dictionary k v) es ∷ ds) = refl
texts_via made (structure_data es ∷ ds) = refl
texts_via made (dictionary_data k v es ∷ ds) = refl
texts_via made (variant_data k d ∷ ds) = refl

pub numbers_via : {A : Type 0} (made : List ℕ → List Data → Option A) (old : List Data) → then_numbers made old ≡ option_and_then (of_pair made) (then_numbers together old)
numbers_via made [] = refl
numbers_via made (number_data n x ∷ ds) = refl
numbers_via made (boolean_data b ∷ ds) = refl
numbers_via made (text_data cs ∷ ds) = refl
numbers_via made (path_data bs ∷ ds) = refl
numbers_via made (signature_data ks ∷ ds) = refl
numbers_via made (array_data (number byte) es ∷ ds) = refl
numbers_via made (array_data (number i16) es ∷ ds) = refl
numbers_via made (array_data (number u16) es ∷ ds) = refl
numbers_via made (array_data (number i32) es ∷ ds) = refl
numbers_via made (array_data (number u32) es ∷ ds) = refl
numbers_via made (array_data (number i64) es ∷ ds) = refl
numbers_via made (array_data (number u64) es ∷ ds) = refl
numbers_via made (array_data (number double) es ∷ ds) = refl
numbers_via made (array_data boolean es ∷ ds) = refl
numbers_via made (array_data text es ∷ ds) = refl
numbers_via made (array_data path es ∷ ds) = refl
numbers_via made (array_data signature es ∷ ds) = refl
numbers_via made (array_data (array k) es ∷ ds) = refl
numbers_via made (array_data (structure ks) es ∷ ds) = refl
numbers_via made (array_data variant es ∷ ds) = refl
numbers_via made (array_data (dictionary k v) es ∷ ds) = refl
numbers_via made (structure_data es ∷ ds) = refl
numbers_via made (dictionary_data k v es ∷ ds) = refl
numbers_via made (variant_data k d ∷ ds) = refl

reference_found : {A : Type 0} (made : Reference → List Data → Option A) (o : Option Reference) (ds : List Data)
    → option_and_then (λ r. made r ds) o ≡ option_and_then (of_pair made) (option_and_then (λ r. together r ds) o)
reference_found made None ds = refl
reference_found made (Some r) ds = refl

pub reference_via : {A : Type 0} (made : Reference → List Data → Option A) (old : List Data) → then_reference made old ≡ option_and_then (of_pair made) (then_reference together old)
reference_via made [] = refl
reference_via made (d ∷ ds) = reference_found made (reference_in d) ds
