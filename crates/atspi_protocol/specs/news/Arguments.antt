-- What the values in a body say, read one after the other (AT-SPI2: a reference is `(so)`, and the arguments of an
-- event are `siiv` and more).
use Rattle.std.specs.Prelude.{ℕ, ℤ, List, [], ◌∷◌, map, Option, Some, None, option_and_then}
use Rattle.std.specs.Int.{w32, cast_signed}
use Rattle.atspi_types.specs.Kinds.{text, number, i32, u32}
use Rattle.atspi_types.specs.Data.{Data, values_in, items_of, types_of, number_data, text_data, path_data, array_data}
use Rattle.atspi_types.specs.Data.{structure_data, variant_data}
use Rattle.atspi_types.specs.Signatures.{signature_bytes}
use Rattle.atspi_tree_model.specs.declared.news.Reference.{Reference}

-- the signature of a body
abbrev pub signature_of : List Data → List ℕ
signature_of body = signature_bytes (types_of (items_of body))

-- the number that 32 bits are in two's complement
abbrev pub signed : ℕ → ℤ
signed bits = cast_signed w32 bits

-- What is made of the next value, where it is a text, and of those behind it; where it is none, nothing is made. The
-- others are alike.
abbrev pub then_text : {A : Type 0} → (List ℕ → List Data → Option A) → List Data → Option A
then_text made (text_data characters ∷ values) = made characters values
then_text made values = None

abbrev pub then_path : {A : Type 0} → (List ℕ → List Data → Option A) → List Data → Option A
then_path made (path_data bytes ∷ values) = made bytes values
then_path made values = None

abbrev pub then_signed : {A : Type 0} → (ℤ → List Data → Option A) → List Data → Option A
then_signed made (number_data i32 bits ∷ values) = made (signed bits) values
then_signed made values = None

abbrev pub then_unsigned : {A : Type 0} → (ℕ → List Data → Option A) → List Data → Option A
then_unsigned made (number_data u32 x ∷ values) = made x values
then_unsigned made values = None

abbrev pub then_variant : {A : Type 0} → (Data → List Data → Option A) → List Data → Option A
then_variant made (variant_data kind value ∷ values) = made value values
then_variant made values = None

-- no further value
abbrev pub then_end : {A : Type 0} → A → List Data → Option A
then_end made [] = Some made
then_end made (value ∷ values) = None

-- the characters of a text, and a number of 32 bits
abbrev pub text_in : Data → List ℕ
text_in (text_data characters) = characters
text_in value = []

abbrev pub number_in : Data → ℕ
number_in (number_data u32 x) = x
number_in value = 0

-- a list of texts, and one of numbers
abbrev pub then_texts : {A : Type 0} → (List (List ℕ) → List Data → Option A) → List Data → Option A
then_texts made (array_data text elements ∷ values) = made (map text_in (values_in elements)) values
then_texts made values = None

abbrev pub then_numbers : {A : Type 0} → (List ℕ → List Data → Option A) → List Data → Option A
then_numbers made (array_data (number u32) elements ∷ values) = made (map number_in (values_in elements)) values
then_numbers made values = None

-- a reference: the bus name and the path of an object
abbrev pub reference_of : List Data → Option Reference
reference_of = then_text (λ bus. then_path (λ path. then_end (record { bus = bus; path = path })))

abbrev pub reference_in : Data → Option Reference
reference_in (structure_data fields) = reference_of (values_in fields)
reference_in value = None

abbrev pub then_reference : {A : Type 0} → (Reference → List Data → Option A) → List Data → Option A
then_reference made [] = None
then_reference made (value ∷ values) = option_and_then (λ reference. made reference values) (reference_in value)

-- the arguments of an event: which minor event it is, two numbers, and a value
pub record Event : Type 0 where
  pub minor : List ℕ
  pub detail1 : ℤ
  pub detail2 : ℤ
  pub value : Data

-- an event is read where the first four arguments are a text, two numbers and a variant; what follows them is ignored
abbrev pub event_in : List Data → Option Event
event_in =
    then_text
    (λ minor. then_signed
    (λ one. then_signed
    (λ two. then_variant
    (λ value more. Some (record { minor = minor; detail1 = one; detail2 = two; value = value })))))
