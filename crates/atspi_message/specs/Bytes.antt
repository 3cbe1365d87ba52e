-- What a message is spelled as (D-Bus Specification, "Message Format").
use Rattle.std.specs.Prelude.{◌≡◌, ◌⊎◌, ◌<◌, ◌≤◌, ◌^◌, ◌+◌, ◌==◌, ℕ, List, [], ◌∷◌, ◌++◌, length, map, Option, Some}
use Rattle.std.specs.Prelude.{None, if◌then◌else◌}
use Rattle.std.specs.Int.{w32}
use Rattle.atspi_types.specs.Kinds.{Kind, Kinds, number, text, path, signature, structure, array, variant, byte, u32}
use Rattle.atspi_types.specs.Kinds.{no_kinds, kind}
use Rattle.atspi_types.specs.Data.{Data, Items, number_data, text_data, path_data, signature_data, array_data}
use Rattle.atspi_types.specs.Data.{structure_data, variant_data, no_items, item, items_of, types_of}
use Rattle.atspi_types.specs.Signatures.{IsSignature}
use Rattle.atspi_types.specs.declared.fault.Order.{Order}
use Rattle.atspi_types.specs.declared.fault.Order.TheVariants.{Little, Big}
use Rattle.atspi_marshal.specs.Input.{number_bytes, aligned}
use Rattle.atspi_marshal.specs.Spelling.{spelling, spellings, padding, Fits, FieldsFit}
use Rattle.atspi_message.specs.Envelope.{Envelope}
use Rattle.atspi_message.specs.Rules.{MeetsRules, HasNames}

-- A field of a header: its code, and its value with its type. It is marshaled as a struct of the code and a variant.
pub record Field : Type 0 where
  pub code : ℕ
  pub kind : Kind
  pub value : Data

abbrev pub field_kind : Kind
field_kind = structure (kind (number byte) (kind variant no_kinds))

abbrev pub field_data : Field → Data
field_data f = structure_data (item (number_data byte f.code) (item (variant_data f.kind f.value) no_items))

abbrev pub field_items : List Field → Items
field_items fs = items_of (map field_data fs)

-- the byte that tells the order of the others: l or B
abbrev pub order_byte : Order → ℕ
order_byte Little = 108
order_byte Big = 66

-- where the body begins: behind the fields, at a multiple of 8
unfoldable pub body_place : Order → List Field → ℕ
body_place o fs = aligned 8 (16 + length (spellings o 16 (field_items fs)))

-- the body: its values one behind the other
unfoldable pub body_bytes : Envelope → List Field → List ℕ
body_bytes e fs = spellings e.order (body_place e.order fs) (items_of e.body)

-- The header, of types yyyyuua(yv): the order, the type, the flags and the version 1; the length of the body, the
-- serial, and the array of fields
unfoldable pub header_bytes : Envelope → List Field → List ℕ
header_bytes e fs =
    order_byte e.order ∷ e.kind ∷ e.flags ∷ 1 ∷ (number_bytes e.order w32 (length (body_bytes e fs))
    ++ (number_bytes e.order w32 e.serial ++ spelling e.order 12 (array_data field_kind (field_items fs))))

-- a message with such fields: its header, zeros up to a multiple of 8, and its body
unfoldable pub spelled_with : Envelope → List Field → List ℕ
spelled_with e fs = header_bytes e fs ++ (padding 8 (length (header_bytes e fs)) ++ body_bytes e fs)

-- the values of the fields with a code
abbrev pub with_code : ℕ → List Field → List Data
with_code c [] = []
with_code c (f ∷ fs) = if f.code == c then f.value ∷ with_code c fs else with_code c fs

-- one value, or none
abbrev pub at_most_one : {A : Type 0} → (A → Data) → Option A → List Data
at_most_one view (Some x) = view x ∷ []
at_most_one view None = []

-- The fields with codes 1 to 9 are those of the message, each at most once and in any order; SIGNATURE has the types of
-- the body, UNIX_FDS is 0. An empty SIGNATURE and UNIX_FDS may be left out. Fields with larger codes belong to nothing.
pub record HasFields (e : Envelope) (fs : List Field) : Type 0 where
  pub no_code : with_code 0 fs ≡ []
  pub path : with_code 1 fs ≡ at_most_one path_data e.path
  pub interface : with_code 2 fs ≡ at_most_one text_data e.interface
  pub member : with_code 3 fs ≡ at_most_one text_data e.member
  pub error : with_code 4 fs ≡ at_most_one text_data e.error
  pub reply : with_code 5 fs ≡ at_most_one (number_data u32) e.reply
  pub destination : with_code 6 fs ≡ at_most_one text_data e.destination
  pub sender : with_code 7 fs ≡ at_most_one text_data e.sender
  pub signature : (with_code 8 fs ≡ signature_data (types_of (items_of e.body)) ∷ [])
      ⊎ ((e.body ≡ []) × (with_code 8 fs ≡ []))
  pub descriptors : (with_code 9 fs ≡ number_data u32 0 ∷ []) ⊎ (with_code 9 fs ≡ [])

-- The limits: numbers of the header in their widths, arrays of at most 64 MiB, 64 containers in one another, types of
-- the body that are a signature, and 128 MiB in all
pub record FitsWire (e : Envelope) (fs : List Field) : Type 0 where
  pub kind : e.kind < 256
  pub flags : e.flags < 256
  pub serial : e.serial < 2 ^ 32
  pub fields : Fits e.order 64 12 (array_data field_kind (field_items fs)) (array field_kind)
  pub types : IsSignature (types_of (items_of e.body))
  pub body : FieldsFit e.order 64 (body_place e.order fs) (items_of e.body) (types_of (items_of e.body))
  pub short : length (spelled_with e fs) ≤ 134217728

-- These bytes are the message: it meets the rules, and the bytes spell it with some fields.
pub record IsMessage (e : Envelope) (bytes : List ℕ) : Type 0 where
  pub meets : MeetsRules e
  pub named : HasNames e
  pub fields : List Field
  pub held : HasFields e fields
  pub fits : FitsWire e fields
  pub spelled : bytes ≡ spelled_with e fields

-- the fields in rising order of their codes, each only where it is there, SIGNATURE where the body is not empty
abbrev pub field_if : {A : Type 0} → ℕ → Kind → (A → Data) → Option A → List Field
field_if code k view (Some x) = record { code = code; kind = k; value = view x } ∷ []
field_if code k view None = []

abbrev pub signature_if : List Data → List Field
signature_if [] = []
signature_if (d ∷ ds) = record { code = 8; kind = signature; value = signature_data (types_of (items_of (d ∷ ds))) }
    ∷ []

unfoldable pub rising_fields : Envelope → List Field
rising_fields e =
    field_if 1 path path_data e.path ++ (field_if 2 text text_data e.interface ++ (field_if 3 text text_data e.member
    ++ (field_if 4 text text_data e.error ++ (field_if 5 (number u32) (number_data u32) e.reply
    ++ (field_if 6 text text_data e.destination ++ (field_if 7 text text_data e.sender ++ signature_if e.body))))))

-- the form that is written: with these fields
abbrev pub written : Envelope → List ℕ
written e = spelled_with e (rising_fields e)
