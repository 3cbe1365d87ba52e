-- What is wrong with the bytes of a message, and which fault is told (D-Bus Specification, "Message Format").
use Rattle.std.specs.Prelude.{◌≡◌, ◌≢◌, ◌⊎◌, ◌<◌, ◌≤◌, ◌+◌, ℕ, List, [], ◌∷◌, length, take}
use Rattle.std.specs.Int.{w32}
use Rattle.atspi_types.specs.Kinds.{Kind, Kinds, number, text, path, signature, variant, u32, no_kinds}
use Rattle.atspi_types.specs.Data.{Data, Items, signature_data}
use Rattle.atspi_types.specs.Signatures.{signature_bytes, IsSignature}
use Rattle.atspi_marshal.specs.declared.input.Bound.{Bound}
use Rattle.atspi_marshal.specs.Input.{Input, Stands, to_end, number_in, byte_in, aligned}
use Rattle.atspi_marshal.specs.Spelling.{spellings, single, FieldsFit}
use Rattle.atspi_marshal.specs.Faults.{AreItems, IsInside, HasFront, Wrong, WrongField, long_in, short_in}
use Rattle.atspi_message.specs.declared.code.Code.{Code}
use Rattle.atspi_message.specs.declared.code.Code.TheVariants.{Reply, Descriptors}
use Rattle.atspi_message.specs.Codes.{number_of, kind_for, letter_of, IsText, IsNameFor}
use Rattle.atspi_message.specs.Bytes.{Field, field_kind, field_items, with_code}
use Rattle.atspi_message.specs.Front.{input_in, type_in, fields_end_in, body_place_in, WrongFront, IsFirst}
use Rattle.atspi_message.specs.Front.{IsSoundFront}

-- where the fields of a header end; what passes that has reason 18
abbrev pub fields_bound : List ℕ → Bound
fields_bound bytes = record { end = fields_end_in bytes; reason = 18 }

-- these fields are spelled from the first on up to a place
abbrev pub FieldsStand : List ℕ → List Field → ℕ → Type 0
FieldsStand bytes fs next = AreItems (input_in bytes) 63 field_kind (fields_bound bytes) 16 next (field_items fs)

-- no field has the code
abbrev pub Lacks : ℕ → List Field → Type 0
Lacks c fs = with_code c fs ≡ []

-- the variant at `at` has the type of the field c, by a signature of one byte
abbrev pub IsTyped : Input → Bound → Code → ℕ → Type 0
IsTyped i b c at = IsInside i variant b at × (byte_in i at ≡ 1) × (byte_in i (at + 1) ≡ letter_of c)

-- what is wrong with a field at p, behind others, beside what is wrong with any struct of a byte and a variant
pub data WrongAlone (i : Input) (b : Bound) (fs : List Field) (p : ℕ) : ℕ → ℕ → Type 0 where
  -- code 0
  no_code : p + 1 ≤ b.end → byte_in i p ≡ 0 → WrongAlone i b fs p p 28
  -- a known field of another type: by a well-formed signature of one type
  other_type : (c : Code) (k : Kind) → byte_in i p ≡ number_of c → IsInside i variant b (p + 1)
      → short_in i (p + 1) ≡ signature_bytes (single k) → IsSignature (single k) → k ≢ kind_for c
      → WrongAlone i b fs p (p + 1) 29
  -- a known field the second time
  second : (c : Code) → p + 1 ≤ b.end → byte_in i p ≡ number_of c → (Lacks (number_of c) fs → ⊥)
      → WrongAlone i b fs p p 30
  -- a name outside its rule
  no_name : (c : Code) → byte_in i p ≡ number_of c → IsTyped i b c (p + 1) → IsText c → IsInside i text b (p + 4)
      → (IsNameFor c (long_in i (p + 4)) → ⊥) → WrongAlone i b fs p (p + 4) 31
  -- a reply to serial 0
  no_serial : byte_in i p ≡ number_of Reply → IsTyped i b Reply (p + 1) → HasFront i (number u32) b (p + 4)
      → number_in i w32 (p + 4) ≡ 0 → WrongAlone i b fs p (p + 4) 32
  -- passed descriptors
  descriptors : byte_in i p ≡ number_of Descriptors → IsTyped i b Descriptors (p + 1)
      → HasFront i (number u32) b (p + 4) → number_in i w32 (p + 4) ≢ 0 → WrongAlone i b fs p (p + 4) 33

-- a field that the type of message requires is missing
pub data LacksRequired (type : ℕ) (fs : List Field) : Type 0 where
  call : type ≡ 1 → Lacks 1 fs ⊎ Lacks 3 fs → LacksRequired type fs
  return_ : type ≡ 2 → Lacks 5 fs → LacksRequired type fs
  error : type ≡ 3 → Lacks 4 fs ⊎ Lacks 5 fs → LacksRequired type fs
  signal : type ≡ 4 → Lacks 1 fs ⊎ (Lacks 2 fs ⊎ Lacks 3 fs) → LacksRequired type fs

-- the types of the body: those of SIGNATURE, none where it is not there
abbrev pub types_of_value : List Data → Kinds
types_of_value (signature_data ks ∷ ds) = ks
types_of_value _ = no_kinds

abbrev pub body_types : List Field → Kinds
body_types fs = types_of_value (with_code 8 fs)

-- values of these types are spelled from the place of the body up to another
pub record BodyStands (bytes : List ℕ) (ks : Kinds) (ds : Items) (next : ℕ) : Type 0 where
  pub fit : FieldsFit (input_in bytes).order 64 (body_place_in bytes) ds ks
  pub stand
      : Stands (input_in bytes) (body_place_in bytes) (spellings (input_in bytes).order (body_place_in bytes) ds) next
  pub within : next ≤ length bytes

-- WrongMessage bytes place reason: behind a sound front something is wrong at the place, for the reason. What stands
-- behind other things is looked at where those are spelled.
pub data WrongMessage (bytes : List ℕ) : ℕ → ℕ → Type 0 where
  -- in a field
  in_field : (fs : List Field) (next place reason : ℕ) → FieldsStand bytes fs next → next < fields_end_in bytes
      → Wrong (input_in bytes) 63 field_kind (fields_bound bytes) next place reason → WrongMessage bytes place reason
  of_field : (fs : List Field) (next place reason : ℕ) → FieldsStand bytes fs next → next < fields_end_in bytes
      → WrongAlone (input_in bytes) (fields_bound bytes) fs (aligned 8 next) place reason
      → WrongMessage bytes place reason
  -- a required field is missing
  no_required : (fs : List Field) → FieldsStand bytes fs (fields_end_in bytes) → LacksRequired (type_in bytes) fs
      → WrongMessage bytes (fields_end_in bytes) 34
  -- the padding behind the fields
  padding_not_zero : (fs : List Field) (q : ℕ) → FieldsStand bytes fs (fields_end_in bytes) → fields_end_in bytes ≤ q
      → q < body_place_in bytes → byte_in (input_in bytes) q ≢ 0 → WrongMessage bytes q 10
  -- a body without SIGNATURE, or with an empty one
  no_types : (fs : List Field) → FieldsStand bytes fs (fields_end_in bytes) → body_types fs ≡ no_kinds
      → body_place_in bytes < length bytes → WrongMessage bytes (body_place_in bytes) 35
  -- in a value of the body
  in_body : (fs : List Field) (place reason : ℕ) → FieldsStand bytes fs (fields_end_in bytes)
      → WrongField (input_in bytes) 64 (body_types fs) (to_end bytes) (body_place_in bytes) place reason
      → WrongMessage bytes place reason
  -- bytes are left behind the last value
  left_over : (fs : List Field) (ds : Items) (next : ℕ) → FieldsStand bytes fs (fields_end_in bytes)
      → body_types fs ≢ no_kinds → BodyStands bytes (body_types fs) ds next → next < length bytes
      → WrongMessage bytes next 21

-- The fault that is told. What is wrong with the first 16 bytes decides alone.
abbrev pub FirstFault : List ℕ → ℕ → ℕ → Type 0
FirstFault bytes place reason =
    IsFirst (WrongFront (take 16 bytes)) place reason
    ⊎ (IsSoundFront (take 16 bytes) × IsFirst (WrongMessage bytes) place reason)
