-- What writing a message answers, and writing some of its fields.
use Rattle.std.specs.Prelude.{◌≡◌, ◌<◌, ◌^◌, ℕ, List, [], ◌∷◌, ◌++◌, length, take, Result}
use Rattle.std.specs.Int.{w32}
use Rattle.atspi_types.specs.Kinds.{number, text, array, u32}
use Rattle.atspi_types.specs.Data.{number_data, text_data, array_data, types_of}
use Rattle.atspi_types.specs.declared.fault.Order.{Order}
use Rattle.atspi_marshal.specs.declared.writing.fault.WriteFault.{WriteFault}
use Rattle.atspi_marshal.specs.Input.{number_bytes}
use Rattle.atspi_marshal.specs.Spelling.{zeros, spelling, spellings, padding, Fits, FieldsFit}
use Rattle.atspi_marshal.specs.Writing.{Writes}
use Rattle.atspi_message.specs.Envelope.{Envelope}
use Rattle.atspi_message.specs.Bytes.{Field, field_kind, field_items, order_byte, field_if, signature_if, rising_fields}

-- what a field begins with: zeros up to a multiple of 8, its code, and a signature of one letter
abbrev pub field_front : ℕ → ℕ → ℕ → List ℕ
field_front at code letter = padding 8 at ++ (code ∷ 1 ∷ letter ∷ 0 ∷ [])

-- fields that stand one behind the other from a place on keep the limits
abbrev pub FieldsFitAt : Order → ℕ → List Field → Type 0
FieldsFitAt o at fs = FieldsFit o 63 at (field_items fs) (types_of (field_items fs))

-- an answer of writing fields at a place: they were, or they do not keep the limits; what stood before them stays
pub record PutsFields (o : Order) (at : ℕ) (fs : List Field) (old new : List ℕ) (r : Result ℕ WriteFault) : Type 0 where
  pub writes : Writes (FieldsFitAt o at fs) (spellings o at (field_items fs)) at old new r
  pub front : take (length old) new ≡ old

-- the fields from REPLY_SERIAL on
abbrev pub later_fields : Envelope → List Field
later_fields e = field_if 5 (number u32) (number_data u32) e.reply
    ++ (field_if 6 text text_data e.destination ++ (field_if 7 text text_data e.sender ++ signature_if e.body))

-- the first twelve bytes of a header, with no length of the body yet
abbrev pub start_bytes : Envelope → List ℕ
start_bytes e = order_byte e.order ∷ e.kind ∷ e.flags ∷ 1 ∷ (zeros 4 ++ number_bytes e.order w32 e.serial)

-- the array of the fields in rising order
abbrev pub fields_bytes : Envelope → List ℕ
fields_bytes e = spelling e.order 12 (array_data field_kind (field_items (rising_fields e)))

abbrev pub HeaderFits : Envelope → Type 0
HeaderFits e = Fits e.order 64 12 (array_data field_kind (field_items (rising_fields e))) (array field_kind)

-- the numbers of a header have their widths
pub record HasWidths (e : Envelope) : Type 0 where
  pub kind : e.kind < 256
  pub flags : e.flags < 256
  pub serial : e.serial < 2 ^ 32
