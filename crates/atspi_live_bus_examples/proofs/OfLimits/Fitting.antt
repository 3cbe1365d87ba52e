-- What fits the wire, and what does not.
use Rattle.std.proofs.Common.{◌≡◌, ℕ, ◌<◌, ◌≤◌, List, [], ◌∷◌, ◌++◌, length, refl, length-append, arith}
use Rattle.std.specs.Int.{w32}
use Rattle.atspi_types.specs.declared.fault.Order.{Order}
use Rattle.atspi_types.specs.Kinds.{number, text, path, byte, u32}
use Rattle.atspi_types.specs.Data.{number_data, text_data, path_data, variant_data}
use Rattle.atspi_types.specs.Signatures.{IsSignature, signature_bytes}
use Rattle.atspi_marshal.specs.Input.{number_bytes, aligned}
use Rattle.atspi_marshal.specs.Spelling.{single, padding, counted_short, spelling, spellings}
use Rattle.atspi_message.specs.Envelope.{Envelope}
use Rattle.atspi_message.specs.Bytes.{FitsWire, Field, field_data, field_items, field_if, signature_if, rising_fields, spelled_with, header_bytes, body_bytes, body_place}
use Rattle.atspi_live_bus_examples.specs.limits.Sized.{bare, signed, with_path}

pub bare-fits : FitsWire bare (rising_fields bare)
unfolding rising_fields spelled_with header_bytes body_bytes body_place
bare-fits = record {
  kind = omega arith;
  flags = omega arith;
  serial = omega arith;
  fields = (refl, omega arith, tt);
  types = record { lawful = tt; fits = record { short = omega arith; arrays = omega arith; structs = omega arith } };
  body = tt;
  short = omega arith;
}

text-signs : IsSignature (single text)
text-signs = record { lawful = (tt, tt); fits = record { short = omega arith; arrays = omega arith; structs = omega arith } }

pub signed-fits : FitsWire signed (rising_fields signed)
unfolding lib.Utf8.encode rising_fields spelled_with header_bytes body_bytes body_place
signed-fits =
    let all : length (spelled_with signed (rising_fields signed)) ≡ 32 = refl in
    record {
      kind = omega arith;
      flags = omega arith;
      serial = omega arith;
      fields = (refl, omega (arith, all), (((refl, omega arith), ((text-signs, (refl, refl, omega arith)), tt)), tt));
      types = record { lawful = tt; fits = record { short = omega arith; arrays = omega arith; structs = omega arith } };
      body = tt;
      short = omega (arith, all);
    }

-- a list is as long as a part of it
behind : (n : ℕ) (a b : List ℕ) → n ≤ length b → n ≤ length (a ++ b)
behind n a b h = omega (arith, h, length-append a b)

before : (n : ℕ) (a b : List ℕ) → n ≤ length a → n ≤ length (a ++ b)
before n a b h = omega (arith, h, length-append a b)

same : (n : ℕ) → n ≤ n
same n = omega arith

abbrev path_field : List ℕ → Field
path_field bytes = record { code = 1; kind = path; value = path_data bytes }

in_field : (o : Order) (at : ℕ) (bytes : List ℕ) → length bytes ≤ length (spelling o at (field_data (path_field bytes)))
in_field o at bytes =
    behind _ (padding 8 at) _ (behind _ (spelling o (aligned 8 at) (number_data byte 1)) _ (before _ (spelling o _ (variant_data path (path_data bytes))) []
    (behind _ (counted_short (signature_bytes (single path))) _ (behind _ (padding 4 _) _ (behind _ (number_bytes o w32 (length bytes)) _ (before _ bytes (0 ∷ []) (same _)))))))

first_field : (o : Order) (at : ℕ) (f : Field) (fs : List Field) → length (spelling o at (field_data f)) ≤ length (spellings o at (field_items (f ∷ fs)))
first_field o at f fs = before _ (spelling o at (field_data f)) (spellings o _ (field_items fs)) (same _)

-- the bytes of a path are fewer than those of all fields
pub long-path : (e : Envelope) (bytes : List ℕ) → 67108864 < length bytes → FitsWire (with_path bytes e) (rising_fields (with_path bytes e)) → ⊥
unfolding rising_fields
long-path e bytes long fits =
    let others : List Field =
    field_if 2 text text_data e.interface ++ (field_if 3 text text_data e.member ++ (field_if 4 text text_data e.error
    ++ (field_if 5 (number u32) (number_data u32) e.reply ++ (field_if 6 text text_data e.destination ++ (field_if 7 text text_data e.sender ++ signature_if e.body))))) in
    let short : length (spellings e.order 16 (field_items (path_field bytes ∷ others))) ≤ 67108864 = fits.fields.1 in
    omega (arith, long, short, first_field e.order 16 (path_field bytes) others, in_field e.order 16 bytes)
