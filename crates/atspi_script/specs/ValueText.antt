-- What a value is written as in the text of a message (this profile).
use Rattle.std.specs.Prelude.{ℕ, Bool, List, [], ◌∷◌, ◌++◌, codes, if◌then◌else◌}
use Rattle.std.specs.Int.{w16, w32, w64, cast_signed}
use Rattle.std.specs.Fmt.{decimal, signed_decimal}
use Rattle.atspi_base.specs.Quoted.{in_quotes, quoted}
use Rattle.atspi_base.specs.Digits.{hex_digits}
use Rattle.atspi_types.specs.Kinds.{Num, byte, i16, u16, i32, u32, i64, u64, double}
use Rattle.atspi_types.specs.Signatures.{type_bytes, signature_bytes}
use Rattle.atspi_types.specs.Data.{Data, number_data, boolean_data, text_data, path_data, signature_data, array_data}
use Rattle.atspi_types.specs.Data.{structure_data, dictionary_data, variant_data, Items, no_items, item, Entries}
use Rattle.atspi_types.specs.Data.{no_entries, entry}
use Rattle.atspi_script.specs.Spaced.{in_brackets}

-- an integer in decimal, of the number that its bits are; a double as `0x` and the 16 hex digits of its bits
abbrev pub number_text : Num → ℕ → List ℕ
number_text byte n = decimal n
number_text i16 n = signed_decimal (cast_signed w16 n)
number_text u16 n = decimal n
number_text i32 n = signed_decimal (cast_signed w32 n)
number_text u32 n = decimal n
number_text i64 n = signed_decimal (cast_signed w64 n)
number_text u64 n = decimal n
number_text double n = codes "0x" ++ hex_digits 16 n

-- `true` or `false`
abbrev pub boolean_text : Bool → List ℕ
boolean_text b = if b then codes "true" else codes "false"

-- the text of an entry, from those of its key and its value
abbrev pub in_braces : List ℕ → List ℕ → List ℕ
in_braces key value = in_brackets 123 (key ∷ value ∷ []) 125

-- Numbers and booleans; texts, paths and signatures in quotes; arrays `[..]`, structs `(..)`, dictionaries
-- `[{KEY VALUE} ..]` and variants `<SIGNATURE VALUE>`, with one space between the values in a bracket and none at the
-- bracket.
abbrev mutual
  pub value_text : Data → List ℕ
  value_text (number_data m n) = number_text m n
  value_text (boolean_data b) = boolean_text b
  value_text (text_data characters) = quoted characters
  value_text (path_data bytes) = in_quotes bytes
  value_text (signature_data ks) = in_quotes (signature_bytes ks)
  value_text (array_data k ds) = in_brackets 91 (value_texts ds) 93
  value_text (structure_data ds) = in_brackets 40 (value_texts ds) 41
  value_text (dictionary_data k v es) = in_brackets 91 (entry_texts es) 93
  value_text (variant_data k d) = in_brackets 60 (type_bytes k ∷ value_text d ∷ []) 62

  -- the texts of values
  pub value_texts : Items → List (List ℕ)
  value_texts no_items = []
  value_texts (item d ds) = value_text d ∷ value_texts ds

  -- the texts of entries, each `{KEY VALUE}`
  pub entry_texts : Entries → List (List ℕ)
  entry_texts no_entries = []
  entry_texts (entry key value es) = in_braces (value_text key) (value_text value) ∷ entry_texts es
