-- Values worked out by hand, one for each case.
use Rattle.std.specs.Prelude.{◌≡◌, true, false, [], ◌∷◌, Ok, Err}
use Rattle.atspi_types.specs.Kinds.{byte, i16, u16, i32, u32, i64, u64, double, number, boolean, text, path, signature}
use Rattle.atspi_types.specs.Kinds.{array, structure, variant, dictionary, no_kinds, kind}
use Rattle.atspi_marshal_in_place.specs.Known.{is_variant, is_simple}
use Rattle.atspi_marshal_in_place.specs.Passing.{is_plain, number_len, numbers_at}
use Rattle.atspi_marshal_in_place.specs.Paths.{is_in_path, may_precede, precede, is_long_path}

pub record BytesArePlain : Type 0 where
  pub zero : is_plain 0 ≡ false
  pub first : is_plain 1 ≡ true
  pub last : is_plain 127 ≡ true
  pub behind : is_plain 128 ≡ false

-- a path of the bytes of /a_1/B: 47 is /, 97 is a, 95 is _, 49 is 1, 66 is B
pub record PathsAreTold : Type 0 where
  pub digits : (is_in_path 48 ≡ true) × (is_in_path 57 ≡ true)
  pub capitals : (is_in_path 65 ≡ true) × (is_in_path 90 ≡ true)
  pub small : (is_in_path 97 ≡ true) × (is_in_path 122 ≡ true)
  pub others : (is_in_path 95 ≡ true) × (is_in_path 47 ≡ true)
  pub refused : (is_in_path 46 ≡ false) × (is_in_path 58 ≡ false) × (is_in_path 64 ≡ false) × (is_in_path 91 ≡ false)
      × (is_in_path 96 ≡ false) × (is_in_path 123 ≡ false)
  pub between : (may_precede 97 47 ≡ true) × (may_precede 47 97 ≡ true)
  pub double : may_precede 47 47 ≡ false
  pub whole : is_long_path (47 ∷ 97 ∷ 95 ∷ 49 ∷ 47 ∷ 66 ∷ []) ≡ true
  pub some : precede 1 2 (46 ∷ 47 ∷ 97 ∷ 47 ∷ 47 ∷ []) ≡ true
  pub more : precede 1 3 (46 ∷ 47 ∷ 97 ∷ 47 ∷ 47 ∷ []) ≡ false
  pub ended : is_long_path (47 ∷ 97 ∷ 47 ∷ []) ≡ false
  pub begun : is_long_path (97 ∷ 47 ∷ 97 ∷ []) ≡ false

pub record NumbersAreSized : Type 0 where
  pub bytes : number_len (number byte) ≡ 1
  pub shorts : (number_len (number i16) ≡ 2) × (number_len (number u16) ≡ 2)
  pub words : (number_len (number i32) ≡ 4) × (number_len (number u32) ≡ 4)
  pub longs : (number_len (number i64) ≡ 8) × (number_len (number u64) ≡ 8) × (number_len (number double) ≡ 8)
  pub booleans : number_len boolean ≡ 0
  pub texts : (number_len text ≡ 0) × (number_len path ≡ 0) × (number_len signature ≡ 0)
  pub arrays : number_len (array (number byte)) ≡ 0
  pub structs : number_len (structure (kind (number u32) no_kinds)) ≡ 0
  pub variants : number_len variant ≡ 0
  pub dictionaries : number_len (dictionary (number byte) (number u32)) ≡ 0

-- all of them up to the place 21; one that is cut off is told where it begins
pub record NumbersFill : Type 0 where
  pub none : numbers_at 4 0 21 ≡ Ok 21
  pub two : numbers_at 4 8 21 ≡ Ok 21
  pub bytes : numbers_at 1 5 21 ≡ Ok 21
  pub half : numbers_at 4 6 21 ≡ Err (record { place = 19; reason = 18 })
  pub more : numbers_at 8 9 21 ≡ Err (record { place = 20; reason = 18 })

pub record TypesAreTold : Type 0 where
  pub numbers : (is_simple (number double) ≡ true) × (is_variant (number double) ≡ false)
  pub booleans : (is_simple boolean ≡ true) × (is_variant boolean ≡ false)
  pub texts : (is_simple text ≡ false) × (is_variant text ≡ false)
  pub paths : (is_simple path ≡ false) × (is_variant path ≡ false)
  pub signatures : (is_simple signature ≡ false) × (is_variant signature ≡ false)
  pub arrays : (is_simple (array variant) ≡ false) × (is_variant (array variant) ≡ false)
  pub structs : (is_simple (structure (kind variant no_kinds)) ≡ false)
      × (is_variant (structure (kind variant no_kinds)) ≡ false)
  pub variants : (is_simple variant ≡ false) × (is_variant variant ≡ true)
  pub dictionaries : (is_simple (dictionary text variant) ≡ false) × (is_variant (dictionary text variant) ≡ false)
