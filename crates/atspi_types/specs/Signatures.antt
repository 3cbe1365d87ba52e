-- How types are spelled, and which lists of types have a signature (D-Bus Specification, "Type System").
use Rattle.std.specs.Prelude.{ℕ, ◌+◌, ◌≤◌, Bool, ◌&&◌, nat_le, List, [], ◌∷◌, ◌++◌, length, max}
use Rattle.atspi_types.specs.Kinds.{Num, byte, i16, u16, i32, u32, i64, u64, double, Kind, Kinds, number, boolean, text}
use Rattle.atspi_types.specs.Kinds.{path, signature, array, structure, variant, dictionary, no_kinds, kind, AreLawful}
use Rattle.atspi_types.specs.Kinds.{are_lawful}

-- the code of a number: y, n, q, i, u, x, t or d
abbrev pub number_code : Num → ℕ
number_code byte = 121
number_code i16 = 110
number_code u16 = 113
number_code i32 = 105
number_code u32 = 117
number_code i64 = 120
number_code u64 = 116
number_code double = 100

-- b, s, o, g, a and the element's, ( the fields' ), v, and a{ the key's and the value's }
abbrev mutual
  pub type_bytes : Kind → List ℕ
  type_bytes (number n) = number_code n ∷ []
  type_bytes boolean = 98 ∷ []
  type_bytes text = 115 ∷ []
  type_bytes path = 111 ∷ []
  type_bytes signature = 103 ∷ []
  type_bytes (array k) = 97 ∷ type_bytes k
  type_bytes (structure ks) = 40 ∷ (signature_bytes ks ++ 41 ∷ [])
  type_bytes variant = 118 ∷ []
  type_bytes (dictionary k v) = 97 ∷ 123 ∷ (type_bytes k ++ (type_bytes v ++ 125 ∷ []))

  pub signature_bytes : Kinds → List ℕ
  signature_bytes no_kinds = []
  signature_bytes (kind k ks) = type_bytes k ++ signature_bytes ks

-- how deep arrays stand in arrays, whatever is between; a dictionary is one
abbrev mutual
  pub array_depth : Kind → ℕ
  array_depth (number n) = 0
  array_depth boolean = 0
  array_depth text = 0
  array_depth path = 0
  array_depth signature = 0
  array_depth (array k) = array_depth k + 1
  array_depth (structure ks) = array_depths ks
  array_depth variant = 0
  array_depth (dictionary k v) = max (array_depth k) (array_depth v) + 1

  pub array_depths : Kinds → ℕ
  array_depths no_kinds = 0
  array_depths (kind k ks) = max (array_depth k) (array_depths ks)

-- how deep structs stand in structs
abbrev mutual
  pub struct_depth : Kind → ℕ
  struct_depth (number n) = 0
  struct_depth boolean = 0
  struct_depth text = 0
  struct_depth path = 0
  struct_depth signature = 0
  struct_depth (array k) = struct_depth k
  struct_depth (structure ks) = struct_depths ks + 1
  struct_depth variant = 0
  struct_depth (dictionary k v) = max (struct_depth k) (struct_depth v)

  pub struct_depths : Kinds → ℕ
  struct_depths no_kinds = 0
  struct_depths (kind k ks) = max (struct_depth k) (struct_depths ks)

-- the limits of a signature: 255 bytes, 32 arrays in one another, 32 structs in one another
pub record FitsSignature (ks : Kinds) : Type 0 where
  pub short : length (signature_bytes ks) ≤ 255
  pub arrays : array_depths ks ≤ 32
  pub structs : struct_depths ks ≤ 32

-- a signature is a list of lawful types within the limits
pub record IsSignature (ks : Kinds) : Type 0 where
  pub lawful : AreLawful ks
  pub fits : FitsSignature ks

-- the same as tests
unfoldable pub fits_signature : Kinds → Bool
fits_signature ks = nat_le (length (signature_bytes ks)) 255
    && (nat_le (array_depths ks) 32 && nat_le (struct_depths ks) 32)

unfoldable pub is_signature : Kinds → Bool
is_signature ks = are_lawful ks && fits_signature ks
