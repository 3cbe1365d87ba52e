-- What types are, apart from where they lie in memory (D-Bus Specification, "Type System").
use Rattle.std.specs.Prelude.{ℕ, Bool, true, false, ◌&&◌, List, [], ◌∷◌}
use Rattle.std.specs.Int.{Width, w8, w16, w32, w64}

-- the kinds of number; a double is seen as its 64 bits
pub data Num : Type 0 where
  byte : Num
  i16 : Num
  u16 : Num
  i32 : Num
  u32 : Num
  i64 : Num
  u64 : Num
  double : Num

mutual
  -- a type: of numbers, booleans, texts, paths, signatures; of arrays of a type, of structs of some types, of variants,
  -- and of dictionaries from a type to a type
  pub data Kind : Type 0 where
    number : Num → Kind
    boolean : Kind
    text : Kind
    path : Kind
    signature : Kind
    array : Kind → Kind
    structure : Kinds → Kind
    variant : Kind
    dictionary : Kind → Kind → Kind

  pub data Kinds : Type 0 where
    no_kinds : Kinds
    kind : Kind → Kinds → Kinds

-- between types in a type and a list of types
abbrev pub kinds_of : List Kind → Kinds
kinds_of [] = no_kinds
kinds_of (k ∷ ks) = kind k (kinds_of ks)

abbrev pub types_in : Kinds → List Kind
types_in no_kinds = []
types_in (kind k ks) = k ∷ types_in ks

-- how many bits a number has
abbrev pub width : Num → Width
width byte = w8
width i16 = w16
width u16 = w16
width i32 = w32
width u32 = w32
width i64 = w64
width u64 = w64
width double = w64

-- the place of a number is a multiple of its bytes
abbrev pub number_alignment : Num → ℕ
number_alignment byte = 1
number_alignment i16 = 2
number_alignment u16 = 2
number_alignment i32 = 4
number_alignment u32 = 4
number_alignment i64 = 8
number_alignment u64 = 8
number_alignment double = 8

-- the place of a value is a multiple of this
abbrev pub alignment : Kind → ℕ
alignment (number n) = number_alignment n
alignment boolean = 4
alignment text = 4
alignment path = 4
alignment signature = 1
alignment (array k) = 4
alignment (structure ks) = 8
alignment variant = 1
alignment (dictionary k v) = 4

-- a basic type is no container
abbrev pub IsBasic : Kind → Type 0
IsBasic (number n) = Unit {0}
IsBasic boolean = Unit {0}
IsBasic text = Unit {0}
IsBasic path = Unit {0}
IsBasic signature = Unit {0}
IsBasic (array k) = ⊥
IsBasic (structure ks) = ⊥
IsBasic variant = ⊥
IsBasic (dictionary k v) = ⊥

abbrev pub is_basic : Kind → Bool
is_basic (number n) = true
is_basic boolean = true
is_basic text = true
is_basic path = true
is_basic signature = true
is_basic (array k) = false
is_basic (structure ks) = false
is_basic variant = false
is_basic (dictionary k v) = false

-- a type is lawful where no struct in it is empty and each key is basic
abbrev mutual
  pub IsLawful : Kind → Type 0
  IsLawful (number n) = Unit {0}
  IsLawful boolean = Unit {0}
  IsLawful text = Unit {0}
  IsLawful path = Unit {0}
  IsLawful signature = Unit {0}
  IsLawful (array k) = IsLawful k
  IsLawful (structure no_kinds) = ⊥
  IsLawful (structure (kind k ks)) = IsLawful k × AreLawful ks
  IsLawful variant = Unit {0}
  IsLawful (dictionary k v) = IsBasic k × IsLawful v

  pub AreLawful : Kinds → Type 0
  AreLawful no_kinds = Unit {0}
  AreLawful (kind k ks) = IsLawful k × AreLawful ks

abbrev mutual
  pub is_lawful : Kind → Bool
  is_lawful (number n) = true
  is_lawful boolean = true
  is_lawful text = true
  is_lawful path = true
  is_lawful signature = true
  is_lawful (array k) = is_lawful k
  is_lawful (structure no_kinds) = false
  is_lawful (structure (kind k ks)) = is_lawful k && are_lawful ks
  is_lawful variant = true
  is_lawful (dictionary k v) = is_basic k && is_lawful v

  pub are_lawful : Kinds → Bool
  are_lawful no_kinds = true
  are_lawful (kind k ks) = is_lawful k && are_lawful ks
