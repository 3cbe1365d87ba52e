-- Types as the codes that spell them (D-Bus Specification, "Type System").
use Rattle.std.specs.Prelude.{ℕ, zero, suc, ◌==◌, ◌||◌, Bool, true, false, List, [], ◌∷◌, if◌then◌else◌, is_ok}
use Rattle.std.specs.List.{slice_index_or}
use Rattle.std.specs.Result.{result_unwrap_or}
use Rattle.atspi_types.specs.Kinds.{byte, i16, u16, i32, u32, i64, u64, double, Kind, number, boolean, text, path}
use Rattle.atspi_types.specs.Kinds.{signature, array, structure, variant, dictionary}
use Rattle.atspi_types.specs.Signatures.{number_code}
use Rattle.atspi_types.specs.SignatureReading.{signature_in}

-- the types that codes spell, and whether they spell types
abbrev pub kinds_at : List ℕ → List Kind
kinds_at codes = result_unwrap_or (signature_in codes) []

abbrev pub spells : List ℕ → Bool
spells codes = is_ok (signature_in codes)

-- the first of them
abbrev pub kind_at : List ℕ → Kind
kind_at codes = slice_index_or (kinds_at codes) 0 boolean

-- which container a type is
abbrev pub is_array : Kind → Bool
is_array (number n) = false
is_array boolean = false
is_array text = false
is_array path = false
is_array signature = false
is_array (array k) = true
is_array (structure ks) = false
is_array variant = false
is_array (dictionary k v) = false

abbrev pub is_structure : Kind → Bool
is_structure (number n) = false
is_structure boolean = false
is_structure text = false
is_structure path = false
is_structure signature = false
is_structure (array k) = false
is_structure (structure ks) = true
is_structure variant = false
is_structure (dictionary k v) = false

abbrev pub is_dictionary : Kind → Bool
is_dictionary (number n) = false
is_dictionary boolean = false
is_dictionary text = false
is_dictionary path = false
is_dictionary signature = false
is_dictionary (array k) = false
is_dictionary (structure ks) = false
is_dictionary variant = false
is_dictionary (dictionary k v) = true

-- the code that a type begins with
abbrev pub head_code : Kind → ℕ
head_code (number n) = number_code n
head_code boolean = 98
head_code text = 115
head_code path = 111
head_code signature = 103
head_code (array k) = 97
head_code (structure ks) = 40
head_code variant = 118
head_code (dictionary k v) = 97

-- the type that such a code alone spells, of a type that is no array, no dictionary and no struct
abbrev pub leaf_of : ℕ → Kind
leaf_of b =
    if b == 121 then number byte else if b == 110 then number i16 else if b == 113 then number u16 else if b == 105
    then number i32 else if b == 117 then number u32
    else if b == 120 then number i64 else if b == 116 then number u64 else if b == 100 then number double
    else if b == 98 then boolean else if b == 115 then text
    else if b == 111 then path else if b == 103 then signature else variant

-- what such a code tells of every type that begins with it
abbrev pub code_is_basic : ℕ → Bool
code_is_basic b = if b == 97 then false else if b == 40 then false else if b == 118 then false else true

abbrev pub code_alignment : ℕ → ℕ
code_alignment b =
    if b == 121 then 1 else if b == 103 then 1 else if b == 118 then 1 else if b == 110 then 2 else if b == 113 then 2
    else if b == 120 then 8 else if b == 116 then 8 else if b == 100 then 8 else if b == 40 then 8 else 4

-- how many codes the first type has, where so many brackets are open
abbrev pub opens : ℕ → Bool
opens b = b == 40 || b == 123

abbrev pub closes : ℕ → Bool
closes b = b == 41 || b == 125

abbrev pub first_end : ℕ → List ℕ → ℕ
first_end open_so_far [] = 0
first_end zero (b ∷ bs) = if opens b then suc (first_end 1 bs) else if b == 97 then suc (first_end 0 bs) else 1
first_end (suc n) (b ∷ bs) =
    if opens b then suc (first_end (suc (suc n)) bs)
    else if closes b then suc (if n == 0 then 0 else first_end n bs) else suc (first_end (suc n) bs)
