-- What is wrong with bytes that are no signature, and where (D-Bus Specification, "Type System"). A byte is judged
-- where the bytes before it begin a signature; of all that is wrong the least is told, by place and then by number.
use Rattle.std.specs.Prelude.{◌≡◌, ◌≢◌, ℕ, ◌+◌, ◌<◌, ◌≤◌, ◌==◌, ◌⊎◌, List, [], ◌∷◌, ◌++◌, length, take, if◌then◌else◌}
use Rattle.std.specs.Prelude.{Option, Some, None}
use Rattle.std.specs.List.{slice_get}
use Rattle.atspi_types.specs.Kinds.{byte, i16, u16, i32, u32, i64, u64, double, Kind, number, boolean, text, path}
use Rattle.atspi_types.specs.Kinds.{signature, variant, kinds_of, IsBasic, AreLawful}
use Rattle.atspi_types.specs.Signatures.{signature_bytes, array_depths, struct_depths}

-- what a byte of a signature is, or that there is none
pub data Token : Type 0 where
  code : Kind → Token  -- a type of one byte
  array_code : Token  -- a
  struct_open : Token  -- (
  struct_close : Token  -- )
  entry_open : Token  -- {
  entry_close : Token  -- }
  descriptor : Token  -- h, which this bus does not carry
  no_code : Token  -- any other byte
  end : Token  -- none

unfoldable pub token_of : ℕ → Token
token_of b =
    if b == 121 then code (number byte)
    else if b == 98 then code boolean
    else if b == 110 then code (number i16)
    else if b == 113 then code (number u16)
    else if b == 105 then code (number i32)
    else if b == 117 then code (number u32)
    else if b == 120 then code (number i64)
    else if b == 116 then code (number u64)
    else if b == 100 then code (number double)
    else if b == 115 then code text
    else if b == 111 then code path
    else if b == 103 then code signature
    else if b == 118 then code variant
    else if b == 97 then array_code
    else if b == 40 then struct_open
    else if b == 41 then struct_close
    else if b == 123 then entry_open
    else if b == 125 then entry_close
    else if b == 104 then descriptor
    else no_code

abbrev pub next_token : Option ℕ → Token
next_token (Some b) = token_of b
next_token None = end

-- what stands where the beginning of a signature ends: types; or behind a context an a without its element, a struct
-- with its fields so far, or an entry with its types so far
pub data Context : Type 0 where
  at_top : List Kind → Context
  in_array : Context → Context
  in_struct : Context → List Kind → Context
  in_entry : Context → List Kind → Context

-- the bytes of such a beginning
abbrev pub front : Context → List ℕ
front (at_top ks) = signature_bytes (kinds_of ks)
front (in_array c) = front c ++ 97 ∷ []
front (in_struct c ks) = front c ++ (40 ∷ signature_bytes (kinds_of ks))
front (in_entry c ks) = front c ++ (97 ∷ 123 ∷ signature_bytes (kinds_of ks))

-- how many arrays and how many structs stand open
abbrev pub arrays_open : Context → ℕ
arrays_open (at_top ks) = 0
arrays_open (in_array c) = arrays_open c + 1
arrays_open (in_struct c ks) = arrays_open c
arrays_open (in_entry c ks) = arrays_open c + 1

abbrev pub structs_open : Context → ℕ
structs_open (at_top ks) = 0
structs_open (in_array c) = structs_open c
structs_open (in_struct c ks) = structs_open c + 1
structs_open (in_entry c ks) = structs_open c

-- the types so far
abbrev pub types_so_far : Context → List Kind
types_so_far (at_top ks) = ks
types_so_far (in_array c) = []
types_so_far (in_struct c ks) = ks
types_so_far (in_entry c ks) = ks

-- a type may come next: in an entry a basic one first, then any, then none
abbrev pub MayCome : Context → Kind → Type 0
MayCome (at_top ks) k = Unit {0}
MayCome (in_array c) k = Unit {0}
MayCome (in_struct c ks) k = Unit {0}
MayCome (in_entry c []) k = IsBasic k
MayCome (in_entry c (key ∷ [])) k = Unit {0}
MayCome (in_entry c (key ∷ value ∷ ks)) k = ⊥

-- the types so far are lawful and within the limits
pub record HasLawfulTypes (c : Context) : Type 0 where
  pub lawful : AreLawful (kinds_of (types_so_far c))
  pub arrays : arrays_open c + array_depths (kinds_of (types_so_far c)) ≤ 32
  pub structs : structs_open c + struct_depths (kinds_of (types_so_far c)) ≤ 32

-- an entry has at most two types, the first of which is basic
abbrev pub IsEntry : List Kind → Type 0
IsEntry [] = Unit {0}
IsEntry (key ∷ []) = IsBasic key
IsEntry (key ∷ value ∷ []) = IsBasic key
IsEntry (key ∷ value ∷ k ∷ ks) = ⊥

-- the context begins a signature; a container, as a variant, is not basic
abbrev pub BeginsSignature : Context → Type 0
BeginsSignature (at_top ks) = HasLawfulTypes (at_top ks)
BeginsSignature (in_array c) = BeginsSignature c × MayCome c variant × HasLawfulTypes (in_array c)
BeginsSignature (in_struct c ks) = BeginsSignature c × MayCome c variant × HasLawfulTypes (in_struct c ks)
BeginsSignature (in_entry c ks) = BeginsSignature c × MayCome c variant × HasLawfulTypes (in_entry c ks) × IsEntry ks

-- the bracket that is open last
pub data Bracket : Type 0 where
  no_bracket : Bracket
  struct_bracket : Bracket
  entry_bracket : Bracket

abbrev pub last_bracket : Context → Bracket
last_bracket (at_top ks) = no_bracket
last_bracket (in_array c) = last_bracket c
last_bracket (in_struct c ks) = struct_bracket
last_bracket (in_entry c ks) = entry_bracket

-- the token is the end, ) or }
abbrev pub EndsTypes : Token → Type 0
EndsTypes end = Unit {0}
EndsTypes struct_close = Unit {0}
EndsTypes entry_close = Unit {0}
EndsTypes _ = ⊥

-- the token begins a type, or one that is not basic
abbrev pub BeginsType : Token → Type 0
BeginsType (code k) = Unit {0}
BeginsType array_code = Unit {0}
BeginsType struct_open = Unit {0}
BeginsType _ = ⊥

abbrev pub BeginsContainer : Token → Type 0
BeginsContainer (code k) = IsBasic k → ⊥
BeginsContainer array_code = Unit {0}
BeginsContainer struct_open = Unit {0}
BeginsContainer _ = ⊥

-- the context is an a without its element
abbrev pub AwaitsElement : Context → Type 0
AwaitsElement (in_array c) = Unit {0}
AwaitsElement _ = ⊥

-- what comes next in the context is refused for a reason
pub data Refused : Context → Token → ℕ → Type 0 where
  -- 2: a byte is no type code
  not_a_code : (c : Context) → Refused c no_code 2
  -- 3: the code is h
  is_descriptor : (c : Context) → Refused c descriptor 3
  -- 4: an a is followed by no type
  no_element : (c : Context) (t : Token) → EndsTypes t → Refused (in_array c) t 4
  -- 5: a struct has no field
  no_field : (c : Context) → Refused (in_struct c []) struct_close 5
  -- 6: a closer without its opener; the end with an opener not closed
  no_struct : (c : Context) → last_bracket c ≢ struct_bracket → Refused c struct_close 6
  no_entry : (c : Context) → last_bracket c ≢ entry_bracket → Refused c entry_close 6
  not_closed : (c : Context) → last_bracket c ≢ no_bracket → Refused c end 6
  -- 7: a { is not directly behind an a
  no_array : (c : Context) → (AwaitsElement c → ⊥) → Refused c entry_open 7
  -- 8: the key of an entry is not basic; an entry is closed without two types; it has a third type
  key_not_basic : (c : Context) (t : Token) → BeginsContainer t → Refused (in_entry c []) t 8
  too_few : (c : Context) (ks : List Kind) → length ks < 2 → Refused (in_entry c ks) entry_close 8
  too_many : (c : Context) (key value : Kind) (t : Token) → BeginsType t → Refused (in_entry c (key ∷ value ∷ [])) t 8
  -- 9: a 33rd array in arrays, a 33rd struct in structs
  too_many_arrays : (c : Context) → 32 ≤ arrays_open c → Refused c array_code 9
  too_many_structs : (c : Context) → 32 ≤ structs_open c → Refused c struct_open 9

-- a place is judged in a context where the bytes before it are those of the context, which begins a signature
pub record JudgedIn (bytes : List ℕ) (place : ℕ) (c : Context) : Type 0 where
  pub within : place ≤ length bytes
  pub before : take place bytes ≡ front c
  pub begins : BeginsSignature c

-- what is wrong with the bytes: a place and a reason; 1 is that there are more than 255
pub data WrongSignature (bytes : List ℕ) : ℕ → ℕ → Type 0 where
  too_long : 255 < length bytes → WrongSignature bytes 255 1
  refused : (place reason : ℕ) (c : Context) → JudgedIn bytes place c
      → Refused c (next_token (slice_get bytes place)) reason → WrongSignature bytes place reason

-- by place and then by number
abbrev pub Before : ℕ → ℕ → ℕ → ℕ → Type 0
Before place reason q s = (place < q) ⊎ ((place ≡ q) × (reason ≤ s))

-- the least of what is wrong
pub record IsFirstSignatureFault (bytes : List ℕ) (place reason : ℕ) : Type 0 where
  pub there : WrongSignature bytes place reason
  pub first : (q s : ℕ) → WrongSignature bytes q s → Before place reason q s
