-- Reading a signature, byte by byte.
use Rattle.std.specs.Prelude.{◌≡◌, ℕ, ◌+◌, nat_le, nat_lt, Bool, false, List, [], ◌∷◌, ◌++◌, length, take}
use Rattle.std.specs.Prelude.{if◌then◌else◌, Option, Some, None, Result, Ok, Err}
use Rattle.atspi_types.specs.Kinds.{Kind, array, structure, dictionary, kinds_of, is_basic}
use Rattle.atspi_types.specs.SignatureFaults.{Token, code, array_code, struct_open, struct_close, entry_open}
use Rattle.atspi_types.specs.SignatureFaults.{entry_close, descriptor, no_code, end, token_of, Context, at_top}
use Rattle.atspi_types.specs.SignatureFaults.{in_array, in_struct, in_entry, arrays_open, structs_open}
use Rattle.atspi_types.specs.declared.fault.Fault.{Fault}
use Rattle.atspi_types.specs.declared.fault.ReadFault.{ReadFault}
use Rattle.atspi_types.specs.declared.fault.ReadFault.TheVariants as faults

-- what the code returned, seen by view, is what reading gives, unless memory ran out
abbrev pub Gives : {X Y : Type 0} → (X → Y) → Result X ReadFault → Result Y Fault → Type 0
Gives view (Ok x) read = read ≡ Ok (view x)
Gives view (Err (faults.Bad f)) read = read ≡ Err f
Gives view (Err faults.NoMemory) read = Unit {0}

-- the least reason that a token is refused for in a context
abbrev pub end_refusal : Context → Option ℕ
end_refusal (at_top ks) = None
end_refusal (in_array c) = Some 4
end_refusal (in_struct c ks) = Some 6
end_refusal (in_entry c ks) = Some 6

abbrev pub struct_close_refusal : Context → Option ℕ
struct_close_refusal (at_top ks) = Some 6
struct_close_refusal (in_array c) = Some 4
struct_close_refusal (in_struct c []) = Some 5
struct_close_refusal (in_struct c (k ∷ ks)) = None
struct_close_refusal (in_entry c ks) = Some 6

abbrev pub entry_close_refusal : Context → Option ℕ
entry_close_refusal (at_top ks) = Some 6
entry_close_refusal (in_array c) = Some 4
entry_close_refusal (in_struct c ks) = Some 6
entry_close_refusal (in_entry c []) = Some 8
entry_close_refusal (in_entry c (key ∷ [])) = Some 8
entry_close_refusal (in_entry c (key ∷ value ∷ ks)) = None

abbrev pub entry_open_refusal : Context → Option ℕ
entry_open_refusal (at_top ks) = Some 7
entry_open_refusal (in_array c) = None
entry_open_refusal (in_struct c ks) = Some 7
entry_open_refusal (in_entry c ks) = Some 7

-- of one container more, where as many of its sort stand open
abbrev pub depth_refusal : ℕ → Option ℕ
depth_refusal open_so_far = if nat_le 32 open_so_far then Some 9 else None

-- of a type, basic or not, that is not refused for its depth
abbrev pub type_refusal : Context → Bool → Option ℕ → Option ℕ
type_refusal (at_top ks) basic deep = deep
type_refusal (in_array c) basic deep = deep
type_refusal (in_struct c ks) basic deep = deep
type_refusal (in_entry c []) basic deep = if basic then deep else Some 8
type_refusal (in_entry c (key ∷ [])) basic deep = deep
type_refusal (in_entry c (key ∷ value ∷ ks)) basic deep = Some 8

unfoldable pub refusal : Context → Token → Option ℕ
refusal c no_code = Some 2
refusal c descriptor = Some 3
refusal c end = end_refusal c
refusal c struct_close = struct_close_refusal c
refusal c entry_close = entry_close_refusal c
refusal c entry_open = entry_open_refusal c
refusal c (code k) = type_refusal c (is_basic k) None
refusal c array_code = type_refusal c false (depth_refusal (arrays_open c))
refusal c struct_open = type_refusal c false (depth_refusal (structs_open c))

-- a whole type comes next
abbrev pub with_type : Context → Kind → Context
with_type (at_top ks) k = at_top (ks ++ k ∷ [])
with_type (in_array c) k = with_type c (array k)
with_type (in_struct c ks) k = in_struct c (ks ++ k ∷ [])
with_type (in_entry c ks) k = in_entry c (ks ++ k ∷ [])

-- a token comes next that is not refused
abbrev pub struct_closed : Context → Context
struct_closed (in_struct c ks) = with_type c (structure (kinds_of ks))
struct_closed c = c

abbrev pub entry_closed : Context → Context
entry_closed (in_entry c (key ∷ value ∷ ks)) = with_type c (dictionary key value)
entry_closed c = c

abbrev pub entry_opened : Context → Context
entry_opened (in_array c) = in_entry c []
entry_opened c = c

unfoldable pub with_token : Context → Token → Context
with_token c (code k) = with_type c k
with_token c array_code = in_array c
with_token c struct_open = in_struct c []
with_token c struct_close = struct_closed c
with_token c entry_open = entry_opened c
with_token c entry_close = entry_closed c
with_token c descriptor = c
with_token c no_code = c
with_token c end = c

abbrev pub after_refusal : Option ℕ → ℕ → Context → Result Context Fault
after_refusal (Some reason) place c = Err (record { place = place; reason = reason })
after_refusal None place c = Ok c

-- one byte
unfoldable pub step_at : Context → ℕ → ℕ → Result Context Fault
step_at c place b = after_refusal (refusal c (token_of b)) place (with_token c (token_of b))

infixl 10 ◌>>=◌
abbrev pub ◌>>=◌ : {A B : Type 0} → Result A Fault → (A → Result B Fault) → Result B Fault
(Ok x) >>= f = f x
(Err e) >>= f = Err e

-- the bytes from a place on
unfoldable pub walk : Context → ℕ → List ℕ → Result Context Fault
walk c place [] = Ok c
walk c place (b ∷ bytes) = step_at c place b >>= λ after. walk after (place + 1) bytes

-- the end
abbrev pub types_at_end : Context → List Kind
types_at_end (at_top ks) = ks
types_at_end c = []

unfoldable pub end_at : Context → ℕ → Result (List Kind) Fault
end_at c place = after_refusal (refusal c end) place c >>= λ c. Ok (types_at_end c)

-- behind the first 255 bytes: there may be no more, and the end may come
abbrev pub behind_front : Context → ℕ → Result (List Kind) Fault
behind_front c len = if nat_lt 255 len then Err (record { place = 255; reason = 1 }) else end_at c len

-- the types that the bytes spell, or the first fault
unfoldable pub signature_in : List ℕ → Result (List Kind) Fault
signature_in bytes = walk (at_top []) 0 (take 255 bytes) >>= λ c. behind_front c (length bytes)
