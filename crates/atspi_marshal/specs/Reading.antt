-- Reading from left to right, with the first fault that is met: a plain program on lists.
use Rattle.std.specs.Prelude.{◌≡◌, ◌≤◌, ℕ, zero, suc, ◌+◌, ◌-◌, min, List, [], ◌∷◌, length, take, drop, Option, Some}
use Rattle.std.specs.Prelude.{None, Result, Ok, Err, Bool, true, false, nat_lt, ◌&&◌, ◌||◌, not, ◌==◌, if◌then◌else◌}
use Rattle.std.specs.Int.{w32}
use Rattle.std.specs.Int.{Width, byte_len}
use Rattle.atspi_base.specs.ReadsText.{text_in}
use Rattle.atspi_base.specs.declared.text.TextFault.{TextFault}
use Rattle.atspi_base.specs.declared.text.TextFault.TheVariants.{Zero, Utf8}
use Rattle.atspi_base.specs.declared.text.TextFault.TheVariants.{NoMemory as TextNoMemory}
use Rattle.atspi_base.specs.valid_names.Names.{is_path}
use Rattle.atspi_types.specs.Kinds.{Num, byte, i16, u16, i32, u32, i64, u64, double, width, number_alignment, Kind}
use Rattle.atspi_types.specs.Kinds.{number, boolean, text, path, signature, array, structure, variant, dictionary}
use Rattle.atspi_types.specs.Kinds.{Kinds, no_kinds, kind, kinds_of, types_in, alignment}
use Rattle.atspi_types.specs.Data.{Data, number_data, boolean_data, text_data, path_data, signature_data, array_data}
use Rattle.atspi_types.specs.Data.{structure_data, variant_data, dictionary_data, Items, no_items, item, items_of}
use Rattle.atspi_types.specs.Data.{Entries, no_entries, entry}
use Rattle.atspi_types.specs.SignatureReading.{signature_in}
use Rattle.atspi_types.specs.declared.fault.Fault.{Fault}
use Rattle.atspi_types.specs.declared.fault.ReadFault.{ReadFault}
use Rattle.atspi_types.specs.declared.fault.ReadFault.TheVariants as faults
use Rattle.atspi_types.specs.declared.fault.Order.{Order}
use Rattle.atspi_marshal.specs.declared.input.Bound.{Bound}
use Rattle.atspi_marshal.specs.declared.input.Marshalled.{Marshalled}
use Rattle.atspi_marshal.specs.Input.{Input, whole, to_end, number_in, byte_in, slice_in, aligned}
use Rattle.atspi_marshal.specs.Faults.{entry_kind, inside, long_in, short_in}

abbrev pub input_of : Marshalled → Input
input_of m = record { order = m.order; bytes = m.bytes.now }

-- the place of a fault is at most this
abbrev pub FaultsBy : {X : Type 0} → Result X ReadFault → ℕ → Type 0
FaultsBy (Ok x) n = Unit {0}
FaultsBy (Err faults.NoMemory) n = Unit {0}
FaultsBy (Err (faults.Bad f)) n = f.place ≤ n

infixl 10 ◌>>=◌
abbrev pub ◌>>=◌ : {A B : Type 0} → Result A Fault → (A → Result B Fault) → Result B Fault
(Ok x) >>= f = f x
(Err e) >>= f = Err e

-- What a function returned, seen by view, is what reading gives, unless memory ran out.
abbrev pub Fails : {Y : Type 0} → ReadFault → Result Y Fault → Type 0
Fails faults.NoMemory read = Unit {0}
Fails (faults.Bad f) read = read ≡ Err f

abbrev pub Gives : {X Y : Type 0} → (X → Y) → Result X ReadFault → Result Y Fault → Type 0
Gives view (Ok x) read = read ≡ Ok (view x)
Gives view (Err e) read = Fails e read

abbrev pub bad : {A : Type 0} → ℕ → ℕ → Result A Fault
bad place reason = Err (record { place = place; reason = reason })

-- how many zero bytes stand in front
abbrev pub zeros_in_front : List ℕ → ℕ
zeros_in_front [] = 0
zeros_in_front (zero ∷ bytes) = suc (zeros_in_front bytes)
zeros_in_front (suc b ∷ bytes) = 0

-- the reason of padding that passes the end: a first byte that is there and not 0 has the lesser number
abbrev pub passing_reason : Input → Bound → ℕ → ℕ
passing_reason i b at = if nat_lt at b.end then (if byte_in i at == 0 then b.reason else 10) else b.reason

-- padding up to a multiple of n: the place behind it
unfoldable pub padding_at : Input → ℕ → Bound → ℕ → Result ℕ Fault
padding_at i n b at =
    let p = aligned n at in
    let zeros = zeros_in_front (slice_in i at (p - at)) in
    if nat_lt b.end p then bad at (passing_reason i b at)
    else if nat_lt zeros (p - at) then bad (at + zeros) 10 else Ok p

-- an item of `len` bytes behind its padding: its place
unfoldable pub room_at : Input → ℕ → ℕ → Bound → ℕ → Result ℕ Fault
room_at i n len b at = padding_at i n b at >>= λ p. if nat_lt b.end (p + len) then bad p b.reason else Ok p

abbrev pub Reader : Type 0
Reader = Kind → Bound → ℕ → Result (Data × ℕ) Fault

unfoldable pub number_at : Input → Num → Bound → ℕ → Result (Data × ℕ) Fault
number_at i n b at =
    room_at i (number_alignment n) (byte_len (width n)) b at >>= λ p. Ok
    (number_data n (number_in i (width n) p), p + byte_len (width n))

unfoldable pub boolean_at : Input → Bound → ℕ → Result (Data × ℕ) Fault
boolean_at i b at = room_at i 4 4 b at >>= λ p. if nat_lt 1 (number_in i w32 p) then bad p 11
    else Ok (boolean_data (number_in i w32 p == 1), p + 4)

-- behind some bytes a zero byte ends an item
abbrev pub ended : Input → ℕ → Data → Result (Data × ℕ) Fault
ended i at d = if byte_in i at == 0 then Ok (d, at + 1) else bad at 12

-- a text: its length, its bytes and a zero byte
abbrev pub text_with : Input → ℕ → ℕ → Result (List ℕ) TextFault → Result (Data × ℕ) Fault
text_with i p n (Ok cs) = ended i (p + 4 + n) (text_data cs)
text_with i p n (Err (Zero z)) = bad (p + 4 + z) 13
text_with i p n (Err (Utf8 z)) = bad (p + 4 + z) 14
text_with i p n (Err TextNoMemory) = bad p 0

unfoldable pub text_body_at : Input → ℕ → Result (Data × ℕ) Fault
text_body_at i p = text_with i p (number_in i w32 p) (text_in (long_in i p))

unfoldable pub path_body_at : Input → ℕ → Result (Data × ℕ) Fault
path_body_at i p = if is_path (long_in i p) then ended i (p + 4 + number_in i w32 p) (path_data (long_in i p))
    else bad p 15

-- the place of a length of 32 bits, whose bytes and last zero byte are inside the bound
unfoldable pub long_place : Input → Bound → ℕ → Result ℕ Fault
long_place i b at = room_at i 4 4 b at >>= λ p. if nat_lt b.end (p + 5 + number_in i w32 p) then bad p b.reason
    else Ok p

unfoldable pub long_at : (ℕ → Result (Data × ℕ) Fault) → Input → Bound → ℕ → Result (Data × ℕ) Fault
long_at body i b at = long_place i b at >>= body

-- the same of a length of 8 bits
unfoldable pub short_place : Input → Bound → ℕ → Result ℕ Fault
short_place i b at = room_at i 1 1 b at >>= λ p. if nat_lt b.end (p + 2 + byte_in i p) then bad p b.reason else Ok p

unfoldable pub short_at : (ℕ → Result (Data × ℕ) Fault) → Input → Bound → ℕ → Result (Data × ℕ) Fault
short_at body i b at = short_place i b at >>= body

abbrev pub signature_with : Input → ℕ → Result (List Kind) Fault → Result (Data × ℕ) Fault
signature_with i p (Ok ks) = ended i (p + 1 + byte_in i p) (signature_data (kinds_of ks))
signature_with i p (Err f) = bad (p + 1 + f.place) f.reason

unfoldable pub signature_body_at : Input → ℕ → Result (Data × ℕ) Fault
signature_body_at i p = signature_with i p (signature_in (short_in i p))

abbrev pub as_variant : Kind → Data × ℕ → Result (Data × ℕ) Fault
as_variant k x = Ok (variant_data k x.0, x.1)

-- the value of a variant whose signature stands at p
unfoldable pub inner_at : Bool → Reader → Input → Bound → ℕ → Kind → Result (Data × ℕ) Fault
inner_at deep below i b p k =
    if deep then bad p 20
    else if byte_in i (p + 1 + byte_in i p) == 0 then below k b (p + 2 + byte_in i p) >>= as_variant k
    else bad (p + 1 + byte_in i p) 12

abbrev pub variant_with : Bool → Reader → Input → Bound → ℕ → Result (List Kind) Fault → Result (Data × ℕ) Fault
variant_with deep below i b p (Ok []) = bad p 16
variant_with deep below i b p (Ok (k ∷ [])) = inner_at deep below i b p k
variant_with deep below i b p (Ok (k ∷ j ∷ ks)) = bad p 16
variant_with deep below i b p (Err f) = if deep then bad p 20 else bad (p + 1 + f.place) f.reason

unfoldable pub variant_body_at : Bool → Reader → Input → Bound → ℕ → Result (Data × ℕ) Fault
variant_body_at deep below i b p = variant_with deep below i b p (signature_in (short_in i p))

-- elements from `at` to `end`; each takes a byte at least, so `fuel` is as many as there can be
abbrev pub put_first : Data → List Data → Result (List Data) Fault
put_first d ds = Ok (d ∷ ds)

abbrev pub elements_at : (ℕ → Result (Data × ℕ) Fault) → ℕ → ℕ → ℕ → Result (List Data) Fault
elements_at element end zero at = Ok []
elements_at element end (suc fuel) at =
    if nat_lt at end then (element at >>= λ x. elements_at element end fuel x.1 >>= put_first x.0) else Ok []

abbrev pub as_array : Kind → ℕ → List Data → Result (Data × ℕ) Fault
as_array k end ds = Ok (array_data k (items_of ds), end)

-- what stands behind the length of an array at p
unfoldable pub array_body_at : Reader → Input → Kind → ℕ → Result (Data × ℕ) Fault
array_body_at below i k p =
    let n = number_in i w32 p in
    padding_at i (alignment k) (inside k p n) (p + 4) >>= λ s. elements_at (below k (inside k p n)) (inside k p n).end n
    s >>= as_array k (inside k p n).end

-- the place of an array's length, whose elements stand at multiples of n
unfoldable pub array_place : Input → ℕ → Bound → ℕ → Result ℕ Fault
array_place i n b at =
    room_at i 4 4 b at >>= λ p.
    if nat_lt 67108864 (number_in i w32 p) then bad p 17
    else if nat_lt b.end (aligned n (p + 4) + number_in i w32 p) then bad p b.reason else Ok p

-- at `deep` no container may stand here
abbrev pub unless_deep : Bool → (ℕ → Result (Data × ℕ) Fault) → ℕ → Result (Data × ℕ) Fault
unless_deep deep body p = if deep then bad p 20 else body p

unfoldable pub array_at : Bool → Reader → Input → Kind → Bound → ℕ → Result (Data × ℕ) Fault
array_at deep below i k b at = array_place i (alignment k) b at >>= unless_deep deep (array_body_at below i k)

-- an array of structs of two is a dictionary
abbrev pub second_of : Data → Items → Entries → Entries
second_of c (item d no_items) es = entry c d es
second_of c ds es = es

abbrev pub first_of_entry : Data → Entries → Entries
first_of_entry (structure_data (item c ds)) es = second_of c ds es
first_of_entry d es = es

abbrev pub entries_in : Items → Entries
entries_in no_items = no_entries
entries_in (item d ds) = first_of_entry d (entries_in ds)

abbrev pub as_dictionary : Kind → Kind → Data × ℕ → Result (Data × ℕ) Fault
as_dictionary k v (array_data e ds, next) = Ok (dictionary_data k v (entries_in ds), next)
as_dictionary k v x = Ok x

abbrev pub dictionary_body_at : Reader → Input → Kind → Kind → ℕ → Result (Data × ℕ) Fault
dictionary_body_at below i k v p = array_body_at below i (entry_kind k v) p >>= as_dictionary k v

-- a key and a value as a struct of two
abbrev pub struct_of : Data → Data → Data
struct_of c d = structure_data (item c (item d no_items))

abbrev pub structs_in : List (Data × Data) → List Data
structs_in [] = []
structs_in (p ∷ ps) = struct_of p.0 p.1 ∷ structs_in ps

unfoldable pub dictionary_at : Bool → Reader → Input → Kind → Kind → Bound → ℕ → Result (Data × ℕ) Fault
dictionary_at deep below i k v b at = array_place i 8 b at >>= unless_deep deep (dictionary_body_at below i k v)

-- a reader where no item may stand
abbrev pub nothing : Reader
nothing k b at = bad at 20

-- an item that is no struct
unfoldable pub single_at : Bool → Reader → Input → Reader
single_at deep below i (number n) b at = number_at i n b at
single_at deep below i boolean b at = boolean_at i b at
single_at deep below i text b at = long_at (text_body_at i) i b at
single_at deep below i path b at = long_at (path_body_at i) i b at
single_at deep below i signature b at = short_at (signature_body_at i) i b at
single_at deep below i (array k) b at = array_at deep below i k b at
single_at deep below i (structure ks) b at = bad at 20
single_at deep below i variant b at = short_at (variant_body_at deep below i b) i b at
single_at deep below i (dictionary k v) b at = dictionary_at deep below i k v b at

abbrev pub fields_first : Data → List Data × ℕ → Result (List Data × ℕ) Fault
fields_first d x = Ok (d ∷ x.0, x.1)

abbrev pub fields_at : (Kind → ℕ → Result (Data × ℕ) Fault) → List Kind → ℕ → Result (List Data × ℕ) Fault
fields_at field [] at = Ok ([], at)
fields_at field (k ∷ ks) at = field k at >>= λ x. fields_at field ks x.1 >>= fields_first x.0

abbrev pub as_structure : List Data × ℕ → Result (Data × ℕ) Fault
as_structure x = Ok (structure_data (items_of x.0), x.1)

-- the first inner item of a struct that is no struct itself
abbrev pub first_of : Kind → Kind
first_of (structure (kind k ks)) = first_of k
first_of k = k

abbrev pub first_in : List Kind → Kind
first_in [] = structure no_kinds
first_in (k ∷ ks) = first_of k

-- how often a struct begins with a struct
abbrev pub layers : Kind → ℕ
layers (structure (kind k ks)) = suc (layers k)
layers k = 0

-- a struct at p is too deep; what its first item tells comes before that, at the same place and with a lesser number
abbrev pub deep_at : ℕ → Result (Data × ℕ) Fault → Result (Data × ℕ) Fault
deep_at p (Ok x) = bad p 20
deep_at p (Err f) = if nat_lt f.reason 20 && f.place == p then Err f else bad p 20

unfoldable pub structure_at : Bool → Reader → Input → List Kind → Bound → ℕ → Result (Data × ℕ) Fault
structure_at deep below i ks b at =
    padding_at i 8 b at >>= λ p.
    if deep then deep_at p (single_at true below i (first_in ks) b p)
    else (fields_at (λ k q. below k b q) ks p >>= as_structure)

abbrev pub is_byte_number : Num → Bool
is_byte_number byte = true
is_byte_number i16 = false
is_byte_number u16 = false
is_byte_number i32 = false
is_byte_number u32 = false
is_byte_number i64 = false
is_byte_number u64 = false
is_byte_number double = false

abbrev pub is_byte : Kind → Bool
is_byte (number n) = is_byte_number n
is_byte boolean = false
is_byte text = false
is_byte path = false
is_byte signature = false
is_byte (array k) = false
is_byte (structure ks) = false
is_byte variant = false
is_byte (dictionary k v) = false

abbrev pub is_structure : Kind → Bool
is_structure (number n) = false
is_structure boolean = false
is_structure text = false
is_structure path = false
is_structure signature = false
is_structure (array k) = false
is_structure (structure ks) = true
is_structure variant = false
is_structure (dictionary k v) = false

-- one item, where `below` reads what is in a container
unfoldable pub level : Bool → Reader → Input → Reader
level deep below i (structure ks) b at = structure_at deep below i (types_in ks) b at
level deep below i k b at = single_at deep below i k b at

-- one item, with so many levels of containers at most
unfoldable pub read : Input → ℕ → Reader
read i zero = level true nothing i
read i (suc levels) = level false (read i levels) i

-- all of the bytes
abbrev pub decoded : Order → List ℕ → Kind → ℕ → Result (Data × ℕ) Fault
decoded order bytes k at = read (whole order bytes) 64 k (to_end bytes) at
