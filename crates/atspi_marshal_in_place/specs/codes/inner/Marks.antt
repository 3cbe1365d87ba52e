-- What stands open where a code of a signature comes, told by marks: of the types so far they keep whether there are
-- none, one or more, which is all that a refusal looks at.
use Rattle.std.specs.Prelude.{◌≡◌, ℕ, ◌+◌, ◌<◌, ◌≤◌, ◌⊎◌, IsTrue, is_ok, Bool, true, false, List, [], ◌∷◌, length, drop}
use Rattle.std.specs.Prelude.{if◌then◌else◌, Option, Some, None, Result, Ok, Err}
use Rattle.atspi_types.specs.Kinds.{Kind, is_basic}
use Rattle.atspi_types.specs.SignatureFaults.{Context, at_top, in_array, in_struct, in_entry}
use Rattle.atspi_types.specs.SignatureFaults as faults
use Rattle.atspi_types.specs.SignatureReading.{depth_refusal, walk}
use Rattle.atspi_types.specs.declared.fault.Fault.{Fault}
use Rattle.atspi_marshal_in_place.specs.declared.codes.code.Code.{Code}
use Rattle.atspi_marshal_in_place.specs.declared.codes.code.Code.TheVariants as codes
use Rattle.atspi_marshal_in_place.specs.declared.codes.marks.Mark.{Mark}
use Rattle.atspi_marshal_in_place.specs.declared.codes.marks.Mark.TheVariants as marks

-- a type of one code is basic, or a variant
abbrev pub code_of : faults.Token → Code
code_of (faults.code k) = if is_basic k then codes.Basic else codes.Variant
code_of faults.array_code = codes.Array
code_of faults.struct_open = codes.StructOpen
code_of faults.struct_close = codes.StructClose
code_of faults.entry_open = codes.EntryOpen
code_of faults.entry_close = codes.EntryClose
code_of faults.descriptor = codes.Descriptor
code_of faults.no_code = codes.NoCode
code_of faults.end = codes.NoCode

abbrev pub struct_mark : List Kind → Mark
struct_mark [] = marks.Struct
struct_mark (k ∷ ks) = marks.Fields

abbrev pub entry_mark : List Kind → Mark
entry_mark [] = marks.Entry
entry_mark (key ∷ []) = marks.Key
entry_mark (key ∷ value ∷ ks) = marks.Both

-- the marks of a context, the innermost first
abbrev pub marks_of : Context → List Mark
marks_of (at_top ks) = []
marks_of (in_array c) = marks.Array ∷ marks_of c
marks_of (in_struct c ks) = struct_mark ks ∷ marks_of c
marks_of (in_entry c ks) = entry_mark ks ∷ marks_of c

abbrev pub innermost : List Mark → Option Mark
innermost [] = None
innermost (m ∷ ms) = Some m

abbrev pub is_in_array : List Mark → Bool
is_in_array [] = false
is_in_array (marks.Array ∷ ms) = true
is_in_array (marks.Struct ∷ ms) = false
is_in_array (marks.Fields ∷ ms) = false
is_in_array (marks.Entry ∷ ms) = false
is_in_array (marks.Key ∷ ms) = false
is_in_array (marks.Both ∷ ms) = false

-- how many arrays and how many structs are marked
abbrev pub arrays_in : List Mark → ℕ
arrays_in [] = 0
arrays_in (marks.Array ∷ ms) = arrays_in ms + 1
arrays_in (marks.Struct ∷ ms) = arrays_in ms
arrays_in (marks.Fields ∷ ms) = arrays_in ms
arrays_in (marks.Entry ∷ ms) = arrays_in ms + 1
arrays_in (marks.Key ∷ ms) = arrays_in ms + 1
arrays_in (marks.Both ∷ ms) = arrays_in ms + 1

abbrev pub structs_in : List Mark → ℕ
structs_in [] = 0
structs_in (marks.Array ∷ ms) = structs_in ms
structs_in (marks.Struct ∷ ms) = structs_in ms + 1
structs_in (marks.Fields ∷ ms) = structs_in ms + 1
structs_in (marks.Entry ∷ ms) = structs_in ms
structs_in (marks.Key ∷ ms) = structs_in ms
structs_in (marks.Both ∷ ms) = structs_in ms

-- the least reason that a code is refused for behind a mark, as in the contexts that it marks
abbrev pub end_marked : Option Mark → Option ℕ
end_marked None = None
end_marked (Some marks.Array) = Some 4
end_marked (Some marks.Struct) = Some 6
end_marked (Some marks.Fields) = Some 6
end_marked (Some marks.Entry) = Some 6
end_marked (Some marks.Key) = Some 6
end_marked (Some marks.Both) = Some 6

abbrev pub struct_close_marked : Option Mark → Option ℕ
struct_close_marked None = Some 6
struct_close_marked (Some marks.Array) = Some 4
struct_close_marked (Some marks.Struct) = Some 5
struct_close_marked (Some marks.Fields) = None
struct_close_marked (Some marks.Entry) = Some 6
struct_close_marked (Some marks.Key) = Some 6
struct_close_marked (Some marks.Both) = Some 6

abbrev pub entry_close_marked : Option Mark → Option ℕ
entry_close_marked None = Some 6
entry_close_marked (Some marks.Array) = Some 4
entry_close_marked (Some marks.Struct) = Some 6
entry_close_marked (Some marks.Fields) = Some 6
entry_close_marked (Some marks.Entry) = Some 8
entry_close_marked (Some marks.Key) = Some 8
entry_close_marked (Some marks.Both) = None

abbrev pub entry_open_marked : Option Mark → Option ℕ
entry_open_marked None = Some 7
entry_open_marked (Some marks.Array) = None
entry_open_marked (Some marks.Struct) = Some 7
entry_open_marked (Some marks.Fields) = Some 7
entry_open_marked (Some marks.Entry) = Some 7
entry_open_marked (Some marks.Key) = Some 7
entry_open_marked (Some marks.Both) = Some 7

abbrev pub type_marked : Option Mark → Bool → Option ℕ → Option ℕ
type_marked None basic deep = deep
type_marked (Some marks.Array) basic deep = deep
type_marked (Some marks.Struct) basic deep = deep
type_marked (Some marks.Fields) basic deep = deep
type_marked (Some marks.Entry) basic deep = if basic then deep else Some 8
type_marked (Some marks.Key) basic deep = deep
type_marked (Some marks.Both) basic deep = Some 8

abbrev pub refusal_marked : List Mark → Code → Option ℕ
refusal_marked ms codes.Basic = type_marked (innermost ms) true None
refusal_marked ms codes.Variant = type_marked (innermost ms) false None
refusal_marked ms codes.Array = type_marked (innermost ms) false (depth_refusal (arrays_in ms))
refusal_marked ms codes.StructOpen = type_marked (innermost ms) false (depth_refusal (structs_in ms))
refusal_marked ms codes.StructClose = struct_close_marked (innermost ms)
refusal_marked ms codes.EntryOpen = entry_open_marked (innermost ms)
refusal_marked ms codes.EntryClose = entry_close_marked (innermost ms)
refusal_marked ms codes.Descriptor = Some 3
refusal_marked ms codes.NoCode = Some 2

-- a whole type comes next: it is the element of each array that it stands in directly
abbrev pub typed : List Mark → List Mark
typed [] = []
typed (marks.Array ∷ ms) = typed ms
typed (marks.Struct ∷ ms) = marks.Fields ∷ ms
typed (marks.Fields ∷ ms) = marks.Fields ∷ ms
typed (marks.Entry ∷ ms) = marks.Key ∷ ms
typed (marks.Key ∷ ms) = marks.Both ∷ ms
typed (marks.Both ∷ ms) = marks.Both ∷ ms

-- the container that is open last closes
abbrev pub closed : List Mark → List Mark
closed [] = []
closed (m ∷ ms) = typed ms

-- an array's element is an entry
abbrev pub entry_opened : List Mark → List Mark
entry_opened [] = []
entry_opened (m ∷ ms) = marks.Entry ∷ ms

-- a code comes next that is not refused
abbrev pub marks_after : List Mark → Code → List Mark
marks_after ms codes.Basic = typed ms
marks_after ms codes.Variant = typed ms
marks_after ms codes.Array = marks.Array ∷ ms
marks_after ms codes.StructOpen = marks.Struct ∷ ms
marks_after ms codes.StructClose = closed ms
marks_after ms codes.EntryOpen = entry_opened ms
marks_after ms codes.EntryClose = closed ms
marks_after ms codes.Descriptor = ms
marks_after ms codes.NoCode = ms

-- what one code does at a place: it is refused, or taken
abbrev pub Steps : Result Unit Fault → List Mark → List Mark → ℕ → Code → Type 0
Steps (Ok u) old new place c = (refusal_marked old c ≡ None) × (new ≡ marks_after old c)
Steps (Err f) old new place c = (f.place ≡ place) × (refusal_marked old c ≡ Some f.reason)

-- the marks stand at the end of room for 64, from a place on, and so many of them are arrays and structs
pub record AreCounted (room : List Mark) (top arrays structs : ℕ) : Type 0 where
  pub whole : length room ≡ 64
  pub within : top ≤ 64
  pub arrays_are : arrays ≡ arrays_in (drop top room)
  pub structs_are : structs ≡ structs_in (drop top room)
  pub few_arrays : arrays ≤ 32
  pub few_structs : structs ≤ 32

-- bytes lead to a context that is marked so, or have a first fault
abbrev pub LeadsTo : Result (Option Mark) Fault → List ℕ → Type 0
LeadsTo (Ok mark) bytes = (c : Context) × (walk (at_top []) 0 bytes ≡ Ok c) × (mark ≡ innermost (marks_of c))
LeadsTo (Err f) bytes = walk (at_top []) 0 bytes ≡ Err f

-- so many bytes that end behind a mark are too many, or the end is refused
abbrev pub Ends : Result Unit Fault → Option Mark → ℕ → Type 0
Ends (Ok u) mark len = (len ≤ 255) × (end_marked mark ≡ None)
Ends (Err f) mark len = ((255 < len) × (f ≡ record { place = 255; reason = 1 }))
    ⊎ ((len ≤ 255) × (f.place ≡ len) × (end_marked mark ≡ Some f.reason))

-- bytes are read exactly where the check answers with no fault; else the fault is that of reading them
abbrev pub Checks : Result Unit Fault → Result (List Kind) Fault → Type 0
Checks (Ok u) read = IsTrue (is_ok read)
Checks (Err f) read = read ≡ Err f
