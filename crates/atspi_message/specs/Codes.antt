-- The known fields of a header (D-Bus Specification, "Header Fields").
use Rattle.std.specs.Prelude.{ℕ, ◌==◌, Option, Some, None, List, if◌then◌else◌}
use Rattle.atspi_types.specs.Kinds.{Kind, number, text, path, signature, u32}
use Rattle.atspi_base.specs.valid_names.Names.{IsPath, IsInterface, IsMember, IsBusName}
use Rattle.atspi_message.specs.declared.code.Code.{Code}
use Rattle.atspi_message.specs.declared.code.Code.TheVariants.{Path, Interface, Member, Error, Reply, Destination}
use Rattle.atspi_message.specs.declared.code.Code.TheVariants.{Sender, Signature, Descriptors}

-- the number of a field
abbrev pub number_of : Code → ℕ
number_of Path = 1
number_of Interface = 2
number_of Member = 3
number_of Error = 4
number_of Reply = 5
number_of Destination = 6
number_of Sender = 7
number_of Signature = 8
number_of Descriptors = 9

-- the field of a number
abbrev pub code_of : ℕ → Option Code
code_of n =
    if n == 1 then Some Path
    else if n == 2 then Some Interface
    else if n == 3 then Some Member
    else if n == 4 then Some Error
    else if n == 5 then Some Reply
    else if n == 6 then Some Destination
    else if n == 7 then Some Sender
    else if n == 8 then Some Signature
    else if n == 9 then Some Descriptors
    else None

-- the type of a field
abbrev pub kind_for : Code → Kind
kind_for Path = path
kind_for Interface = text
kind_for Member = text
kind_for Error = text
kind_for Reply = number u32
kind_for Destination = text
kind_for Sender = text
kind_for Signature = signature
kind_for Descriptors = number u32

-- the byte that spells this type: o, s, u or g
abbrev pub letter_of : Code → ℕ
letter_of Path = 111
letter_of Interface = 115
letter_of Member = 115
letter_of Error = 115
letter_of Reply = 117
letter_of Destination = 115
letter_of Sender = 115
letter_of Signature = 103
letter_of Descriptors = 117

-- a field that is a text is a name
abbrev pub IsText : Code → Type 0
IsText Path = ⊥
IsText Interface = Unit {0}
IsText Member = Unit {0}
IsText Error = Unit {0}
IsText Reply = ⊥
IsText Destination = Unit {0}
IsText Sender = Unit {0}
IsText Signature = ⊥
IsText Descriptors = ⊥

-- the rule of such a name
abbrev pub IsNameFor : Code → List ℕ → Type 0
IsNameFor Path bytes = ⊥
IsNameFor Interface bytes = IsInterface bytes
IsNameFor Member bytes = IsMember bytes
IsNameFor Error bytes = IsInterface bytes
IsNameFor Reply bytes = ⊥
IsNameFor Destination bytes = IsBusName bytes
IsNameFor Sender bytes = IsBusName bytes
IsNameFor Signature bytes = ⊥
IsNameFor Descriptors bytes = ⊥
