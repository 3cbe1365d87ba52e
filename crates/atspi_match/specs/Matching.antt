-- Which messages a match rule asks for (D-Bus Specification, "Match Rules"). Names, paths and texts are compared by
-- their bytes.
use Rattle.std.specs.Prelude.{◌≡◌, ◌⊎◌, ℕ, false, List, [], ◌∷◌, ◌++◌, All, Option, None, Some, IsSomeAnd}
use Rattle.std.specs.Prelude.{option_and_then, slice_get, encode_utf8_all}
use Rattle.std.specs.FinMap as finmap
use Rattle.atspi_base.specs.valid_names.Names.{is_unique_name}
use Rattle.atspi_types.specs.Data.{Data, text_data, path_data}
use Rattle.atspi_message.specs.Envelope.{Envelope}
use Rattle.atspi_names.specs.Queue.{owner_in}
use Rattle.atspi_names.specs.Owners.{Owners, list_of}
use Rattle.atspi_match.specs.declared.condition.MessageType.{MessageType}
use Rattle.atspi_match.specs.declared.condition.MessageType.TheVariants.{Signal, MethodCall, MethodReturn, Error}
use Rattle.atspi_match.specs.declared.condition.Condition.{Condition}
use Rattle.atspi_match.specs.declared.condition.Condition.TheVariants.{Kind, Sender, Interface, Member, Path}
use Rattle.atspi_match.specs.declared.condition.Condition.TheVariants.{PathNamespace, Destination, Arg, ArgPath}
use Rattle.atspi_match.specs.declared.condition.Condition.TheVariants.{Arg0Namespace, Eavesdrop}

-- the number of a message's type
abbrev pub type_number : MessageType → ℕ
type_number MethodCall = 1
type_number MethodReturn = 2
type_number Error = 3
type_number Signal = 4

-- the connection that owns the well-known name has this unique name
abbrev pub Owns : Owners → List ℕ → List ℕ → Type 0
Owns owners name unique = (conn : ℕ) × (owner_in (list_of owners.lists name) ≡ Some conn)
    × (finmap.get owners.unique conn ≡ Some unique)

-- a sender or a destination goes by the name: literally, or as the owner of it, where it is a well-known one
abbrev pub GoesBy : Owners → List ℕ → List ℕ → Type 0
GoesBy owners name field = (field ≡ name) ⊎ ((is_unique_name name ≡ false) × Owns owners name field)

-- a text begins with another
abbrev pub BeginsWith : List ℕ → List ℕ → Type 0
BeginsWith text front = (rest : List ℕ) × (text ≡ front ++ rest)

-- a text ends in /
abbrev pub EndsInSlash : List ℕ → Type 0
EndsInSlash text = (front : List ℕ) × (text ≡ front ++ 47 ∷ [])

-- a text is the namespace, or begins with it and the separator
abbrev pub IsWithin : ℕ → List ℕ → List ℕ → Type 0
IsWithin separator namespace text = (text ≡ namespace) ⊎ BeginsWith text (namespace ++ separator ∷ [])

-- a path lies in the namespace; every path lies in /
abbrev pub IsPathWithin : List ℕ → List ℕ → Type 0
IsPathWithin namespace path = (namespace ≡ 47 ∷ []) ⊎ IsWithin 47 namespace path

-- two texts are the same path, or one of them ends in / and the other begins with it
abbrev pub IsSameBranch : List ℕ → List ℕ → Type 0
IsSameBranch a b = (a ≡ b) ⊎ (EndsInSlash a × BeginsWith b a) ⊎ (EndsInSlash b × BeginsWith a b)

-- the bytes of a value that is a text
abbrev pub text_bytes : Data → Option (List ℕ)
text_bytes (text_data cs) = Some (encode_utf8_all cs)
text_bytes d = None

-- the bytes of a value that is a text or a path
abbrev pub text_or_path_bytes : Data → Option (List ℕ)
text_or_path_bytes (text_data cs) = Some (encode_utf8_all cs)
text_or_path_bytes (path_data bs) = Some bs
text_or_path_bytes d = None

-- the text that is the argument of this number, counted from 0
abbrev pub text_argument : Envelope → ℕ → Option (List ℕ)
text_argument e n = option_and_then text_bytes (slice_get e.body n)

-- the text or path that is the argument of this number
abbrev pub text_or_path_argument : Envelope → ℕ → Option (List ℕ)
text_or_path_argument e n = option_and_then text_or_path_bytes (slice_get e.body n)

-- a condition holds of a message
abbrev pub Holds : Envelope → Owners → Condition → Type 0
Holds e owners (Kind t) = e.kind ≡ type_number t
Holds e owners (Sender name) = IsSomeAnd e.sender (GoesBy owners name)
Holds e owners (Interface name) = e.interface ≡ Some name
Holds e owners (Member name) = e.member ≡ Some name
Holds e owners (Path path) = e.path ≡ Some path
Holds e owners (PathNamespace path) = IsSomeAnd e.path (IsPathWithin path)
Holds e owners (Destination name) = IsSomeAnd e.destination (GoesBy owners name)
Holds e owners (Arg n text) = text_argument e n ≡ Some (encode_utf8_all text)
Holds e owners (ArgPath n text) = IsSomeAnd (text_or_path_argument e n) (IsSameBranch (encode_utf8_all text))
Holds e owners (Arg0Namespace text) = IsSomeAnd (text_argument e 0) (IsWithin 46 (encode_utf8_all text))
Holds e owners (Eavesdrop b) = Unit {0}

-- a rule matches a message where each of its conditions holds
abbrev pub Matches : List Condition → Envelope → Owners → Type 0
Matches rule e owners = All (Holds e owners) rule
