-- The groups of match rules. A condition on a unique sender, the interface, the member, the path or the first argument
-- is met only by a message that has the very value. So a rule is kept by one of the values that it asks for at these
-- keys, and a message looks up its own.
use Rattle.std.specs.Prelude.{◌≡◌, ◌⊎◌, ℕ, ◌+◌, ◌*◌, ◌%◌, ◌^◌, ◌==◌, List, [], ◌∷◌, ◌++◌, take, Contains, Option, None}
use Rattle.std.specs.Prelude.{Some, option_to_list, encode_utf8_all, if◌then◌else◌}
use Rattle.std.specs.List.{fold}
use Rattle.std.specs.Option.{option_map}
use Rattle.atspi_base.specs.valid_names.Names.{is_unique_name}
use Rattle.atspi_message.specs.Envelope.{Envelope}
use Rattle.atspi_match.specs.declared.condition.Condition.{Condition}
use Rattle.atspi_match.specs.declared.condition.Condition.TheVariants.{Kind, Sender, Interface, Member, Path}
use Rattle.atspi_match.specs.declared.condition.Condition.TheVariants.{PathNamespace, Destination, Arg, ArgPath}
use Rattle.atspi_match.specs.declared.condition.Condition.TheVariants.{Arg0Namespace, Eavesdrop}
use Rattle.atspi_match.specs.declared.group.GroupKey.{GroupKey}
use Rattle.atspi_match.specs.declared.group.GroupKey.TheVariants.{BySender, ByInterface, ByMember, ByPath, ByArg0}
use Rattle.atspi_match.specs.Matching.{text_argument}

-- a value with its key
abbrev pub Asked : Type 0
Asked = GroupKey × List ℕ

-- the value that a condition asks for, with its key
abbrev pub asked : Condition → Option Asked
asked (Kind t) = None
asked (Sender name) = if is_unique_name name then Some (BySender, name) else None
asked (Interface name) = Some (ByInterface, name)
asked (Member name) = Some (ByMember, name)
asked (Path path) = Some (ByPath, path)
asked (PathNamespace path) = None
asked (Destination name) = None
asked (Arg n text) = if n == 0 then Some (ByArg0, encode_utf8_all text) else None
asked (ArgPath n text) = None
asked (Arg0Namespace text) = None
asked (Eavesdrop b) = None

-- the value that a message has at a key
abbrev pub value_at : Envelope → GroupKey → Option (List ℕ)
value_at e BySender = e.sender
value_at e ByInterface = e.interface
value_at e ByMember = e.member
value_at e ByPath = e.path
value_at e ByArg0 = text_argument e 0

-- a number for a value at a key, by its first 255 bytes: equal values have equal numbers, and no more is asked of it
abbrev pub seed : GroupKey → ℕ
seed BySender = 1
seed ByInterface = 2
seed ByMember = 3
seed ByPath = 4
seed ByArg0 = 5

abbrev pub mixed : ℕ → ℕ → ℕ
mixed n byte = ((n + byte) % 2 ^ 64 * 6364136223846793005) % 2 ^ 64

unfoldable pub mark : GroupKey → List ℕ → ℕ
mark k value = fold mixed (seed k) (take 255 value)

abbrev pub mark_of : Asked → ℕ
mark_of v = mark v.0 v.1

-- the number of a value that a rule asks for
abbrev pub IsAsked : List Condition → ℕ → Type 0
IsAsked rule n = (c : Condition) × Contains rule c × (option_map mark_of (asked c) ≡ Some n)

-- the groups in which a rule may stand: those of the values that it asks for, and 0 where it asks for none
abbrev pub IsOwn : List Condition → ℕ → Type 0
IsOwn rule n = IsAsked rule n ⊎ ((n ≡ 0) × ((m : ℕ) → ¬ IsAsked rule m))

-- the groups of a message: that of the rules that ask for no value, and those of its own values
abbrev pub marked : Envelope → GroupKey → List ℕ
marked e k = option_to_list (option_map (mark k) (value_at e k))

abbrev pub groups_of : Envelope → List ℕ
groups_of e = (((((0 ∷ []) ++ marked e BySender) ++ marked e ByInterface) ++ marked e ByMember) ++ marked e ByPath)
    ++ marked e ByArg0
