-- The conditions of a match rule, and which lists of them are a rule (D-Bus Specification, "Match Rules").
use Rattle.std.specs.Prelude.{◌≡◌, ◌<◌, ◌≤◌, ◌+◌, ◌⊎◌, ℕ, Bool, true, false, ◌&&◌, ◌==◌, List, [], ◌∷◌, ◌++◌, length}
use Rattle.std.specs.Prelude.{codes, decimal, chars, encode_utf8_all, bytes_eq}
use Rattle.std.specs.Cmp.Lexicographic.{pointwise}
use Rattle.std.specs.List.{AllByRecursion, list_any}
use Rattle.std.specs.Str.{all_scalars}
use Rattle.atspi_base.specs.Text.{IsTextBytes}
use Rattle.atspi_base.specs.valid_names.Names.{IsBusName, IsInterface, IsMember, IsPath, IsElement}
use Rattle.atspi_base.specs.declared.valid_names.elements.Form.TheVariants.{WellKnown}
use Rattle.atspi_match.specs.declared.condition.MessageType.{MessageType}
use Rattle.atspi_match.specs.declared.condition.MessageType.TheVariants.{Signal, MethodCall, MethodReturn, Error}
use Rattle.atspi_match.specs.declared.condition.Condition.{Condition}
use Rattle.atspi_match.specs.declared.condition.Condition.TheVariants.{Kind, Sender, Interface, Member, Path}
use Rattle.atspi_match.specs.declared.condition.Condition.TheVariants.{PathNamespace, Destination, Arg, ArgPath}
use Rattle.atspi_match.specs.declared.condition.Condition.TheVariants.{Arg0Namespace, Eavesdrop}

-- the place of a condition's key among the keys
abbrev pub rank : Condition → ℕ
rank (Kind t) = 0
rank (Sender name) = 1
rank (Interface name) = 2
rank (Member name) = 3
rank (Path path) = 4
rank (PathNamespace path) = 5
rank (Destination name) = 6
rank (Arg n text) = 7 + n
rank (ArgPath n text) = 71 + n
rank (Arg0Namespace text) = 135
rank (Eavesdrop b) = 136

-- the bytes of a key
abbrev pub key_text : Condition → List ℕ
key_text (Kind t) = codes "type"
key_text (Sender name) = codes "sender"
key_text (Interface name) = codes "interface"
key_text (Member name) = codes "member"
key_text (Path path) = codes "path"
key_text (PathNamespace path) = codes "path_namespace"
key_text (Destination name) = codes "destination"
key_text (Arg n text) = codes "arg" ++ decimal n
key_text (ArgPath n text) = codes "arg" ++ decimal n ++ codes "path"
key_text (Arg0Namespace text) = codes "arg0namespace"
key_text (Eavesdrop b) = codes "eavesdrop"

-- the bytes of a type's name
abbrev pub type_text : MessageType → List ℕ
type_text Signal = codes "signal"
type_text MethodCall = codes "method_call"
type_text MethodReturn = codes "method_return"
type_text Error = codes "error"

-- the bytes of a truth value
abbrev pub bool_text : Bool → List ℕ
bool_text true = codes "true"
bool_text false = codes "false"

-- the bytes of a value. A name is the list of its bytes, a text that of its characters
abbrev pub value_text : Condition → List ℕ
value_text (Kind t) = type_text t
value_text (Sender name) = name
value_text (Interface name) = name
value_text (Member name) = name
value_text (Path path) = path
value_text (PathNamespace path) = path
value_text (Destination name) = name
value_text (Arg n text) = encode_utf8_all text
value_text (ArgPath n text) = encode_utf8_all text
value_text (Arg0Namespace text) = encode_utf8_all text
value_text (Eavesdrop b) = bool_text b

-- a list of characters is a text: its bytes are those of one, and spell these characters
pub record IsText (text : List ℕ) : Type 0 where
  pub scalars : all_scalars text ≡ true
  pub bytes : IsTextBytes (encode_utf8_all text)
  pub spelled : chars (encode_utf8_all text) ≡ text

-- a namespace of bus names: a bus name, or one element of a well-known one
abbrev pub IsNamespace : List ℕ → Type 0
IsNamespace bytes = IsBusName bytes ⊎ (IsElement WellKnown bytes × (length bytes ≤ 255))

-- the value of a condition is one that its key may have, and there are 64 arguments
abbrev pub IsCondition : Condition → Type 0
IsCondition (Kind t) = Unit {0}
IsCondition (Sender name) = IsBusName name
IsCondition (Interface name) = IsInterface name
IsCondition (Member name) = IsMember name
IsCondition (Path path) = IsPath path
IsCondition (PathNamespace path) = IsPath path
IsCondition (Destination name) = IsBusName name
IsCondition (Arg n text) = (n < 64) × IsText text
IsCondition (ArgPath n text) = (n < 64) × IsText text
IsCondition (Arg0Namespace text) = IsText text × IsNamespace (encode_utf8_all text)
IsCondition (Eavesdrop b) = Unit {0}

-- the keys stand in their order, none of them twice
abbrev pub AreRising : List Condition → Type 0
AreRising [] = Unit {0}
AreRising (c ∷ conditions) = AllByRecursion (λ d. rank c < rank d) conditions × AreRising conditions

-- whether there is a condition on the key at this place
abbrev pub has_rank : ℕ → List Condition → Bool
has_rank r conditions = list_any (λ c. rank c == r) conditions

-- a match rule
pub record IsRule (conditions : List Condition) : Type 0 where
  pub rising : AreRising conditions
  pub each : AllByRecursion IsCondition conditions
  -- not both path and path_namespace
  pub one_path : (has_rank 4 conditions && has_rank 5 conditions) ≡ false

-- whether two conditions have the same key and spell the same value
abbrev pub same_condition : Condition → Condition → Bool
same_condition c d = rank c == rank d && bytes_eq (value_text c) (value_text d)

-- whether two rules are the same
abbrev pub same_rule : List Condition → List Condition → Bool
same_rule = pointwise same_condition
