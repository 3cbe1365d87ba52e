-- The keys of conditions, and the key that some bytes are.
use Rattle.std.specs.Prelude.{◌≡◌, ◌≢◌, ℕ, ◌+◌, ◌-◌, ◌*◌, ◌<◌, ◌==◌, ◌&&◌, ◌||◌, not, nat_lt, Bool, false, List, length}
use Rattle.std.specs.Prelude.{take, drop, slice_index, codes, bytes_eq, Option, Some, None, if◌then◌else◌}
use Rattle.std.specs.Char.{is_ascii_digit}
use Rattle.atspi_match.specs.Conditions.{IsCondition, value_text, has_rank}
use Rattle.atspi_match.specs.declared.condition.Condition.{Condition}
use Rattle.atspi_match.specs.declared.condition.Condition.TheVariants as conditions
use Rattle.atspi_match.specs.declared.key.Key.{Key}
use Rattle.atspi_match.specs.declared.key.Key.TheVariants as keys

-- the key of a condition
abbrev pub key_of : Condition → Key
key_of (conditions.Kind t) = keys.Kind
key_of (conditions.Sender name) = keys.Sender
key_of (conditions.Interface name) = keys.Interface
key_of (conditions.Member name) = keys.Member
key_of (conditions.Path path) = keys.Path
key_of (conditions.PathNamespace path) = keys.PathNamespace
key_of (conditions.Destination name) = keys.Destination
key_of (conditions.Arg n text) = keys.Arg n
key_of (conditions.ArgPath n text) = keys.ArgPath n
key_of (conditions.Arg0Namespace text) = keys.Arg0Namespace
key_of (conditions.Eavesdrop b) = keys.Eavesdrop

-- the place of a key among the keys
abbrev pub key_rank : Key → ℕ
key_rank keys.Kind = 0
key_rank keys.Sender = 1
key_rank keys.Interface = 2
key_rank keys.Member = 3
key_rank keys.Path = 4
key_rank keys.PathNamespace = 5
key_rank keys.Destination = 6
key_rank (keys.Arg n) = 7 + n
key_rank (keys.ArgPath n) = 71 + n
key_rank keys.Arg0Namespace = 135
key_rank keys.Eavesdrop = 136

-- there are 64 arguments
abbrev pub IsKey : Key → Type 0
IsKey (keys.Arg n) = n < 64
IsKey (keys.ArgPath n) = n < 64
IsKey k = Unit {0}

-- a key with a name of its own
unfoldable pub named_key : List ℕ → Option Key
named_key bytes =
    if bytes_eq bytes (codes "type") then Some keys.Kind
    else if bytes_eq bytes (codes "sender") then Some keys.Sender
    else if bytes_eq bytes (codes "interface") then Some keys.Interface
    else if bytes_eq bytes (codes "member") then Some keys.Member
    else if bytes_eq bytes (codes "path") then Some keys.Path
    else if bytes_eq bytes (codes "path_namespace") then Some keys.PathNamespace
    else if bytes_eq bytes (codes "destination") then Some keys.Destination
    else if bytes_eq bytes (codes "arg0namespace") then Some keys.Arg0Namespace
    else if bytes_eq bytes (codes "eavesdrop") then Some keys.Eavesdrop
    else None

-- the digit at a place
unfoldable pub digit_at : List ℕ → ℕ → Option ℕ
digit_at bytes at = if nat_lt at (length bytes) && is_ascii_digit (slice_index bytes at)
    then Some (slice_index bytes at - 48) else None

-- the number of an argument and how many digits it has
abbrev pub two_digits : ℕ → ℕ → Option (ℕ × ℕ)
two_digits a b = if a == 0 || (nat_lt 6 a || (a == 6 && nat_lt 3 b)) then None else Some (10 * a + b, 2)

abbrev pub index_from : Option ℕ → Option ℕ → Option (ℕ × ℕ)
index_from None second = None
index_from (Some a) None = Some (a, 1)
index_from (Some a) (Some b) = two_digits a b

unfoldable pub index_in : List ℕ → Option (ℕ × ℕ)
index_in bytes = index_from (digit_at bytes 0) (digit_at bytes 1)

-- the key behind arg
abbrev pub arg_from : List ℕ → Option (ℕ × ℕ) → Option Key
arg_from bytes None = None
arg_from bytes (Some n) =
    if length bytes == n.1 then Some (keys.Arg n.0)
    else if bytes_eq (drop n.1 bytes) (codes "path") then Some (keys.ArgPath n.0)
    else None

unfoldable pub arg_key : List ℕ → Option Key
arg_key bytes = arg_from bytes (index_in bytes)

-- the key that the bytes are
abbrev pub or_arg : List ℕ → Option Key → Option Key
or_arg bytes (Some key) = Some key
or_arg bytes None = if nat_lt (length bytes) 3 then None else if bytes_eq (take 3 bytes) (codes "arg")
    then arg_key (drop 3 bytes) else None

unfoldable pub key_in : List ℕ → Option Key
key_in bytes = or_arg bytes (named_key bytes)

-- no condition on the key has this value
abbrev pub NoCondition : Key → List ℕ → Type 0
NoCondition key value = (c : Condition) → IsCondition c → key_of c ≡ key → value_text c ≢ value

-- the other of path and path_namespace stands among the conditions
abbrev pub has_rival : Key → List Condition → Bool
has_rival keys.Path conditions = has_rank 5 conditions
has_rival keys.PathNamespace conditions = has_rank 4 conditions
has_rival key conditions = false

-- why a key may not come behind the conditions: 3 it stands among them, 7 its rival does
abbrev pub key_refusal : Key → List Condition → Option ℕ
key_refusal key conditions = if has_rank (key_rank key) conditions then Some 3 else if has_rival key conditions
    then Some 7 else None
