-- The calls that the bus answers, at any path (D-Bus Specification, "Message Bus Messages", and
-- "org.freedesktop.DBus.Peer").
use Rattle.std.specs.Prelude.{ℕ, Bool, true, false, ◌&&◌, List, [], ◌∷◌, filter, Option, None, Some, codes, bytes_eq}
use Rattle.std.specs.Prelude.{if◌then◌else◌, Result, Ok, Err}
use Rattle.std.specs.List.{list_any}
use Rattle.atspi_types.specs.Data.{items_of, types_of}
use Rattle.atspi_types.specs.Signatures.{signature_bytes}
use Rattle.atspi_message.specs.Envelope.{Envelope}
use Rattle.atspi_names.specs.Owners.{own_name}
use Rattle.atspi_match.specs.declared.routing.member.BusMember.{BusMember}
use Rattle.atspi_match.specs.declared.routing.member.BusMember.TheVariants.{Hello, RequestName, ReleaseName}
use Rattle.atspi_match.specs.declared.routing.member.BusMember.TheVariants.{NameHasOwner, GetNameOwner, ListNames}
use Rattle.atspi_match.specs.declared.routing.member.BusMember.TheVariants.{ListQueuedOwners, AddMatch, RemoveMatch}
use Rattle.atspi_match.specs.declared.routing.member.BusMember.TheVariants.{GetId, Ping}

-- a line of the table: an interface, a member, the signature of its arguments, and which it is
pub record MemberLine : Type 0 where
  pub interface : List ℕ
  pub name : List ℕ
  pub takes : List ℕ
  pub member : BusMember

abbrev pub peer : List ℕ
peer = codes "org.freedesktop.DBus.Peer"

abbrev line : List ℕ → List ℕ → List ℕ → BusMember → MemberLine
line interface name takes member = record { interface = interface; name = name; takes = takes; member = member }

abbrev pub member_lines : List MemberLine
member_lines =
    line own_name (codes "Hello") [] Hello
    ∷ (line own_name (codes "RequestName") (codes "su") RequestName
    ∷ (line own_name (codes "ReleaseName") (codes "s") ReleaseName
    ∷ (line own_name (codes "NameHasOwner") (codes "s") NameHasOwner
    ∷ (line own_name (codes "GetNameOwner") (codes "s") GetNameOwner
    ∷ (line own_name (codes "ListNames") [] ListNames
    ∷ (line own_name (codes "ListQueuedOwners") (codes "s") ListQueuedOwners
    ∷ (line own_name (codes "AddMatch") (codes "s") AddMatch
    ∷ (line own_name (codes "RemoveMatch") (codes "s") RemoveMatch
    ∷ (line own_name (codes "GetId") [] GetId
    ∷ (line peer (codes "Ping") [] Ping
    ∷ []))))))))))

-- a field is there and is this text
abbrev pub is_text : Option (List ℕ) → List ℕ → Bool
is_text None text = false
is_text (Some field) text = bytes_eq field text

-- a line is of the interface that a call names; where it names none, every line is
abbrev pub is_of : Option (List ℕ) → MemberLine → Bool
is_of None l = true
is_of (Some interface) l = bytes_eq interface l.interface

-- the signature of the values of a message's body
abbrev pub signature_of : Envelope → List ℕ
signature_of e = signature_bytes (types_of (items_of e.body))

-- the first line, if there is one
abbrev pub first_line : List MemberLine → Option MemberLine
first_line [] = None
first_line (l ∷ ls) = Some l

-- a call of the line's member must have its arguments
abbrev pub with_arguments : Envelope → Option MemberLine → Result BusMember (List ℕ)
with_arguments e None = Err (codes "UnknownMethod")
with_arguments e (Some l) = if bytes_eq (signature_of e) l.takes then Ok l.member else Err (codes "InvalidArgs")

-- the member that a call asks for, or the name of the error: looked for first by interface, then by member, then by
-- arguments
abbrev pub member_of : Envelope → Result BusMember (List ℕ)
member_of e =
    if list_any (is_of e.interface) member_lines
    then with_arguments e (first_line (filter (λ l. is_of e.interface l && is_text e.member l.name) member_lines))
    else Err (codes "UnknownInterface")
