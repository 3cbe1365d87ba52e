-- The table of members, looked up line by line.
use Rattle.std.specs.Prelude.{ℕ, Bool, ◌&&◌, List, [], ◌∷◌, Option, None, Some, codes, bytes_eq, if◌then◌else◌, Result}
use Rattle.std.specs.Prelude.{Ok, Err}
use Rattle.atspi_match.specs.declared.routing.member.BusMember.{BusMember}
use Rattle.atspi_match.specs.declared.routing.member.BusMember.TheVariants.{Hello, RequestName, ReleaseName}
use Rattle.atspi_match.specs.declared.routing.member.BusMember.TheVariants.{NameHasOwner, GetNameOwner, ListNames}
use Rattle.atspi_match.specs.declared.routing.member.BusMember.TheVariants.{ListQueuedOwners, AddMatch, RemoveMatch}
use Rattle.atspi_match.specs.declared.routing.member.BusMember.TheVariants.{GetId, Ping}
use Rattle.atspi_match.specs.routing.Members.{MemberLine, is_text}
use Rattle.atspi_bus_answers.specs.declared.error.BusError.{BusError}
use Rattle.atspi_bus_answers.specs.Errors.{error_text}

-- a call with this interface and this member asks for the member of this name, of an interface of this one
abbrev pub is_named : Option (List ℕ) → Option (List ℕ) → List ℕ → List ℕ → Bool
is_named None member of name = is_text member name
is_named (Some interface) member of name = bytes_eq interface of && is_text member name

-- the member of the first such line
abbrev pub member_in : Option (List ℕ) → Option (List ℕ) → List MemberLine → Option BusMember
member_in interface member [] = None
member_in interface member (l ∷ ls) = if is_named interface member l.interface l.name then Some l.member
    else member_in interface member ls

-- the signature of a member's arguments
abbrev pub takes_of : BusMember → List ℕ
takes_of Hello = []
takes_of RequestName = codes "su"
takes_of ReleaseName = codes "s"
takes_of NameHasOwner = codes "s"
takes_of GetNameOwner = codes "s"
takes_of ListNames = []
takes_of ListQueuedOwners = codes "s"
takes_of AddMatch = codes "s"
takes_of RemoveMatch = codes "s"
takes_of GetId = []
takes_of Ping = []

-- a member, or the name of an error
abbrev pub as_named : Result BusMember BusError → Result BusMember (List ℕ)
as_named (Ok member) = Ok member
as_named (Err error) = Err (error_text error)
