-- The registry's two objects, with the lines of the table that are theirs written out, and looked up line by line.
use Rattle.std.specs.Prelude.{ℕ, Bool, true, false, ◌&&◌, List, [], ◌∷◌, length, take, Option, None, Some, codes}
use Rattle.std.specs.Prelude.{bytes_eq, if◌then◌else◌, Result, Ok, Err}
use Rattle.atspi_protocol.specs.declared.ends.error.CallError.{CallError}
use Rattle.atspi_protocol.specs.ends.Messages.{error_word}
use Rattle.atspi_protocol.specs.declared.members.member.ObjectMember.{ObjectMember}
use Rattle.atspi_protocol.specs.declared.members.member.ObjectMember.TheVariants as members
use Rattle.atspi_protocol.specs.members.Interfaces as names
use Rattle.atspi_protocol.specs.members.Objects as objects
use Rattle.atspi_protocol.specs.members.Asked.{is_text}
use Rattle.atspi_registry.specs.declared.calls.object.RegistryObject.{RegistryObject}
use Rattle.atspi_registry.specs.declared.calls.object.RegistryObject.TheVariants.{Listeners, Root}

abbrev pub object_of : RegistryObject → objects.Object
object_of Listeners = objects.registry_object
object_of Root = objects.registry_root

-- an object, if there is one
abbrev pub object_or_none : Option RegistryObject → Option objects.Object
object_or_none None = None
object_or_none (Some o) = Some (object_of o)

-- the names of its interfaces
abbrev pub interfaces_of : RegistryObject → List (List ℕ)
interfaces_of Listeners = names.registry ∷ names.properties ∷ names.peer ∷ []
interfaces_of Root = names.accessible ∷ names.socket ∷ names.properties ∷ names.peer ∷ []

-- the interface and the name of each member
pub record Line : Type 0 where
  pub interface : List ℕ
  pub name : List ℕ
  pub member : ObjectMember

abbrev line : List ℕ → List ℕ → ObjectMember → Line
line interface name member = record { interface = interface; name = name; member = member }

abbrev pub lines_of : RegistryObject → List Line
lines_of Listeners =
    line names.registry (codes "RegisterEvent") members.RegisterEvent
    ∷ line names.registry (codes "DeregisterEvent") members.DeregisterEvent
    ∷ line names.registry (codes "GetRegisteredEvents") members.GetRegisteredEvents
    ∷ line names.properties (codes "Get") members.Get
    ∷ line names.properties (codes "GetAll") members.GetAll
    ∷ line names.properties (codes "Set") members.Set
    ∷ line names.peer (codes "Ping") members.Ping
    ∷ []
lines_of Root =
    line names.accessible (codes "GetChildAtIndex") members.GetChildAtIndex
    ∷ line names.accessible (codes "GetChildren") members.GetChildren
    ∷ line names.accessible (codes "GetRole") members.GetRole
    ∷ line names.accessible (codes "GetRoleName") members.GetRoleName
    ∷ line names.socket (codes "Embed") members.Embed
    ∷ line names.socket (codes "Unembed") members.Unembed
    ∷ line names.properties (codes "Get") members.Get
    ∷ line names.properties (codes "GetAll") members.GetAll
    ∷ line names.properties (codes "Set") members.Set
    ∷ line names.peer (codes "Ping") members.Ping
    ∷ []

-- a call with this interface, or with none, and this member asks for the member of this name, of an interface of this
-- one
abbrev pub is_named : Option (List ℕ) → Option (List ℕ) → List ℕ → List ℕ → Bool
is_named None member of name = is_text member name
is_named (Some interface) member of name = bytes_eq interface of && is_text member name

-- the member of the first such line
abbrev pub member_in : Option (List ℕ) → Option (List ℕ) → List Line → Option ObjectMember
member_in interface member [] = None
member_in interface member (l ∷ ls) = if is_named interface member l.interface l.name then Some l.member
    else member_in interface member ls

-- the signature of a member's arguments, and whether others may stand behind those
abbrev pub takes_of : ObjectMember → List ℕ
takes_of members.RegisterEvent = codes "s"
takes_of members.DeregisterEvent = codes "s"
takes_of members.GetChildAtIndex = codes "i"
takes_of members.Embed = codes "(so)"
takes_of members.Unembed = codes "(so)"
takes_of members.Get = codes "ss"
takes_of members.GetAll = codes "s"
takes_of members.Set = codes "ssv"
takes_of _ = []

abbrev pub takes_more : ObjectMember → Bool
takes_more members.RegisterEvent = true
takes_more _ = false

-- what an error is called
abbrev pub as_word : {A : Type 0} → Result A CallError → Result A (List ℕ)
as_word (Ok x) = Ok x
as_word (Err error) = Err (error_word error)

-- these codes of types are those that a member takes
abbrev pub are_taken : ObjectMember → List ℕ → Bool
are_taken member codes = if takes_more member then bytes_eq (take (length (takes_of member)) codes) (takes_of member)
    else bytes_eq codes (takes_of member)
