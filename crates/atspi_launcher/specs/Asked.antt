-- What a call asks of the launcher's object, or why it is refused (at-spi2-core's interfaces org.a11y.Bus and
-- org.a11y.Status; D-Bus Specification, "Standard Interfaces"). Errors are looked for in this order: the object, the
-- interface, the member, the arguments, the property.
use Rattle.std.specs.Prelude.{ℕ, Bool, ◌&&◌, List, [], ◌∷◌, codes, encode_utf8_all, bytes_eq, if◌then◌else◌}
use Rattle.std.specs.Prelude.{Result, Ok, Err}
use Rattle.std.specs.List.{list_any}
use Rattle.atspi_types.specs.Kinds.{boolean}
use Rattle.atspi_types.specs.Data.{Data, boolean_data, text_data, variant_data}
use Rattle.atspi_message.specs.Envelope.{Envelope}
use Rattle.atspi_protocol.specs.declared.ends.error.CallError.{CallError}
use Rattle.atspi_protocol.specs.declared.ends.error.CallError.TheVariants.{UnknownObject, UnknownInterface}
use Rattle.atspi_protocol.specs.declared.ends.error.CallError.TheVariants.{UnknownMethod, UnknownProperty, InvalidArgs}
use Rattle.atspi_protocol.specs.members.Asked.{is_text, is_text_if_there}
use Rattle.atspi_protocol.specs.members.Interfaces.{properties, peer}
use Rattle.atspi_launcher.specs.declared.ask.Status.{Status}
use Rattle.atspi_launcher.specs.declared.ask.Status.TheVariants.{IsEnabled, ScreenReaderEnabled}
use Rattle.atspi_launcher.specs.declared.ask.Ask.{Ask}
use Rattle.atspi_launcher.specs.declared.ask.Ask.TheVariants as asks

-- the launcher's well-known name, which is also an interface's; its object; and its other interfaces
abbrev pub launcher : List ℕ
launcher = codes "org.a11y.Bus"

abbrev pub launcher_path : List ℕ
launcher_path = codes "/org/a11y/bus"

abbrev pub status : List ℕ
status = codes "org.a11y.Status"

abbrev pub introspectable : List ℕ
introspectable = codes "org.freedesktop.DBus.Introspectable"

abbrev pub interfaces : List (List ℕ)
interfaces = launcher ∷ status ∷ properties ∷ introspectable ∷ peer ∷ []

abbrev pub has_interface : List ℕ → Bool
has_interface name = list_any (bytes_eq name) interfaces

abbrev pub name_of : Status → List ℕ
name_of IsEnabled = codes "IsEnabled"
name_of ScreenReaderEnabled = codes "ScreenReaderEnabled"

-- the property of this name of an interface, both as bytes
abbrev pub property : List ℕ → List ℕ → Result Status CallError
property interface name =
    if bytes_eq interface status
    then if bytes_eq name (name_of IsEnabled) then Ok IsEnabled
    else if bytes_eq name (name_of ScreenReaderEnabled) then Ok ScreenReaderEnabled
    else Err UnknownProperty
    else if has_interface interface then Err UnknownProperty
    else Err UnknownInterface

-- the members, by their arguments
abbrev pub without_arguments : Ask → List Data → Result Ask CallError
without_arguments ask [] = Ok ask
without_arguments ask _ = Err InvalidArgs

abbrev pub read_of : Result Status CallError → Result Ask CallError
read_of (Ok p) = Ok (asks.Get p)
read_of (Err e) = Err e

abbrev pub gets : List Data → Result Ask CallError
gets (text_data interface ∷ (text_data name ∷ [])) =
    read_of (property (encode_utf8_all interface) (encode_utf8_all name))
gets _ = Err InvalidArgs

abbrev pub all_of : List ℕ → Result Ask CallError
all_of interface =
    if bytes_eq interface status then Ok asks.AllProperties
    else if has_interface interface then Ok asks.NoProperties
    else Err UnknownInterface

abbrev pub gets_all : List Data → Result Ask CallError
gets_all (text_data interface ∷ []) = all_of (encode_utf8_all interface)
gets_all _ = Err InvalidArgs

abbrev pub set_of : Bool → Result Status CallError → Result Ask CallError
set_of on (Ok p) = Ok (asks.Set p on)
set_of on (Err e) = Err e

abbrev pub sets : List Data → Result Ask CallError
sets (text_data interface ∷ (text_data name ∷ (variant_data boolean (boolean_data on) ∷ []))) =
    set_of on (property (encode_utf8_all interface) (encode_utf8_all name))
sets _ = Err InvalidArgs

-- a call asks for this member of this interface, where it names an interface; else of any
abbrev pub is_for : Envelope → List ℕ → List ℕ → Bool
is_for e interface member = is_text e.member member && is_text_if_there e.interface interface

abbrev pub member_of : Envelope → Result Ask CallError
member_of e =
    if is_for e launcher (codes "GetAddress") then without_arguments asks.Address e.body
    else if is_for e properties (codes "Get") then gets e.body
    else if is_for e properties (codes "GetAll") then gets_all e.body
    else if is_for e properties (codes "Set") then sets e.body
    else if is_for e introspectable (codes "Introspect") then without_arguments asks.Introspect e.body
    else if is_for e peer (codes "Ping") then without_arguments asks.Ping e.body
    else Err UnknownMethod

-- the object has the interface that a call names, if it names one
abbrev pub is_of_object : Envelope → Bool
is_of_object e = list_any (is_text_if_there e.interface) interfaces

-- WHAT A CALL ASKS
abbrev pub asked : Envelope → Result Ask CallError
asked e = if is_text e.path launcher_path then if is_of_object e then member_of e else Err UnknownInterface
    else Err UnknownObject
