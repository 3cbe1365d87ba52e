-- What a call asks of an object, or the name of the error that it gets (AT-SPI2's interface files; D-Bus Specification,
-- "Standard Interfaces"). Errors are looked for in this order: the object, the interface, the member, the arguments,
-- the property.
use Rattle.std.specs.Prelude.{ℕ, Bool, true, false, ◌&&◌, List, [], ◌∷◌, length, take, filter, Option, None, Some}
use Rattle.std.specs.Prelude.{codes, bytes_eq, if◌then◌else◌, Result, Ok, Err}
use Rattle.atspi_types.specs.Data.{Data, items_of, types_of, type_of}
use Rattle.atspi_types.specs.Signatures.{signature_bytes, type_bytes}
use Rattle.atspi_protocol.specs.declared.members.member.ObjectMember.{ObjectMember}
use Rattle.atspi_protocol.specs.declared.members.member.ObjectMember.TheVariants.{Get, GetAll, GetStringAtOffset, Set}
use Rattle.atspi_protocol.specs.declared.members.property.ObjectProperty.{ObjectProperty}
use Rattle.atspi_protocol.specs.members.Table.{MemberLine, PropertyLine}
use Rattle.atspi_protocol.specs.members.Objects.{Object, is_among}
use Rattle.atspi_protocol.specs.members.Arguments.{text_at, unsigned_at, value_at}
use Rattle.atspi_protocol.specs.members.Granularity.{grain_of}
use Rattle.atspi_units.specs.declared.grain.Grain.{Grain}

-- a member with its arguments; a property, all those of an interface, or another value for one
pub data Asked : Type 0 where
  calls : ObjectMember → List Data → Asked
  gets : ObjectProperty → Asked
  gets_all : List PropertyLine → Asked
  sets : ObjectProperty → Data → Asked

-- what goes on with a result that is not an error
abbrev pub and_then : {A B : Type 0} → (A → Result B (List ℕ)) → Result A (List ℕ) → Result B (List ℕ)
and_then f (Ok x) = f x
and_then f (Err name) = Err name

-- the first of some lines, if there is one, and else an error of this name
abbrev pub first_or : {A : Type 0} → List ℕ → List A → Result A (List ℕ)
first_or name [] = Err name
first_or name (x ∷ xs) = Ok x

-- a field is there and is this text
abbrev pub is_text : Option (List ℕ) → List ℕ → Bool
is_text None text = false
is_text (Some field) text = bytes_eq field text

-- a field is this text, if it is there
abbrev pub is_text_if_there : Option (List ℕ) → List ℕ → Bool
is_text_if_there None text = true
is_text_if_there (Some field) text = bytes_eq field text

-- the object has the interface that a call names, if it names one
abbrev pub has_interface : Object → Option (List ℕ) → Bool
has_interface o None = true
has_interface o (Some interface) = is_among o.interfaces interface

-- the signature of the values of a body
abbrev pub signature_of : List Data → List ℕ
signature_of body = signature_bytes (types_of (items_of body))

-- a body is what a member takes
abbrev pub are_taken : MemberLine → List Data → Bool
are_taken l body =
    if l.takes_more then bytes_eq (take (length l.takes) (signature_of body)) l.takes
    else bytes_eq (signature_of body) l.takes

-- The member of a call with this interface, member and body. Where it names no interface, the member is that of the
-- first one that has it.
abbrev pub member_of : Object → Option (List ℕ) → Option (List ℕ) → List Data → Result ObjectMember (List ℕ)
member_of o interface member body =
    if has_interface o interface
    then and_then with_arguments (first_or (codes "UnknownMethod") (filter is_meant o.members))
    else Err (codes "UnknownInterface")
  where
    is_meant : MemberLine → Bool
    is_meant l = is_text_if_there interface l.interface && is_text member l.name

    with_arguments : MemberLine → Result ObjectMember (List ℕ)
    with_arguments l = if are_taken l body then Ok l.member else Err (codes "InvalidArgs")

-- the object's properties of an interface, if it has that one
abbrev pub properties_of : Object → List ℕ → Result (List PropertyLine) (List ℕ)
properties_of o interface =
    if is_among o.interfaces interface
    then Ok (filter (λ (l : PropertyLine). bytes_eq interface l.interface) o.properties)
    else Err (codes "UnknownInterface")

-- one of some properties
abbrev pub property_named : List ℕ → List PropertyLine → Result PropertyLine (List ℕ)
property_named name ls = first_or (codes "UnknownProperty") (filter (λ (l : PropertyLine). bytes_eq name l.name) ls)

abbrev pub property_of : Object → List ℕ → List ℕ → Result PropertyLine (List ℕ)
property_of o interface name = and_then (property_named name) (properties_of o interface)

-- another value for a property: it can be set, and the value has its type
abbrev pub set_to : Option Data → PropertyLine → Result Asked (List ℕ)
set_to value l = if l.is_settable then typed value else Err (codes "PropertyReadOnly")
  where
    typed : Option Data → Result Asked (List ℕ)
    typed None = Err (codes "InvalidArgs")
    typed (Some d) = if bytes_eq (type_bytes (type_of d)) l.type then Ok (sets l.property d)
        else Err (codes "InvalidArgs")

-- the pieces of a text are asked for, if the number says which
abbrev pub pieces_asked : List Data → Option Grain → Result Asked (List ℕ)
pieces_asked body None = Err (codes "InvalidArgs")
pieces_asked body (Some grain) = Ok (calls GetStringAtOffset body)

-- what a member asks for, with its arguments
abbrev pub asked_by : Object → List Data → ObjectMember → Result Asked (List ℕ)
asked_by o body Get =
    and_then (λ (l : PropertyLine). Ok (gets l.property)) (property_of o (text_at 0 body) (text_at 1 body))
asked_by o body GetAll = and_then (λ ls. Ok (gets_all ls)) (properties_of o (text_at 0 body))
asked_by o body Set = and_then (set_to (value_at 2 body)) (property_of o (text_at 0 body) (text_at 1 body))
asked_by o body GetStringAtOffset = pieces_asked body (grain_of (unsigned_at 1 body))
asked_by o body member = Ok (calls member body)

-- what a call asks of the object at its path, if there is one
abbrev pub asked : Option Object → Option (List ℕ) → Option (List ℕ) → List Data → Result Asked (List ℕ)
asked None interface member body = Err (codes "UnknownObject")
asked (Some o) interface member body = and_then (asked_by o body) (member_of o interface member body)
