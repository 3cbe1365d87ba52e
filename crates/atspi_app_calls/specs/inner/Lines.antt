-- Lines of the table of members by name: a member, and the signature of its arguments.
use Rattle.std.specs.Prelude.{ℕ, List, [], ◌∷◌, Option, None, Some, bytes_eq, if◌then◌else◌}
use Rattle.std.specs.Borrow.{Bor}
use Rattle.atspi_protocol.specs.declared.members.member.ObjectMember.{ObjectMember}
use Rattle.atspi_protocol.specs.declared.members.property.ObjectProperty.{ObjectProperty}
use Rattle.atspi_protocol.specs.members.Table.{MemberLine, PropertyLine}
use Rattle.atspi_protocol.specs.members.Objects.{Object, is_among}
use Rattle.atspi_app_calls.specs.declared.interface.AppInterface.{AppInterface}
use Rattle.atspi_app_calls.specs.declared.object.AppObject.{AppObject}
use Rattle.atspi_app_calls.specs.Interface.{interface_name}
use Rattle.atspi_app_calls.specs.inner.Interface.{of_interface, lines_in}
use Rattle.atspi_app_calls.specs.Object.{object_of}

-- the first of some lines with this name
abbrev pub line_named : List ℕ → List MemberLine → Option (ObjectMember × List ℕ)
line_named name [] = None
line_named name (l ∷ ls) = if bytes_eq name l.name then Some (l.member, l.takes) else line_named name ls

-- the same lent from the program
abbrev pub lent_line : Option (ObjectMember × Bor (List ℕ)) → Option (ObjectMember × List ℕ)
lent_line None = None
lent_line (Some l) = Some (l.0, l.1.now)

-- what an object offers of an interface
abbrev pub offered_lines : Object → AppInterface → List MemberLine
offered_lines o i = if is_among o.interfaces (interface_name i) then lines_in i else []

-- the member of this name that an object has of an interface
abbrev pub at : AppObject → List ℕ → AppInterface → Option (ObjectMember × List ℕ)
at o name i = line_named name (offered_lines (object_of o) i)

-- the member of an object with this name, of the interface of this name where one is named
abbrev pub meant_line : Object → Option (List ℕ) → List ℕ → Option (ObjectMember × List ℕ)
meant_line o None name = line_named name o.members
meant_line o (Some interface) name = line_named name (of_interface interface o.members)

-- the property of the first of some lines with this name
abbrev pub property_first : List ℕ → List PropertyLine → Option ObjectProperty
property_first name [] = None
property_first name (l ∷ ls) = if bytes_eq name l.name then Some l.property else property_first name ls
