-- A call that takes a pattern back says so, and one that embeds: of the registry's objects DeregisterEvent and Embed are asked only by calls whose members are those.
use Rattle.std.proofs.Common.{◌≡◌, ℕ, Bool, true, false, List, [], ◌∷◌, Option, None, Some, refl, ap, ◌∙◌}
use Rattle.std.specs.Prelude.{◌&&◌, filter, bytes_eq, codes, if◌then◌else◌, Result, Ok, Err}
use Rattle.std.proofs.lemmas.Slice.Eq.{bytes_eq-Decides}
use Rattle.atspi_types.specs.Signatures.{type_bytes}
use Rattle.atspi_types.specs.Data.{Data, type_of}
use Rattle.atspi_protocol.specs.ends.Places.{registry_path, root_path}
use Rattle.atspi_protocol.specs.declared.members.member.ObjectMember.{ObjectMember}
use Rattle.atspi_protocol.specs.declared.members.member.ObjectMember.TheVariants as members
use Rattle.atspi_protocol.specs.members.Table.{MemberLine, PropertyLine}
use Rattle.atspi_protocol.specs.members.Objects.{Object, registry_object, registry_root}
use Rattle.atspi_protocol.specs.members.Arguments.{text_at, unsigned_at, value_at}
use Rattle.atspi_protocol.specs.members.Asked.{Asked, calls, gets, gets_all, sets, and_then, first_or, is_text, is_text_if_there, has_interface, are_taken, member_of, pieces_asked, properties_of, property_of, set_to, asked_by, asked}
use Rattle.atspi_protocol.specs.members.Granularity.{grain_of}
use Rattle.atspi_units.specs.declared.grain.Grain.{Grain}
use Rattle.atspi_protocol.specs.registering.Answers.{object_at}
use Rattle.atspi_trace_laws.proofs.OfOrder.Parties.{false_true}
use Rattle.atspi_trace_laws.proofs.OfMissed.Telling.{and_left, and_right}

-- the member, where it is one of those, is what a call names
abbrev pub MemberSays : Option (List ℕ) → ObjectMember → Type 0
MemberSays text members.DeregisterEvent = text ≡ Some (codes "DeregisterEvent")
MemberSays text members.Embed = text ≡ Some (codes "Embed")
MemberSays text other = Unit {0}

abbrev pub SaysSo : Option (List ℕ) → Result Asked (List ℕ) → Type 0
SaysSo text (Ok (calls member args)) = MemberSays text member
SaysSo text r = Unit {0}

abbrev MemberIs : Option (List ℕ) → Result ObjectMember (List ℕ) → Type 0
MemberIs text (Ok member) = MemberSays text member
MemberIs text (Err word) = Unit {0}

-- PROPERTIES
gets_says : (text : Option (List ℕ)) (r : Result PropertyLine (List ℕ)) → SaysSo text (and_then (λ (l : PropertyLine). Ok (gets l.property)) r)
gets_says text (Ok l) = tt
gets_says text (Err word) = tt

all_says : (text : Option (List ℕ)) (r : Result (List PropertyLine) (List ℕ)) → SaysSo text (and_then (λ ls. Ok (gets_all ls)) r)
all_says text (Ok ls) = tt
all_says text (Err word) = tt

set_says : (text : Option (List ℕ)) (value : Option Data) (l : PropertyLine) → SaysSo text (set_to value l)
set_says text None l = by l.is_settable
  where
    by : (b : Bool) → SaysSo text (if b then Err (codes "InvalidArgs") else Err (codes "PropertyReadOnly"))
    by true = tt
    by false = tt
set_says text (Some d) l = by l.is_settable (bytes_eq (type_bytes (type_of d)) l.type)
  where
    by : (b c : Bool) → SaysSo text (if b then (if c then Ok (sets l.property d) else Err (codes "InvalidArgs")) else Err (codes "PropertyReadOnly"))
    by true true = tt
    by true false = tt
    by false c = tt

sets_says : (text : Option (List ℕ)) (value : Option Data) (r : Result PropertyLine (List ℕ)) → SaysSo text (and_then (set_to value) r)
sets_says text value (Ok l) = set_says text value l
sets_says text value (Err word) = tt

pieces_say : (text : Option (List ℕ)) (body : List Data) (grain : Option Grain) → SaysSo text (pieces_asked body grain)
pieces_say text body None = tt
pieces_say text body (Some grain) = tt

by_says : (text : Option (List ℕ)) (o : Object) (body : List Data) (member : ObjectMember) → MemberSays text member → SaysSo text (asked_by o body member)
by_says text o body members.Get h = gets_says text (property_of o (text_at 0 body) (text_at 1 body))
by_says text o body members.GetAll h = all_says text (properties_of o (text_at 0 body))
by_says text o body members.Set h = sets_says text (value_at 2 body) (property_of o (text_at 0 body) (text_at 1 body))
by_says text o body members.GetStringAtOffset h = pieces_say text body (grain_of (unsigned_at 1 body))
by_says text o body members.DeregisterEvent h = h
by_says text o body members.Embed h = h
by_says text o body other h = tt

-- MEMBERS, by the lines of an object
abbrev is_named_so : ObjectMember → List ℕ → Bool
is_named_so members.DeregisterEvent name = bytes_eq name (codes "DeregisterEvent")
is_named_so members.Embed name = bytes_eq name (codes "Embed")
is_named_so other name = true

abbrev are_named_so : List MemberLine → Bool
are_named_so [] = true
are_named_so (l ∷ ls) = is_named_so l.member l.name && are_named_so ls

text_is : (text : Option (List ℕ)) (name : List ℕ) → is_text text name ≡ true → text ≡ Some name
text_is None name h = absurd (false_true h)
text_is (Some field) name h = ap Some ((bytes_eq-Decides field name).0 h)

line_says : (text : Option (List ℕ)) (name : List ℕ) (member : ObjectMember) → is_text text name ≡ true → is_named_so member name ≡ true → MemberSays text member
line_says text name members.DeregisterEvent h so = text_is text name h ∙ ap Some ((bytes_eq-Decides name (codes "DeregisterEvent")).0 so)
line_says text name members.Embed h so = text_is text name h ∙ ap Some ((bytes_eq-Decides name (codes "Embed")).0 so)
line_says text name other h so = tt

abbrev arguments : List Data → MemberLine → Result ObjectMember (List ℕ)
arguments body l = if are_taken l body then Ok l.member else Err (codes "InvalidArgs")

abbrev is_meant : Option (List ℕ) → Option (List ℕ) → MemberLine → Bool
is_meant interface text l = is_text_if_there interface l.interface && is_text text l.name

found_says : (interface text : Option (List ℕ)) (body : List Data) (ls : List MemberLine) → are_named_so ls ≡ true
    → MemberIs text (and_then (arguments body) (first_or (codes "UnknownMethod") (filter (is_meant interface text) ls)))
found_says interface text body [] so = tt
found_says interface text body (l ∷ ls) so = by (is_meant interface text l) refl (found_says interface text body ls (and_right (is_named_so l.member l.name) (are_named_so ls) so))
  where
    given : is_meant interface text l ≡ true → (b : Bool) → MemberIs text (if b then Ok l.member else Err (codes "InvalidArgs"))
    given h true = line_says text l.name l.member (and_right (is_text_if_there interface l.interface) (is_text text l.name) h) (and_left (is_named_so l.member l.name) (are_named_so ls) so)
    given h false = tt

    by : (b : Bool) → is_meant interface text l ≡ b → MemberIs text (and_then (arguments body) (first_or (codes "UnknownMethod") (filter (is_meant interface text) ls)))
        → MemberIs text (and_then (arguments body) (first_or (codes "UnknownMethod") (if b then l ∷ filter (is_meant interface text) ls else filter (is_meant interface text) ls)))
    by true h rest = given h (are_taken l body)
    by false h rest = rest

member_says : (o : Object) (interface text : Option (List ℕ)) (body : List Data) → are_named_so o.members ≡ true → MemberIs text (member_of o interface text body)
member_says o interface text body so = by (has_interface o interface)
  where
    by : (b : Bool)
        → MemberIs text (if b then and_then (arguments body) (first_or (codes "UnknownMethod") (filter (is_meant interface text) o.members)) else Err (codes "UnknownInterface"))
    by true = found_says interface text body o.members so
    by false = tt

then_says : (text : Option (List ℕ)) (o : Object) (body : List Data) (r : Result ObjectMember (List ℕ)) → MemberIs text r → SaysSo text (and_then (asked_by o body) r)
then_says text o body (Ok member) h = by_says text o body member h
then_says text o body (Err word) h = tt

object_says : (o : Object) (interface text : Option (List ℕ)) (body : List Data) → are_named_so o.members ≡ true → SaysSo text (asked (Some o) interface text body)
object_says o interface text body so = then_says text o body (member_of o interface text body) (member_says o interface text body so)

-- the registry's two objects
pub registry_says : (path interface text : Option (List ℕ)) (body : List Data) → SaysSo text (asked (object_at path) interface text body)
registry_says None interface text body = tt
registry_says (Some path) interface text body = by (bytes_eq path registry_path) (bytes_eq path root_path)
  where
    by : (b c : Bool) → SaysSo text (asked (if b then Some registry_object else if c then Some registry_root else None) interface text body)
    by true c = object_says registry_object interface text body refl
    by false true = object_says registry_root interface text body refl
    by false false = tt
