-- The objects and calls of the worked cases.
use Rattle.std.specs.Prelude.{ℕ, pos, List, [], ◌∷◌, map, Some, Result, Ok}
use Rattle.atspi_types.specs.Data.{Data, text_data, path_data, structure_data, items_of}
use Rattle.atspi_protocol.specs.declared.members.member.ObjectMember.{ObjectMember}
use Rattle.atspi_protocol.specs.members.Interfaces.{accessible, application, text, properties}
use Rattle.atspi_protocol.specs.members.Table.{PropertyLine}
use Rattle.atspi_protocol.specs.members.Objects.{Object, object_with}
use Rattle.atspi_protocol.specs.members.Arguments.{int}
use Rattle.atspi_protocol.specs.members.Asked.{Asked, and_then, member_of, asked}

-- the member of an interface that a call of it asks for, at an object with that interface
abbrev pub meant : List ℕ → List ℕ → List Data → Result ObjectMember (List ℕ)
meant interface member body = member_of (object_with (interface ∷ [])) (Some interface) (Some member) body

-- so many numbers 0
abbrev pub one_int : List Data
one_int = int (pos 0) ∷ []

abbrev pub two_ints : List Data
two_ints = int (pos 0) ∷ one_int

abbrev pub three_ints : List Data
three_ints = int (pos 0) ∷ two_ints

-- a text, and two
abbrev pub one_text : List ℕ → List Data
one_text cs = text_data cs ∷ []

abbrev pub two_texts : List ℕ → List ℕ → List Data
two_texts cs ds = text_data cs ∷ one_text ds

-- a reference to a path
abbrev pub reference : List ℕ → List ℕ → List Data
reference bus path = structure_data (items_of (text_data bus ∷ path_data path ∷ [])) ∷ []

-- the root of an application, and a node with a text
abbrev pub root : Object
root = object_with (accessible ∷ application ∷ [])

abbrev pub label : Object
label = object_with (accessible ∷ text ∷ [])

-- what a call of a member of Properties asks of an object
abbrev pub asks : Object → List ℕ → List Data → Result Asked (List ℕ)
asks o member body = asked (Some o) (Some properties) (Some member) body

-- the names, and the types, of properties
abbrev pub names : Result (List PropertyLine) (List ℕ) → Result (List (List ℕ)) (List ℕ)
names r = and_then (λ ls. Ok (map (λ (l : PropertyLine). l.name) ls)) r

abbrev pub types_in : Result (List PropertyLine) (List ℕ) → Result (List (List ℕ)) (List ℕ)
types_in r = and_then (λ ls. Ok (map (λ (l : PropertyLine). l.type) ls)) r
