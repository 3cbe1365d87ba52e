-- What an object offers: its interfaces, in the order of the table, with their members and properties.
use Rattle.std.specs.Prelude.{ℕ, Bool, true, List, [], ◌∷◌, ◌++◌, filter, codes, bytes_eq, if◌then◌else◌}
use Rattle.std.specs.List.{list_any}
use Rattle.atspi_protocol.specs.members.Interfaces.{accessible, cache, registry, socket, properties, peer}
use Rattle.atspi_protocol.specs.members.Table.{MemberLine, PropertyLine, member_lines, property_lines}

pub record Object : Type 0 where
  pub interfaces : List (List ℕ)
  pub members : List MemberLine
  pub properties : List PropertyLine

-- a name is one of these
abbrev pub is_among : List (List ℕ) → List ℕ → Bool
is_among names name = list_any (bytes_eq name) names

-- an object with these interfaces, beside the two that every object has
abbrev pub object_with : List (List ℕ) → Object
object_with interfaces =
    let all = interfaces ++ properties ∷ peer ∷ [] in
    record {
      interfaces = all;
      members = filter (λ (l : MemberLine). is_among all l.interface) member_lines;
      properties = filter (λ (l : PropertyLine). is_among all l.interface) property_lines;
    }

-- of an interface's members, and of its properties, those with these names alone
abbrev pub keeping : List ℕ → List (List ℕ) → Object → Object
keeping interface names o = record o {
  members =
      filter (λ (l : MemberLine). if bytes_eq l.interface interface then is_among names l.name else true) o.members;
  properties =
      filter (λ (l : PropertyLine). if bytes_eq l.interface interface then is_among names l.name else true)
      o.properties;
}

-- the object that tells a whole application
abbrev pub cache_object : Object
cache_object = object_with (cache ∷ [])

-- the registry's two objects; its root has a part of Accessible
abbrev pub registry_object : Object
registry_object = object_with (registry ∷ [])

abbrev pub registry_root : Object
registry_root =
    keeping accessible
    (codes "Name" ∷ codes "ChildCount" ∷ codes "GetChildAtIndex" ∷ codes "GetChildren" ∷ codes "GetRole"
    ∷ codes "GetRoleName" ∷ [])
    (object_with (accessible ∷ socket ∷ []))
