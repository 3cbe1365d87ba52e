-- What is told of nodes that are known by their numbers.
use Rattle.std.specs.Prelude.{ℕ, ℤ, pos, negsuc, List, map, Option, None, Some}
use Rattle.atspi_types.specs.Data.{Data, array_data, items_of}
use Rattle.atspi_tree_model.specs.Path.{path_of}
use Rattle.atspi_protocol.specs.ends.Places.{reference, reference_kind, null_path, registry_root}

-- a node, or none
abbrev pub numbered_reference : List ℕ → ℕ → Data
numbered_reference name n = reference name (path_of n)

abbrev pub numbered_or_null : List ℕ → Option ℕ → Data
numbered_or_null name None = reference name null_path
numbered_or_null name (Some n) = numbered_reference name n

-- several
abbrev pub numbered_references : List ℕ → List ℕ → Data
numbered_references name ns = array_data reference_kind (items_of (map (numbered_reference name) ns))

-- the index among a parent's children by the place of a node, -1 of the root
abbrev pub index_of : Option (Option ℕ × ℕ) → ℤ
index_of (Some (Some p, i)) = pos i
index_of _ = negsuc 0

-- the parent by it, which of the root is the registry's root
abbrev pub parent_of : List ℕ → Option (Option ℕ × ℕ) → Data
parent_of name (Some (Some p, i)) = numbered_reference name p
parent_of name _ = registry_root

-- an index or a place from outside; none below 0
abbrev pub place_of : ℤ → Option ℕ
place_of (pos n) = Some n
place_of (negsuc n) = None
