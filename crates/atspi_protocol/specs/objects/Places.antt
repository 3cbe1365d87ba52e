-- Which object of an application has a path.
use Rattle.std.specs.Prelude.{ℕ, ◌==◌, List, Option, None, Some, bytes_eq, if◌then◌else◌}
use Rattle.atspi_tree_model.specs.Forest.{Forest, find}
use Rattle.atspi_tree_model.specs.Row.{TreeRow}
use Rattle.atspi_tree_model.specs.Path.{path_of}
use Rattle.atspi_tree_model.specs.Announce.{interfaces_of}
use Rattle.atspi_protocol.specs.ends.Places.{cache_path}
use Rattle.atspi_protocol.specs.members.Objects.{Object, object_with, cache_object}

-- an object: a node, or the one that tells the whole tree
pub data Place : Type 0 where
  node : TreeRow → Place
  whole_tree : Place

abbrev node_or_none : Option TreeRow → Option Place
node_or_none None = None
node_or_none (Some row) = Some (node row)

-- the node that has this path
abbrev pub node_at : Forest TreeRow → List ℕ → Option TreeRow
node_at f path = find (λ (row : TreeRow). bytes_eq (path_of row.shape.node) path) f

abbrev pub place_at : Forest TreeRow → List ℕ → Option Place
place_at f path = if bytes_eq path cache_path then Some whole_tree else node_or_none (node_at f path)

-- the interfaces of a node, in the order of the table
abbrev pub node_interfaces : TreeRow → List (List ℕ)
node_interfaces row = interfaces_of (row.shape.node == 0) row.shape.kinds

-- what it offers
abbrev pub offered : Place → Object
offered (node row) = object_with (node_interfaces row)
offered whole_tree = cache_object

abbrev pub offered_if_there : Option Place → Option Object
offered_if_there None = None
offered_if_there (Some place) = Some (offered place)
