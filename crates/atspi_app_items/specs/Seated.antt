-- The items of nodes at their places in a tree.
use Rattle.std.specs.Prelude.{ℕ, List, Option, None, Some}
use Rattle.atspi_tree_model.specs.declared.news.Reference.{Reference}
use Rattle.atspi_tree_model.specs.Announce.{own}
use Rattle.atspi_protocol.specs.ends.Places.{registry, root_path}

-- the parent of a root
abbrev pub of_registry : Reference
of_registry = record { bus = registry; path = root_path }

abbrev pub parent_reference : List ℕ → Option ℕ → Reference
parent_reference bus None = of_registry
parent_reference bus (Some up) = own bus up
