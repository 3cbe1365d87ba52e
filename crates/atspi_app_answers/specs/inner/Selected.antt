-- Which nodes of a tree are selected, by their numbers.
use Rattle.std.specs.Prelude.{ℕ, Bool, false}
use Rattle.std.specs.Option.{option_map_or}
use Rattle.atspi_tree_model.specs.Row.{ShapeRow}
use Rattle.atspi_tree_model.specs.States.{has_state, selected}
use Rattle.atspi_tree.specs.TreeShape.{TreeShape, row_of}

-- a node that is there has the state
abbrev pub is_selected_in : TreeShape → ℕ → Bool
is_selected_in t n = option_map_or (λ (s : ShapeRow). has_state selected s.states) (row_of n t) false
