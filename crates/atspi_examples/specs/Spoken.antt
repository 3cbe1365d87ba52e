-- A tree of two nodes, and what cases of spoken lines say of it.
use Rattle.std.specs.Prelude.{ℕ, ◌^◌, List, codes}
use Rattle.atspi_tree_model.specs.Forest.{Forest, nil, tree}
use Rattle.atspi_tree_model.specs.Row.{TreeRow}
use Rattle.atspi_examples.specs.Room.{bare}

-- a node of this number with a name, a role and states, and nothing else
abbrev pub named : ℕ → List ℕ → ℕ → ℕ → TreeRow
named n name role states = record (bare n states) { shape = record (bare n states).shape { name = name; role = role } }

-- an application, with a check box below it that has the focus
abbrev pub window_tree : Forest TreeRow
window_tree = tree (named 0 (codes "Demo") 75 0) (tree (named 1 (codes "Find") 7 (2 ^ 12)) nil nil) nil
