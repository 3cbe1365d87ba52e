-- A small tree, of which edits are drawn.
use Rattle.std.specs.Prelude.{ℕ, false, []}
use Rattle.atspi_tree_model.specs.Forest.{nil, tree}
use Rattle.atspi_tree_model.specs.Row.{ShapeRow}
use Rattle.atspi_tree.specs.TreeShape.{TreeShape}

-- a node of this number with these states, and nothing else
abbrev pub bare : ℕ → ℕ → ShapeRow
bare n states = record {
  node = n;
  name = [];
  description = [];
  role = 0;
  states = states;
  kinds = record { text = false; editable = false; selection = false; table = false; action = false };
  relations = [];
}

-- below the root: the node 2 with its child 3, and 5, which is checked; the nodes 1 and 4 are gone
abbrev pub small : TreeShape
small =
    record {
      rows = tree (bare 0 0) (tree (bare 2 0) (tree (bare 3 0) nil nil) (tree (bare 5 16) nil nil)) nil;
      added = 5;
    }
