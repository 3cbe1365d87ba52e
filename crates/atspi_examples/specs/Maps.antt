-- Small maps, of which all but the first are no trees.
use Rattle.std.specs.Prelude.{ℕ, zero, suc, nat_lt, cond, List, [], Option, Some, None}
use Rattle.atspi_tree_model.specs.Row.{TreeRow}
use Rattle.atspi_examples.specs.Room.{bare, root}

-- node 0 and node 1
abbrev pub two_nodes : ℕ → Option TreeRow
two_nodes zero = Some root
two_nodes (suc zero) = Some (bare 1 0)
two_nodes _ = None

-- node 0, and this row as node 1
abbrev pub two_with : TreeRow → ℕ → Option TreeRow
two_with row zero = Some root
two_with row (suc zero) = Some row
two_with row _ = None

-- a node for each number below 8,193
abbrev pub crowd : ℕ → Option TreeRow
crowd n = cond (nat_lt n 8193) (Some (bare n 0)) None

-- these children of node 0, and those of node 1
abbrev pub children_of : List ℕ → List ℕ → ℕ → List ℕ
children_of xs ys zero = xs
children_of xs ys (suc zero) = ys
children_of xs ys _ = []
