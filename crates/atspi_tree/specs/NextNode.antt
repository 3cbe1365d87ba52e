-- Going from a number to the next node.
use Rattle.std.specs.Prelude.{ℕ, ◌≡◌, ◌≤◌, ◌<◌, true, false, Option, None, Some}
use Rattle.atspi_tree_model.specs.Forest.{has}
use Rattle.atspi_tree_model.specs.Tree.{is_shape}
use Rattle.atspi_tree.specs.TreeShape.{TreeShape}

-- the node with the least number from this one on; none where there is no such node
abbrev pub IsNextNode : TreeShape → ℕ → Option ℕ → Type 0
IsNextNode t from None = (m : ℕ) → from ≤ m → has (is_shape m) t.rows ≡ false
IsNextNode t from (Some n) =
    (from ≤ n) × (has (is_shape n) t.rows ≡ true) × ((m : ℕ) → from ≤ m → m < n → has (is_shape m) t.rows ≡ false)
