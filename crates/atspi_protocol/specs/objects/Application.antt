-- What an application answers from.
use Rattle.std.specs.Prelude.{ℕ, ℤ, List}
use Rattle.atspi_tree_model.specs.Forest.{Forest}
use Rattle.atspi_tree_model.specs.Row.{TreeRow}

-- Its tree, and how many nodes were ever added to it; its unique name; and the number that the registry gave it, -1
-- before it did.
pub record Application : Type 0 where
  pub tree : Forest TreeRow
  pub added : ℕ
  pub name : List ℕ
  pub id : ℤ
