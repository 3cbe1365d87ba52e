-- The tree of an application as one value.
use Rattle.std.specs.Prelude.{ℕ, refl, List, Option}
use Rattle.std.specs.Coded.{Coded, code_by, coded×, coded_ℕ}
use Rattle.atspi_tree_model.specs.declared.step.Step.{Step}
use Rattle.atspi_tree_model.specs.Forest.{Forest, find}
use Rattle.atspi_tree_model.specs.ForestCode.{forest_code}
use Rattle.atspi_tree_model.specs.Row.{TreeRow}
use Rattle.atspi_tree_model.specs.RowCode.{row_code}
use Rattle.atspi_tree_model.specs.RowRules.{rows}
use Rattle.atspi_tree_model.specs.Tree.{IsTree, Applies, is_node, shape_of, after, added_after, first_tree}
use Rattle.atspi_tree.specs.TreeShape.{TreeShape}

-- the rows in their places, and how many nodes were ever added, the root not counted
pub record AppTree : Type 0 where
  pub forest : Forest TreeRow
  pub added : ℕ

abbrev pub app_tree_code : Coded AppTree
app_tree_code =
    code_by (Forest TreeRow × ℕ) (coded× (forest_code row_code) coded_ℕ) (λ t. (t.forest, t.added))
    (λ p. record { forest = p.0; added = p.1 }) (λ _. refl)

-- the rules of a tree are kept
abbrev pub IsAppTree : AppTree → Type 0
IsAppTree t = IsTree rows t.forest t.added

-- the root alone
abbrev pub first_app_tree : List ℕ → AppTree
first_app_tree name = record { forest = first_tree rows name; added = 0 }

-- a step applies, and the tree after it
abbrev pub StepCanBe : AppTree → Step → Type 0
StepCanBe t step = Applies rows t.forest t.added step

abbrev pub tree_after : AppTree → Step → AppTree
tree_after t step = record { forest = after rows t.forest step; added = added_after t.added step }

-- all but the contents of the nodes
abbrev pub shape_in : AppTree → TreeShape
shape_in t = record { rows = shape_of t.forest; added = t.added }

-- the row of a node, where it is there
abbrev pub row_in : ℕ → AppTree → Option TreeRow
row_in n t = find (is_node n) t.forest
