-- A tree as contracts see it, and what they read in it.
use Rattle.std.specs.Prelude.{ℕ, refl, List, Option, map}
use Rattle.std.specs.Option.{option_map}
use Rattle.std.specs.Coded.{Coded, code_by, coded×, coded_ℕ}
use Rattle.atspi_tree_model.specs.Forest.{Forest, find, tops, children_at}
use Rattle.atspi_tree_model.specs.ForestCode.{forest_code}
use Rattle.atspi_tree_model.specs.Row.{ShapeRow}
use Rattle.atspi_tree_model.specs.RowCode.{shape_code}
use Rattle.atspi_tree_model.specs.RowRules.{shapes}
use Rattle.atspi_tree_model.specs.Tree.{IsTree, Applies, is_shape, seat_of, after, added_after, first_tree}
use Rattle.atspi_tree_model.specs.declared.step.Step.{Step}

-- the rows of a tree, without their contents, and how many nodes were ever added, the root not counted
pub record TreeShape : Type 0 where
  pub rows : Forest ShapeRow
  pub added : ℕ

abbrev pub tree_code : Coded TreeShape
tree_code =
    code_by (Forest ShapeRow × ℕ) (coded× (forest_code shape_code) coded_ℕ) (λ t. (t.rows, t.added))
    (λ p. record { rows = p.0; added = p.1 }) (λ _. refl)

-- the rules of a tree are kept
abbrev pub IsLawful : TreeShape → Type 0
IsLawful t = IsTree shapes t.rows t.added

-- the root alone
abbrev pub root_alone : List ℕ → TreeShape
root_alone name = record { rows = first_tree shapes name; added = 0 }

-- a step applies, and the tree after it
abbrev pub StepApplies : TreeShape → Step → Type 0
StepApplies t step = Applies shapes t.rows t.added step

abbrev pub after_step : TreeShape → Step → TreeShape
after_step t step = record { rows = after shapes t.rows step; added = added_after t.added step }

-- the row of a node, where it is there
abbrev pub row_of : ℕ → TreeShape → Option ShapeRow
row_of n t = find (is_shape n) t.rows

-- the parent of a node, where the node is there; the root has none
abbrev pub parent_of : ℕ → TreeShape → Option (Option ℕ)
parent_of n t = option_map (λ s. s.0) (seat_of shapes n t.rows)

-- the numbers of the trees at the top of a forest, and of a node's children
abbrev pub numbers : Forest ShapeRow → List ℕ
numbers f = map (λ row. row.node) (tops f)

abbrev pub children_of : ℕ → TreeShape → List ℕ
children_of n t = numbers (children_at (is_shape n) t.rows)
