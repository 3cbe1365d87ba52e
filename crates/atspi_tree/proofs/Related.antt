-- The relations that are read of a node.
use Rattle.std.proofs.Common.{◌≡◌, ℕ, true, List, Option, None, Some, sym, ap, ◌∙◌}
use Rattle.std.specs.Option.{option_map}
use Rattle.atspi_tree_model.specs.Forest.{has}
use Rattle.atspi_tree_model.specs.Edits.{node_targets}
use Rattle.atspi_tree_model.specs.Row.{ShapeRow, targets_of}
use Rattle.atspi_tree_model.specs.Tree.{is_shape}
use Rattle.atspi_tree.specs.declared.cell.Cell.{Cell}
use Rattle.atspi_tree.specs.TreeShape.{TreeShape, row_of}
use Rattle.atspi_tree.specs.Table.{Kept, look_in}
use Rattle.atspi_tree.proofs.Trees.{Holding, shows}

-- the relations that are read of a node are those that the table has
pub related : (es : List (ℕ × Cell)) (k n : ℕ) (t : TreeShape) → Holding es k t → has (is_shape n) t.rows ≡ true → (y : Kept) → look_in es n ≡ Some y
    → (rs : List (ℕ × ℕ)) → option_map (λ (row : ShapeRow). row.relations) (row_of n t) ≡ Some rs → rs ≡ y.row.relations
related es k n t h there y e rs told =
    same rs y.row.relations (sym told ∙ ap (option_map (λ (row : ShapeRow). row.relations)) (shows es k n t h there y e).row)
  where
    same : (x z : List (ℕ × ℕ)) → Some x ≡ Some z → x ≡ z
    same x z e = cc

-- the targets of a kind are read of the relations that a row has
pub kind_of_row : (kind : ℕ) (o : Option ShapeRow) (rs : List (ℕ × ℕ)) → option_map (λ (row : ShapeRow). row.relations) o ≡ Some rs → targets_of kind rs ≡ node_targets kind o
kind_of_row kind None rs e = absurd cc
kind_of_row kind (Some row) rs e = let same : row.relations ≡ rs = cc in ap (targets_of kind) (sym same)
