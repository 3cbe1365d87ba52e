-- What holds of whole trees.
use Rattle.std.specs.Prelude.{◌≡◌, ℕ}
use Rattle.atspi_tree_model.specs.declared.step.Step.{Step}
use Rattle.atspi_tree_model.specs.Forest.{Forest}
use Rattle.atspi_tree_model.specs.Row.{ShapeRow}
use Rattle.atspi_tree_model.specs.RowRules.{rows, shapes}
use Rattle.atspi_tree_model.specs.Tree.{shape_of, after, IsTree, Applies}
use Rattle.atspi_protocol.specs.whole.Whole.{Faces, whole, KnowOnly, faces_after}

-- A step that applies to the whole tree, done to the shape and to the faces, makes the whole tree after it; and the
-- faces still know no node that is not in the tree.
pub record IsFollowed (f : Forest ShapeRow) (faces : Faces) (step : Step) : Type 0 where
  pub tree : whole (after shapes f step) (faces_after f step faces) ≡ after rows (whole f faces) step
  pub only : KnowOnly (faces_after f step faces) (after shapes f step)

abbrev pub StepsAreFollowed : Type 0
StepsAreFollowed =
    (f : Forest ShapeRow) (faces : Faces) (added : ℕ) (step : Step) → KnowOnly faces f
    → IsTree rows (whole f faces) added
    → Applies rows (whole f faces) added step → IsFollowed f faces step

-- the shape of a whole tree is its shape
abbrev pub ShapeIsKept : Type 0
ShapeIsKept = (f : Forest ShapeRow) (faces : Faces) → shape_of (whole f faces) ≡ f
