-- A count of columns as contents.
use Rattle.std.specs.Prelude.{refl}
use Rattle.std.proofs.Common.{arith}
use Rattle.atspi_tree_model.specs.declared.contents.FaceData.{FaceData}
use Rattle.atspi_tree_model.specs.declared.contents.FaceData.TheVariants.{Grid}
use Rattle.atspi_tree_model.specs.declared.contents.FaceKind.TheVariants.{Grid as grid_kind}
use Rattle.atspi_faces.specs.face.Contents.{IsContents}
use Rattle.atspi_faces.specs.declared.columns.Columns.{Columns}

abbrev pub columns_data : Columns → FaceData
columns_data c = Grid c.columns

pub columns_sound : (c : Columns) → IsContents grid_kind (columns_data c)
columns_sound c = record { of_kind = refl; caret_inside = omega arith; counted = c.counted }
