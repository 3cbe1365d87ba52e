-- What holds of the counts of a node.
use Rattle.atspi_tree_model.specs.declared.contents.FaceKind.TheVariants.{Chars, Grid, Deeds}
use Rattle.atspi_tree_model.specs.Row.{ShapeRow}
use Rattle.atspi_faces.specs.face.Nodes.{AreContents}
use Rattle.atspi_protocol.specs.whole.Whole.{Faces, filled}
use Rattle.atspi_app_answers.specs.Counted.{AreCounts, counts_at}

-- each face has contents of its kind alone
pub record AreFaces (faces : Faces) : Type 0 where
  pub chars : AreContents Chars faces.chars
  pub grid : AreContents Grid faces.grid
  pub deeds : AreContents Deeds faces.deeds

abbrev pub FacesTellCounts : Type 0
FacesTellCounts = (faces : Faces) (s : ShapeRow) → AreFaces faces → AreCounts (counts_at faces s.node) (filled faces s)
