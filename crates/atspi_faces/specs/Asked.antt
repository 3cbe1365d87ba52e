-- What may be asked of the contents of a node, whatever their kind: of contents that have no text and no names anything
-- may be asked, and nothing comes of it.
use Rattle.std.specs.Prelude.{ℕ}
use Rattle.atspi_tree_model.specs.declared.contents.FaceData.{FaceData}
use Rattle.atspi_tree_model.specs.declared.contents.FaceData.TheVariants.{Chars, Grid, Deeds}
use Rattle.atspi_faces.specs.declared.face.change.Change.{Change}
use Rattle.atspi_faces.specs.face.Contents.{IsPart, IsChange}

abbrev pub MayAsk : FaceData → ℕ → ℕ → Type 0
MayAsk (Chars text caret marks) from to = IsPart (Chars text caret marks) from to
MayAsk (Grid columns) from to = Unit {0}
MayAsk (Deeds names) from to = IsPart (Deeds names) from to

abbrev pub MayChange : FaceData → Change → Type 0
MayChange (Chars text caret marks) change = IsChange (Chars text caret marks) change
MayChange (Grid columns) change = Unit {0}
MayChange (Deeds names) change = Unit {0}
