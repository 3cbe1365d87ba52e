-- What is a part or a change may be asked for.
use Rattle.std.proofs.Common.{ℕ}
use Rattle.atspi_tree_model.specs.declared.contents.FaceData.{FaceData}
use Rattle.atspi_tree_model.specs.declared.contents.FaceData.TheVariants.{Chars, Grid, Deeds}
use Rattle.atspi_faces.specs.declared.face.change.Change.{Change}
use Rattle.atspi_faces.specs.face.Contents.{IsPart, IsChange}
use Rattle.atspi_faces.specs.Asked.{MayAsk, MayChange}

pub may_ask : (what : FaceData) (from to : ℕ) → IsPart what from to → MayAsk what from to
may_ask (Chars text caret marks) from to is = is
may_ask (Grid columns) from to is = tt
may_ask (Deeds names) from to is = is

pub may_change : (what : FaceData) (change : Change) → IsChange what change → MayChange what change
may_change (Chars text caret marks) change is = is
may_change (Grid columns) change is = tt
may_change (Deeds names) change is = tt
