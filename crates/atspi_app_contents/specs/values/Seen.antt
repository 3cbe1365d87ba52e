-- What an application answers from, as its tree and three faces keep it.
use Rattle.std.specs.Prelude.{◌≡◌, ℕ, ℤ, List}
use Rattle.atspi_tree_model.specs.declared.contents.FaceKind.{FaceKind}
use Rattle.atspi_tree_model.specs.declared.contents.FaceKind.TheVariants.{Chars, Grid, Deeds}
use Rattle.atspi_tree_model.specs.declared.contents.Kinds.{Kinds}
use Rattle.atspi_tree_model.specs.Row.{IsContents}
use Rattle.atspi_tree.specs.TreeShape.{TreeShape}
use Rattle.atspi_faces.specs.face.Nodes.{Nodes}
use Rattle.atspi_protocol.specs.whole.Whole.{Faces, whole, contents_of}
use Rattle.atspi_protocol.specs.objects.Application.{Application}

abbrev pub faces_of : Nodes → Nodes → Nodes → Faces
faces_of texts columns actions = record { chars = texts; grid = columns; deeds = actions }

abbrev pub seen : TreeShape → Faces → List ℕ → ℤ → Application
seen t faces name id = record { tree = whole t.rows faces; added = t.added; name = name; id = id }

-- the faces are of their kinds, and what they keep of a node is within its limits
pub record KeepsContents (texts columns actions : FaceKind) (faces : Faces) (n : ℕ) : Type 0 where
  pub of_texts : texts ≡ Chars
  pub of_columns : columns ≡ Grid
  pub of_actions : actions ≡ Deeds
  pub kinds : Kinds
  pub lawful : IsContents kinds (contents_of faces n)
