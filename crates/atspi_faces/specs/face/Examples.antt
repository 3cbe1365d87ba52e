-- Contents and nodes that the worked examples speak of.
use Rattle.std.specs.Prelude.{ℕ, List, [], ◌∷◌, codes}
use Rattle.std.specs.FinMap.{from_sorted}
use Rattle.atspi_tree_model.specs.declared.contents.FaceData.{FaceData}
use Rattle.atspi_tree_model.specs.declared.contents.FaceData.TheVariants.{Chars, Grid, Deeds}
use Rattle.atspi_faces.specs.face.Nodes.{Nodes}

-- héllo with the caret behind the é and one selection
abbrev pub hello : FaceData
hello = Chars (104 ∷ 233 ∷ 108 ∷ 108 ∷ 111 ∷ []) 2 ((1, 3) ∷ [])

-- ab with the caret at its end
abbrev pub short : FaceData
short = Chars (97 ∷ 98 ∷ []) 2 []

abbrev pub columns : FaceData
columns = Grid 3

abbrev pub actions : FaceData
actions = Deeds (codes "click" ∷ codes "press" ∷ [])

-- nodes 3 and 7 have texts, and no other node has
abbrev pub texts : List (ℕ × FaceData)
texts = (3, hello) ∷ (7, short) ∷ []

abbrev pub two : Nodes
two = from_sorted texts
