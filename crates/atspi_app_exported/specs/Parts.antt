-- What an application exports, by its parts: the shape that the tree keeps, and what three faces keep of its nodes.
use Rattle.std.specs.Prelude.{◌≡◌, ℕ, ◌<◌, None}
use Rattle.std.specs.FinMap.{empty, get}
use Rattle.atspi_tree_model.specs.declared.contents.FaceKind.{FaceKind}
use Rattle.atspi_tree_model.specs.declared.contents.FaceKind.TheVariants.{Chars, Grid, Deeds}
use Rattle.atspi_tree_model.specs.Forest.{Forest}
use Rattle.atspi_tree_model.specs.Row.{TreeRow}
use Rattle.atspi_tree_model.specs.RowRules.{rows}
use Rattle.atspi_tree_model.specs.Tree.{IsTree}
use Rattle.atspi_tree.specs.TreeShape.{TreeShape}
use Rattle.atspi_faces.specs.face.Nodes.{Nodes}
use Rattle.atspi_protocol.specs.whole.Whole.{Faces, whole, KnowOnly}

-- the shape, and what the faces keep
pub record Parts : Type 0 where
  pub tree : TreeShape
  pub faces : Faces

abbrev pub faces_of : Nodes → Nodes → Nodes → Faces
faces_of chars grid deeds = record { chars = chars; grid = grid; deeds = deeds }

abbrev pub parts : TreeShape → Faces → Parts
parts tree faces = record { tree = tree; faces = faces }

-- the whole tree
abbrev pub whole_of : Parts → Forest TreeRow
whole_of p = whole p.tree.rows p.faces

-- the kinds of three faces
pub record Kinds : Type 0 where
  pub chars : FaceKind
  pub grid : FaceKind
  pub deeds : FaceKind

abbrev pub kinds_of : FaceKind → FaceKind → FaceKind → Kinds
kinds_of chars grid deeds = record { chars = chars; grid = grid; deeds = deeds }

-- which three boxes they are, by their numbers
pub record Numbers : Type 0 where
  pub chars : ℕ
  pub grid : ℕ
  pub deeds : ℕ

abbrev pub numbers_of : ℕ → ℕ → ℕ → Numbers
numbers_of chars grid deeds = record { chars = chars; grid = grid; deeds = deeds }

-- the one of a kind
abbrev pub number_among : FaceKind → Numbers → ℕ
number_among Chars numbers = numbers.chars
number_among Grid numbers = numbers.grid
number_among Deeds numbers = numbers.deeds

-- with another one of a kind
abbrev pub with_number : FaceKind → ℕ → Numbers → Numbers
with_number Chars n numbers = record numbers { chars = n }
with_number Grid n numbers = record numbers { grid = n }
with_number Deeds n numbers = record numbers { deeds = n }

-- the first keeps texts, the second columns, the third actions
pub record AreKinds (kinds : Kinds) : Type 0 where
  pub texts : kinds.chars ≡ Chars
  pub columns : kinds.grid ≡ Grid
  pub actions : kinds.deeds ≡ Deeds

-- What holds of it at any time: the faces are of their kinds and know no node that is not in the tree, and shape and
-- contents make a whole tree.
pub record IsExported (of : Kinds) (p : Parts) : Type 0 where
  pub kinds : AreKinds of
  pub only : KnowOnly p.faces p.tree.rows
  pub lawful : IsTree rows (whole_of p) p.tree.added

-- the kind of a face that keeps texts
abbrev pub IsOfTexts : FaceKind → Type 0
IsOfTexts kind = kind ≡ Chars

-- a face that knows no node
abbrev pub IsEmpty : Nodes → Type 0
IsEmpty nodes = nodes ≡ empty

pub record AreEmpty (faces : Faces) : Type 0 where
  pub texts : IsEmpty faces.chars
  pub columns : IsEmpty faces.grid
  pub actions : IsEmpty faces.deeds

-- no node's number has more than 32 bits
abbrev pub AreSmall : Nodes → Type 0
AreSmall nodes = (n : ℕ) → 4294967295 < n → get nodes n ≡ None

-- what the face of a kind keeps
abbrev pub kept_by : FaceKind → Faces → Nodes
kept_by Chars faces = faces.chars
kept_by Grid faces = faces.grid
kept_by Deeds faces = faces.deeds
