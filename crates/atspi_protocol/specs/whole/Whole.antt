-- A whole tree: its shape, which the tree keeps, and the contents of its nodes, which three faces keep, one for texts,
-- one for columns and one for actions.
use Rattle.std.specs.Prelude.{◌≡◌, ℕ, false, List, [], ◌∷◌, map, length, Option, None, Some}
use Rattle.std.specs.FinMap.{get, insert, remove}
use Rattle.atspi_tree_model.specs.declared.contents.FaceData.{FaceData}
use Rattle.atspi_tree_model.specs.declared.contents.FaceData.TheVariants.{Chars, Grid, Deeds}
use Rattle.atspi_tree_model.specs.declared.step.Step.{Step}
use Rattle.atspi_tree_model.specs.declared.step.Step.TheVariants.{Add, Remove, Insert, Delete, Caret, TextSelect}
use Rattle.atspi_tree_model.specs.Forest.{Forest, labels, has, pick, relabel}
use Rattle.atspi_tree_model.specs.Row.{ShapeRow, TextContents, Contents, TreeRow}
use Rattle.atspi_tree_model.specs.Tree.{is_shape}
use Rattle.atspi_faces.specs.declared.face.change.Change.{Change}
use Rattle.atspi_faces.specs.declared.face.change.Change.TheVariants as changes
use Rattle.atspi_faces.specs.face.Nodes.{Nodes, changed_at}

-- what each face has of each node
pub record Faces : Type 0 where
  pub chars : Nodes
  pub grid : Nodes
  pub deeds : Nodes

-- contents as those of a row; contents of another kind are none
abbrev pub as_text : Option FaceData → Option TextContents
as_text (Some (Chars text caret marks)) = Some (record { characters = text; caret = caret; selections = marks })
as_text _ = None

abbrev pub as_columns : Option FaceData → Option ℕ
as_columns (Some (Grid columns)) = Some columns
as_columns _ = None

abbrev pub as_actions : Option FaceData → List (List ℕ)
as_actions (Some (Deeds names)) = names
as_actions _ = []

-- the contents of a node
abbrev pub contents_of : Faces → ℕ → Contents
contents_of faces n = record {
  text = as_text (get faces.chars n);
  columns = as_columns (get faces.grid n);
  actions = as_actions (get faces.deeds n);
}

-- a row with its contents, and a tree of them
abbrev pub filled : Faces → ShapeRow → TreeRow
filled faces row = record { shape = row; contents = contents_of faces row.node }

abbrev pub whole : Forest ShapeRow → Faces → Forest TreeRow
whole f faces = relabel (filled faces) f

-- the faces know no node that is not in the tree
abbrev pub KnowsNo : Faces → ℕ → Type 0
KnowsNo faces n = (get faces.chars n ≡ None) × (get faces.grid n ≡ None) × (get faces.deeds n ≡ None)

abbrev pub KnowOnly : Faces → Forest ShapeRow → Type 0
KnowOnly faces f = (n : ℕ) → has (is_shape n) f ≡ false → KnowsNo faces n

-- a new node opens in the faces that it has contents for
abbrev pub with_text : ℕ → Option (List ℕ) → Nodes → Nodes
with_text n None nodes = nodes
with_text n (Some text) nodes = insert nodes n (Chars text 0 [])

abbrev pub with_columns : ℕ → Option ℕ → Nodes → Nodes
with_columns n None nodes = nodes
with_columns n (Some columns) nodes = insert nodes n (Grid columns)

abbrev pub with_actions : ℕ → List (List ℕ) → Nodes → Nodes
with_actions n [] nodes = nodes
with_actions n (name ∷ names) nodes = insert nodes n (Deeds (name ∷ names))

-- nodes that are gone close in all of them
abbrev pub without : List ℕ → Nodes → Nodes
without [] nodes = nodes
without (n ∷ ns) nodes = without ns (remove nodes n)

abbrev pub text_changed : ℕ → Change → Faces → Faces
text_changed n change faces = record faces { chars = changed_at faces.chars n change }

-- the faces after a step of a tree with this shape
abbrev pub faces_after : Forest ShapeRow → Step → Faces → Faces
faces_after f (Add n p i seed) faces = record {
  chars = with_text n seed.text faces.chars;
  grid = with_columns n seed.columns faces.grid;
  deeds = with_actions n seed.actions faces.deeds;
}
faces_after f (Remove n) faces =
    let gone = map (λ (row : ShapeRow). row.node) (labels (pick (is_shape n) f)) in
    record { chars = without gone faces.chars; grid = without gone faces.grid; deeds = without gone faces.deeds }
faces_after f (Insert n at text) faces = text_changed n (changes.Insert at text) faces
faces_after f (Delete n at text) faces = text_changed n (changes.Delete at (length text)) faces
faces_after f (Caret n at) faces = text_changed n (changes.Caret at) faces
faces_after f (TextSelect n marks) faces = text_changed n (changes.Marks marks) faces
faces_after f step faces = faces
