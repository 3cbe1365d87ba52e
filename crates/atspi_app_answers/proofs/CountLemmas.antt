-- The counts that faces tell of a node are those of its row.
use Rattle.std.proofs.Common.{◌≡◌, ℕ, Option, Some, None, length, refl}
use Rattle.std.specs.FinMap.{get}
use Rattle.std.specs.Option.{option_map_or}
use Rattle.atspi_tree_model.specs.declared.contents.FaceData.{FaceData}
use Rattle.atspi_tree_model.specs.declared.contents.FaceData.TheVariants.{Chars, Grid, Deeds}
use Rattle.atspi_tree_model.specs.declared.contents.FaceKind.{FaceKind}
use Rattle.atspi_tree_model.specs.declared.contents.FaceKind.TheVariants as kinds
use Rattle.atspi_tree_model.specs.Row.{ShapeRow}
use Rattle.atspi_faces.specs.face.Contents.{kind_of, count_of, caret_of}
use Rattle.atspi_faces.specs.face.Nodes.{Nodes, AreContents}
use Rattle.atspi_protocol.specs.whole.Whole.{Faces, filled}
use Rattle.atspi_protocol.specs.objects.Texts.{text_of}
use Rattle.atspi_protocol.specs.objects.Tables.{columns_of}
use Rattle.atspi_app_answers.specs.Laws.{FacesTellCounts}

-- contents of each kind
characters_in : (faces : Faces) (s : ShapeRow) (o : Option FaceData) → get faces.chars s.node ≡ o → ((d : FaceData) → o ≡ Some d → kind_of d ≡ kinds.Chars)
    → option_map_or count_of o 0 ≡ length (text_of (filled faces s)).characters
characters_in faces s None e k = rw e refl
characters_in faces s (Some (Chars t c m)) e k = rw e refl
characters_in faces s (Some (Grid n)) e k = let z : kinds.Grid ≡ kinds.Chars = k (Grid n) refl in cc
characters_in faces s (Some (Deeds n)) e k = let z : kinds.Deeds ≡ kinds.Chars = k (Deeds n) refl in cc

caret_in : (faces : Faces) (s : ShapeRow) (o : Option FaceData) → get faces.chars s.node ≡ o → option_map_or caret_of o 0 ≡ (text_of (filled faces s)).caret
caret_in faces s None e = rw e refl
caret_in faces s (Some (Chars t c m)) e = rw e refl
caret_in faces s (Some (Grid n)) e = rw e refl
caret_in faces s (Some (Deeds n)) e = rw e refl

columns_in : (faces : Faces) (s : ShapeRow) (o : Option FaceData) → get faces.grid s.node ≡ o → ((d : FaceData) → o ≡ Some d → kind_of d ≡ kinds.Grid)
    → option_map_or count_of o 0 ≡ columns_of (filled faces s)
columns_in faces s None e k = rw e refl
columns_in faces s (Some (Grid n)) e k = rw e refl
columns_in faces s (Some (Chars t c m)) e k = let z : kinds.Chars ≡ kinds.Grid = k (Chars t c m) refl in cc
columns_in faces s (Some (Deeds n)) e k = let z : kinds.Deeds ≡ kinds.Grid = k (Deeds n) refl in cc

actions_in : (faces : Faces) (s : ShapeRow) (o : Option FaceData) → get faces.deeds s.node ≡ o → ((d : FaceData) → o ≡ Some d → kind_of d ≡ kinds.Deeds)
    → option_map_or count_of o 0 ≡ length (filled faces s).contents.actions
actions_in faces s None e k = rw e refl
actions_in faces s (Some (Deeds n)) e k = rw e refl
actions_in faces s (Some (Chars t c m)) e k = let z : kinds.Chars ≡ kinds.Deeds = k (Chars t c m) refl in cc
actions_in faces s (Some (Grid n)) e k = let z : kinds.Grid ≡ kinds.Deeds = k (Grid n) refl in cc

of_kind : (kind : FaceKind) (nodes : Nodes) (n : ℕ) → AreContents kind nodes → (d : FaceData) → get nodes n ≡ Some d → kind_of d ≡ kind
of_kind kind nodes n h d e = (h n d e).of_kind

pub faces_tell_counts : FacesTellCounts
faces_tell_counts faces s h = record {
  characters = characters_in faces s (get faces.chars s.node) refl (of_kind kinds.Chars faces.chars s.node h.chars);
  caret = caret_in faces s (get faces.chars s.node) refl;
  columns = columns_in faces s (get faces.grid s.node) refl (of_kind kinds.Grid faces.grid s.node h.grid);
  actions = actions_in faces s (get faces.deeds s.node) refl (of_kind kinds.Deeds faces.deeds s.node h.deeds);
}
