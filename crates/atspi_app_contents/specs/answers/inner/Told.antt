-- Words that only the private contracts and proofs beside `Told` use.
use Rattle.std.specs.Prelude.{◌≡◌, ℕ, ℤ, List, ◌∷◌, Some, []}
use Rattle.atspi_types.specs.Data.{Data}
use Rattle.atspi_tree_model.specs.Row.{ShapeRow}
use Rattle.atspi_tree.specs.TreeShape.{TreeShape, row_of}
use Rattle.atspi_faces.specs.face.Nodes.{Nodes}
use Rattle.atspi_protocol.specs.whole.Whole.{Faces, filled}
use Rattle.atspi_protocol.specs.declared.members.member.ObjectMember.{ObjectMember}
use Rattle.atspi_protocol.specs.objects.Tables.{columns_of}
use Rattle.atspi_protocol.specs.objects.Answers.{called, tells_all}
use Rattle.atspi_app_contents.specs.values.Seen.{faces_of, seen}
use Rattle.atspi_app_contents.specs.answers.Told.{Tells}

-- the same where a face keeps these texts, or these actions, whatever the tree and the other contents
abbrev pub TellsText : Nodes → ℕ → ObjectMember → List Data → List Data → Type 0
TellsText texts n member body values = (t : TreeShape) (columns actions : Nodes) (name : List ℕ)
    → Tells t (faces_of texts columns actions) name n member body values

abbrev pub TellsActions : Nodes → ℕ → ObjectMember → List Data → Data → Type 0
TellsActions actions n member body value = (t : TreeShape) (texts columns : Nodes) (name : List ℕ)
    → Tells t (faces_of texts columns actions) name n member body (value ∷ [])

-- of a node that is there, this value, whatever its contents
abbrev pub TellsOne : TreeShape → List ℕ → ℕ → ObjectMember → List Data → Data → Type 0
TellsOne t name n member body value = (faces : Faces) → Tells t faces name n member body (value ∷ [])

-- the same where it has so many columns
abbrev pub TellsCells : TreeShape → ℕ → List ℕ → ℕ → ObjectMember → List Data → Data → Type 0
TellsCells t columns name n member body value =
    (faces : Faces) (id : ℤ) (s : ShapeRow) → row_of n t ≡ Some s → columns_of (filled faces s) ≡ columns
    → called (seen t faces name id) (filled faces s) member body ≡ tells_all (seen t faces name id) (value ∷ [])
