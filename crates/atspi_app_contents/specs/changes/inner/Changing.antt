-- Words that only the private contracts and proofs beside `Changing` use.
use Rattle.std.specs.Prelude.{◌≡◌, ℕ, ℤ, List, Option, Some}
use Rattle.atspi_types.specs.Data.{Data}
use Rattle.atspi_tree_model.specs.declared.contents.FaceData.{FaceData}
use Rattle.atspi_tree_model.specs.declared.step.Step.{Step}
use Rattle.atspi_tree_model.specs.Row.{ShapeRow}
use Rattle.atspi_tree_model.specs.Edits.{text_contents, action_contents}
use Rattle.atspi_tree.specs.TreeShape.{TreeShape, row_of}
use Rattle.atspi_protocol.specs.whole.Whole.{Faces, filled}
use Rattle.atspi_protocol.specs.declared.members.member.ObjectMember.{ObjectMember}
use Rattle.atspi_protocol.specs.objects.Answers.{called, changes}
use Rattle.atspi_app_contents.specs.values.Seen.{seen}
use Rattle.atspi_app_contents.specs.changes.Changing.{ChangesAt}

-- the same whatever the contents
abbrev pub ChangesChildren : TreeShape → ℕ → ObjectMember → List Data → Option (List Step) → Type 0
ChangesChildren t n member body steps = (faces : Faces) → ChangesAt t faces n member body steps

-- the same where the text, or the actions, are known
abbrev pub ChangesText : TreeShape → FaceData → ℕ → ObjectMember → List Data → Option (List Step) → Type 0
ChangesText t known n member body steps =
    (faces : Faces) (name : List ℕ) (id : ℤ) (s : ShapeRow) → row_of n t ≡ Some s
    → text_contents (Some (filled faces s)) ≡ known
    → called (seen t faces name id) (filled faces s) member body ≡ changes (seen t faces name id) steps

abbrev pub ChangesActions : TreeShape → FaceData → ℕ → ObjectMember → List Data → Option (List Step) → Type 0
ChangesActions t known n member body steps =
    (faces : Faces) (name : List ℕ) (id : ℤ) (s : ShapeRow) → row_of n t ≡ Some s
    → action_contents (Some (filled faces s)) ≡ known
    → called (seen t faces name id) (filled faces s) member body ≡ changes (seen t faces name id) steps
