-- What a call of a member changes.
use Rattle.std.specs.Prelude.{◌≡◌, ℕ, ℤ, Bool, true, false, ◌||◌, List, Option, Some}
use Rattle.atspi_types.specs.Data.{Data}
use Rattle.atspi_tree_model.specs.declared.step.Step.{Step}
use Rattle.atspi_tree_model.specs.Row.{ShapeRow}
use Rattle.atspi_tree.specs.TreeShape.{TreeShape, row_of}
use Rattle.atspi_faces.specs.face.Nodes.{Nodes}
use Rattle.atspi_protocol.specs.whole.Whole.{Faces, filled}
use Rattle.atspi_protocol.specs.declared.members.member.ObjectMember.{ObjectMember}
use Rattle.atspi_protocol.specs.declared.members.member.ObjectMember.TheVariants.{SetCaretOffset, AddSelection}
use Rattle.atspi_protocol.specs.declared.members.member.ObjectMember.TheVariants.{RemoveSelection, SetSelection}
use Rattle.atspi_protocol.specs.declared.members.member.ObjectMember.TheVariants.{SetTextContents, InsertText}
use Rattle.atspi_protocol.specs.declared.members.member.ObjectMember.TheVariants.{DeleteText, SelectChild}
use Rattle.atspi_protocol.specs.declared.members.member.ObjectMember.TheVariants.{DeselectChild, DeselectSelectedChild}
use Rattle.atspi_protocol.specs.declared.members.member.ObjectMember.TheVariants.{SelectAll, ClearSelection, DoAction}
use Rattle.atspi_protocol.specs.objects.Answers.{called, changes}
use Rattle.atspi_app_contents.specs.values.Seen.{faces_of, seen}

-- of a node that is there and whose contents the faces keep, these steps, or that nothing is changed
abbrev pub ChangesAt : TreeShape → Faces → ℕ → ObjectMember → List Data → Option (List Step) → Type 0
ChangesAt t faces n member body steps =
    (name : List ℕ) (id : ℤ) (s : ShapeRow) → row_of n t ≡ Some s
    → called (seen t faces name id) (filled faces s) member body ≡ changes (seen t faces name id) steps

-- the same where two faces keep texts and actions
abbrev pub Changes : TreeShape → Nodes → Nodes → ℕ → ObjectMember → List Data → Option (List Step) → Type 0
Changes t texts actions n member body steps = (columns : Nodes)
    → ChangesAt t (faces_of texts columns actions) n member body steps

-- the members that change texts, and which children are selected
abbrev pub changes_text : ObjectMember → Bool
changes_text SetCaretOffset = true
changes_text AddSelection = true
changes_text RemoveSelection = true
changes_text SetSelection = true
changes_text SetTextContents = true
changes_text InsertText = true
changes_text DeleteText = true
changes_text _ = false

abbrev pub changes_children : ObjectMember → Bool
changes_children SelectChild = true
changes_children DeselectChild = true
changes_children DeselectSelectedChild = true
changes_children SelectAll = true
changes_children ClearSelection = true
changes_children _ = false

-- the one that does an action
abbrev pub acts : ObjectMember → Bool
acts DoAction = true
acts _ = false

abbrev pub changes_contents : ObjectMember → Bool
changes_contents member = changes_text member || changes_children member || acts member
