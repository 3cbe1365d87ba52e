-- What two faces keep of a node, as the contents that edits read.
use Rattle.std.proofs.Common.{◌≡◌, ℕ, Bool, true, false, List, [], Option, Some, None, refl, sym, ap, ◌∙◌}
use Rattle.std.specs.Prelude.{◌||◌}
use Rattle.std.specs.FinMap.{get}
use Rattle.std.specs.Option.{option_map_or}
use Rattle.atspi_types.specs.Data.{Data}
use Rattle.atspi_tree_model.specs.declared.contents.FaceData.{FaceData}
use Rattle.atspi_tree_model.specs.declared.contents.FaceData.TheVariants.{Chars, Grid, Deeds}
use Rattle.atspi_tree_model.specs.declared.step.Step.{Step}
use Rattle.atspi_tree_model.specs.Row.{TextContents, IsText}
use Rattle.atspi_tree_model.specs.Edits.{known_text}
use Rattle.atspi_protocol.specs.declared.members.member.ObjectMember.{ObjectMember}
use Rattle.atspi_protocol.specs.declared.members.member.ObjectMember.TheVariants.{DoAction}
use Rattle.atspi_tree.specs.TreeShape.{TreeShape}
use Rattle.atspi_tree_edits.specs.Answers.{IsKnown}
use Rattle.atspi_faces.specs.face.Nodes.{Nodes}
use Rattle.atspi_protocol.specs.whole.Whole.{as_text, as_actions}
use Rattle.atspi_app_contents.specs.texts.Texts.{text_at, text_or_none, contents_at}
use Rattle.atspi_app_contents.specs.values.Actions.{actions_in}
use Rattle.atspi_app_contents.specs.values.Seen.{faces_of}
use Rattle.atspi_app_contents.proofs.OfValues.Seen.{found_number}
use Rattle.atspi_app_contents.specs.changes.Changing.{Changes, changes_text, changes_children, acts, changes_contents}
use Rattle.atspi_app_contents.specs.changes.inner.Changing.{ChangesText, ChangesActions, ChangesChildren}

pub known_lawful : (texts : Nodes) (n : ℕ) → IsText (text_at texts n) → IsKnown (contents_at texts n)
known_lawful texts n h = by (get texts n) h
  where
    by : (o : Option FaceData) → IsText (option_map_or known_text o (record { characters = []; caret = 0; selections = [] })) → IsKnown (text_or_none o)
    by None h = tt
    by (Some (Chars text caret marks)) h = h
    by (Some (Grid k)) h = tt
    by (Some (Deeds names)) h = tt

abbrev as_contents : Option TextContents → FaceData
as_contents None = Deeds []
as_contents (Some text) = Chars text.characters text.caret text.selections

text_found : (o : Option FaceData) → as_contents (as_text o) ≡ text_or_none o
text_found None = refl
text_found (Some (Chars text caret marks)) = refl
text_found (Some (Grid k)) = refl
text_found (Some (Deeds names)) = refl

actions_found : (o : Option FaceData) → as_actions o ≡ actions_in o
actions_found None = refl
actions_found (Some (Chars text caret marks)) = refl
actions_found (Some (Grid k)) = refl
actions_found (Some (Deeds names)) = refl

module _ (t : TreeShape) (texts actions : Nodes) (n : ℕ) (member : ObjectMember) (body : List Data) (steps : Option (List Step)) where
  pub of_text : (known : FaceData) → known ≡ contents_at texts n → ChangesText t known n member body steps → Changes t texts actions n member body steps
  of_text known e h columns name id s is =
      h (faces_of texts columns actions) name id s is (text_found (get texts s.node) ∙ ap (λ (m : ℕ). text_or_none (get texts m)) (found_number t n s is) ∙ sym e)

  pub of_actions : (known : FaceData) → known ≡ Deeds (actions_in (get actions n)) → ChangesActions t known n member body steps → Changes t texts actions n member body steps
  of_actions known e h columns name id s is =
      h (faces_of texts columns actions) name id s is
      (ap (λ (l : List (List ℕ)). Deeds l) (actions_found (get actions s.node) ∙ ap (λ (m : ℕ). actions_in (get actions m)) (found_number t n s is)) ∙ sym e)

  pub of_children : ChangesChildren t n member body steps → Changes t texts actions n member body steps
  of_children h columns name id s is = h (faces_of texts columns actions) name id s is

-- the member that does an action
acting : (member : ObjectMember) → acts member ≡ true → member ≡ DoAction
acting DoAction e = refl
acting _ e = cc

pub last_acts : (member : ObjectMember) → changes_contents member ≡ true → changes_text member ≡ false → changes_children member ≡ false → member ≡ DoAction
last_acts member all x y = acting member (by (changes_text member) (changes_children member) x y all)
  where
    by : (b c : Bool) → b ≡ false → c ≡ false → (b || c || acts member) ≡ true → acts member ≡ true
    by false false x y all = all
    by true c x y all = cc
    by false true x y all = cc
