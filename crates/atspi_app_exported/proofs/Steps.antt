-- The steps of an edit of the whole tree.
use Rattle.std.proofs.Common.{◌≡◌, sym, ap, ◌∙◌}
use Rattle.std.specs.Prelude.{List, Result, Ok, Err, IfOk}
use Rattle.atspi_tree_model.specs.declared.contents.FaceData.{FaceData}
use Rattle.atspi_tree_model.specs.declared.edit.Edit.{Edit}
use Rattle.atspi_tree_model.specs.declared.edit.EditFault.{EditFault}
use Rattle.atspi_tree_model.specs.declared.step.Step.{Step}
use Rattle.atspi_tree_model.specs.declared.step.StepList.{StepList}
use Rattle.atspi_tree_model.specs.Edits.{steps_of, contents_read, steps_of_tree, IsEdit}
use Rattle.atspi_tree_model.specs.RowRules.{rows}
use Rattle.atspi_tree_model.specs.Tree.{IsTree, AllApply}
use Rattle.atspi_tree_model.proofs.EditsApply.{steps_apply}
use Rattle.atspi_tree_edits.specs.Answers.{GivesSteps, edit_steps}
use Rattle.atspi_tree_edits.specs.declared.fault.EditRefused.{EditRefused}
use Rattle.atspi_tree_edits.specs.declared.fault.EditRefused.TheVariants.{Refused, NoMemory}
use Rattle.atspi_protocol.proofs.OfWhole.Followed.{shape_is_kept}
use Rattle.atspi_app_exported.specs.Asking.{AnswersSteps}
use Rattle.atspi_app_exported.specs.Doing.{AreOne}
use Rattle.atspi_app_exported.specs.Parts.{Parts, whole_of}
use Rattle.atspi_app_exported.proofs.OneByOne.{edits_one}

-- the steps of the shape with what is read are those of the whole
steps_same : (p : Parts) (known : FaceData) (edit : Edit) → known ≡ contents_read (whole_of p) edit
    → steps_of_tree (whole_of p) p.tree.added edit ≡ edit_steps p.tree known edit
steps_same p known edit e =
    ap (λ f. steps_of f p.tree.added (contents_read (whole_of p) edit) edit) (shape_is_kept p.tree.rows p.faces)
    ∙ ap (λ k. steps_of p.tree.rows p.tree.added k edit) (sym e)

answers_by : (r : Result StepList EditRefused) (meant other : Result (List Step) EditFault) → other ≡ meant → GivesSteps r meant → AnswersSteps r other
answers_by (Ok steps) meant other e h = e ∙ h
answers_by (Err (Refused fault)) meant other e h = e ∙ h
answers_by (Err NoMemory) meant other e h = tt

pub steps_answered : (p : Parts) (known : FaceData) (edit : Edit) (r : Result StepList EditRefused) → known ≡ contents_read (whole_of p) edit
    → GivesSteps r (edit_steps p.tree known edit) → AnswersSteps r (steps_of_tree (whole_of p) p.tree.added edit)
steps_answered p known edit r e h = answers_by r (edit_steps p.tree known edit) (steps_of_tree (whole_of p) p.tree.added edit) (steps_same p known edit e) h

-- they apply, and are done as one
pub answered_apply : (p : Parts) (edit : Edit) (r : Result StepList EditRefused) → IsTree rows (whole_of p) p.tree.added → IsEdit edit
    → AnswersSteps r (steps_of_tree (whole_of p) p.tree.added edit) → IfOk r (AllApply rows (whole_of p) p.tree.added)
answered_apply p edit (Ok steps) t w h = steps_apply (whole_of p) p.tree.added edit steps t w h
answered_apply p edit (Err fault) t w h = tt

pub answered_one : (p : Parts) (edit : Edit) (r : Result StepList EditRefused) → AnswersSteps r (steps_of_tree (whole_of p) p.tree.added edit) → IfOk r AreOne
answered_one p edit (Ok steps) h = edits_one (whole_of p) p.tree.added edit steps h
answered_one p edit (Err fault) h = tt
