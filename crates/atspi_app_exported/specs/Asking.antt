-- What asking for the steps of an edit answers.
use Rattle.std.specs.Prelude.{◌≡◌, ℕ, List, Result, Ok, Err}
use Rattle.atspi_tree_model.specs.declared.contents.FaceKind.TheVariants.{Deeds}
use Rattle.atspi_tree_model.specs.declared.edit.EditFault.{EditFault}
use Rattle.atspi_tree_model.specs.declared.step.Step.{Step}
use Rattle.atspi_tree_model.specs.declared.step.StepList.{StepList}
use Rattle.atspi_faces.specs.face.Contents.{kind_of}
use Rattle.atspi_faces.specs.face.Nodes.{Nodes, At}
use Rattle.atspi_tree_edits.specs.declared.fault.EditRefused.{EditRefused}
use Rattle.atspi_tree_edits.specs.declared.fault.EditRefused.TheVariants.{Refused, NoMemory}

-- the answer is these steps, or this refusal; want of memory is not tied to a cause
abbrev pub AnswersSteps : Result StepList EditRefused → Result (List Step) EditFault → Type 0
AnswersSteps (Ok steps) meant = meant ≡ Ok steps
AnswersSteps (Err (Refused fault)) meant = meant ≡ Err fault
AnswersSteps (Err NoMemory) meant = Unit {0}

-- the node has actions
abbrev pub HasNames : Nodes → ℕ → Type 0
HasNames nodes node = At nodes node (λ what. kind_of what ≡ Deeds)
