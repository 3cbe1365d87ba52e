-- What asking a tree for the steps of an edit answers.
use Rattle.std.specs.Prelude.{◌≡◌, List, Result, Ok, Err, IsOk}
use Rattle.atspi_tree_model.specs.Edits.{steps_of}
use Rattle.atspi_tree_model.specs.Row.{IsText}
use Rattle.atspi_tree_model.specs.declared.contents.FaceData.{FaceData}
use Rattle.atspi_tree_model.specs.declared.contents.FaceData.TheVariants.{Chars}
use Rattle.atspi_tree_model.specs.declared.edit.Edit.{Edit}
use Rattle.atspi_tree_model.specs.declared.edit.Edit.TheVariants.{Put, Keys, Cut, Caret, Mark, Unmark, Press}
use Rattle.atspi_tree_model.specs.declared.edit.EditFault.{EditFault}
use Rattle.atspi_tree_model.specs.declared.step.Step.{Step}
use Rattle.atspi_tree_model.specs.declared.step.StepList.{StepList}
use Rattle.atspi_tree.specs.TreeShape.{TreeShape}
use Rattle.atspi_tree_edits.specs.declared.fault.EditRefused.{EditRefused}
use Rattle.atspi_tree_edits.specs.declared.fault.EditRefused.TheVariants.{Refused, NoMemory}

-- contents that a node can have: a text keeps its limits
abbrev pub IsKnown : FaceData → Type 0
IsKnown (Chars text caret marks) = IsText (record { characters = text; caret = caret; selections = marks })
IsKnown _ = Unit {0}

-- the steps of an edit, or why it is refused
abbrev pub edit_steps : TreeShape → FaceData → Edit → Result (List Step) EditFault
edit_steps t known edit = steps_of t.rows t.added known edit

-- the answer is these steps, or this refusal; memory is wanted only for steps
abbrev pub GivesSteps : Result StepList EditRefused → Result (List Step) EditFault → Type 0
GivesSteps (Ok steps) meant = meant ≡ Ok steps
GivesSteps (Err (Refused fault)) meant = meant ≡ Err fault
GivesSteps (Err NoMemory) meant = IsOk meant

-- an edit that reads no contents of its node
abbrev pub ReadsNone : Edit → Type 0
ReadsNone (Put n at x) = ⊥
ReadsNone (Keys n x) = ⊥
ReadsNone (Cut n from to) = ⊥
ReadsNone (Caret n at) = ⊥
ReadsNone (Mark n from to) = ⊥
ReadsNone (Unmark n) = ⊥
ReadsNone (Press n i) = ⊥
ReadsNone _ = Unit {0}
