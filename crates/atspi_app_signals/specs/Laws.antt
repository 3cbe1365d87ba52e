-- What is told of the steps of an edit can be told before the first of them is done.
use Rattle.std.specs.Prelude.{◌≡◌, ℕ, false, List, [], ◌∷◌, ◌++◌, map, Option, Ok}
use Rattle.atspi_types.specs.Data.{Data}
use Rattle.atspi_tree_model.specs.declared.edit.Edit.{Edit}
use Rattle.atspi_tree_model.specs.declared.step.Step.{Step}
use Rattle.atspi_tree_model.specs.declared.step.Step.TheVariants.{SetState, Insert, Delete}
use Rattle.atspi_tree_model.specs.Edits.{steps_of_tree, IsEdit}
use Rattle.atspi_tree_model.specs.Forest.{Forest}
use Rattle.atspi_tree_model.specs.Row.{TreeRow, Each}
use Rattle.atspi_tree_model.specs.RowRules.{rows}
use Rattle.atspi_tree_model.specs.Tree.{IsTree, Applies, AllApply, shape_of}
use Rattle.atspi_protocol.specs.objects.Application.{Application}
use Rattle.atspi_protocol.specs.objects.Answers.{answer}
use Rattle.atspi_protocol.specs.announcing.Announced.{announced}
use Rattle.atspi_protocol.specs.exporting.Exporter.{Happening, steps, sends}
use Rattle.atspi_protocol.specs.exporting.Telling.{step_told, steps_told}
use Rattle.atspi_tree.specs.TreeShape.{TreeShape}
use Rattle.atspi_app_signals.specs.Asked.{messages_asked, CanBeTold, takes_node}

-- the shape of a tree to which so many nodes were ever added
abbrev pub shape_with : Forest TreeRow → ℕ → TreeShape
shape_with f added = record { rows = shape_of f; added = added }

-- what is queued of a step is the step itself, and behind it the messages
abbrev pub SendsMessages : Type 0
SendsMessages =
    (heard : List (List ℕ × List ℕ)) (bus : List ℕ) (f : Forest TreeRow) (step : Step)
    → step_told heard bus f step ≡ steps step ∷ map sends (messages_asked heard (announced bus f step))

-- a step that applies can be told
abbrev pub AppliedCanBeTold : Type 0
AppliedCanBeTold =
    (f : Forest TreeRow) (added : ℕ) (step : Step) → IsTree rows f added → Applies rows f added step
    → CanBeTold (shape_with f added) step

-- what is sent of steps, each told of one tree
abbrev pub told_of_one : List (List ℕ × List ℕ) → List ℕ → Forest TreeRow → List Step → List Happening
told_of_one heard bus f [] = []
told_of_one heard bus f (step ∷ more) = step_told heard bus f step ++ told_of_one heard bus f more

-- steps that are done one after another are told as they are of the tree before the first
abbrev pub IsToldAtOnce : Forest TreeRow → List Step → Type 0
IsToldAtOnce f list =
    (heard : List (List ℕ × List ℕ)) (bus : List ℕ) → steps_told heard bus f list ≡ told_of_one heard bus f list

-- no step takes a node from its place
abbrev pub StayInPlace : List Step → Type 0
StayInPlace list = Each (λ (step : Step). takes_node step ≡ false) list

abbrev pub StayingIsToldAtOnce : Type 0
StayingIsToldAtOnce = (f : Forest TreeRow) (list : List Step) → StayInPlace list → IsToldAtOnce f list

abbrev pub StayingCanBeTold : Type 0
StayingCanBeTold =
    (f : Forest TreeRow) (added : ℕ) (list : List Step) → IsTree rows f added → AllApply rows f added list
    → StayInPlace list
    → Each (CanBeTold (shape_with f added)) list

-- steps that set states, as those of a focus, a selection and an action
abbrev pub SetsState : Step → Type 0
SetsState (SetState n state on) = Unit {0}
SetsState _ = ⊥

abbrev pub StatesAreToldAtOnce : Type 0
StatesAreToldAtOnce = (f : Forest TreeRow) (list : List Step) → Each SetsState list → IsToldAtOnce f list

-- a text in place of another, whichever of its two steps is done first
abbrev pub TextsAreToldAtOnce : Type 0
TextsAreToldAtOnce =
    (f : Forest TreeRow) (n at from : ℕ) (text gone : List ℕ)
    → IsToldAtOnce f (Insert n at text ∷ Delete n from gone ∷ [])
    × IsToldAtOnce f (Delete n from gone ∷ Insert n at text ∷ [])

-- the steps of each edit
abbrev pub EditsAreToldAtOnce : Type 0
EditsAreToldAtOnce =
    (f : Forest TreeRow) (added : ℕ) (edit : Edit) (list : List Step) → steps_of_tree f added edit ≡ Ok list
    → IsToldAtOnce f list

abbrev pub EditsCanBeTold : Type 0
EditsCanBeTold =
    (f : Forest TreeRow) (added : ℕ) (edit : Edit) (list : List Step) → IsTree rows f added → IsEdit edit
    → steps_of_tree f added edit ≡ Ok list → Each (CanBeTold (shape_with f added)) list

-- no step of a call takes a node from its place
abbrev pub CallsStayInPlace : Type 0
CallsStayInPlace =
    (a : Application) (path : List ℕ) (interface member : Option (List ℕ)) (body : List Data)
    → StayInPlace (answer a path interface member body).steps
