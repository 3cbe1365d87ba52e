-- What is spoken from a view is what is due from the tree.
use Rattle.std.specs.Prelude.{ℕ, ◌≡◌, List, []}
use Rattle.atspi_tree_model.specs.declared.view.Row.{Row}
use Rattle.atspi_tree_model.specs.declared.step.Step.{Step}
use Rattle.atspi_tree_model.specs.Forest.{Forest}
use Rattle.atspi_tree_model.specs.Row.{TreeRow, Each}
use Rattle.atspi_tree_model.specs.RowRules.{rows}
use Rattle.atspi_tree_model.specs.Tree.{IsTree, Applies}
use Rattle.atspi_tree_model.specs.Path.{path_of}
use Rattle.atspi_tree_model.specs.View.{Told, view}
use Rattle.atspi_tree_model.specs.Announce.{announcement, echoes}
use Rattle.atspi_tree_model.specs.Laws.{UntoldOfNew}
use Rattle.atspi_speech.specs.Speech.{lines, says, closing_lines, closing_says}

-- a reader that holds the view of a tree speaks at a step's announcement what is due at the step
abbrev pub SaysWhatIsDue : Type 0
SaysWhatIsDue =
    (bus : List ℕ) (told : List ℕ → Told) (f : Forest TreeRow) (added : ℕ) (step : Step)
    → IsTree rows f added → Applies rows f added step → UntoldOfNew told step
    → lines (path_of 0) bus (view told f) (announcement bus f step) ≡ says f step

-- and says nothing at its echoes
abbrev pub EchoesAreSilent : Type 0
EchoesAreSilent =
    (bus : List ℕ) (f : Forest TreeRow) (v : Forest Row) (step : Step)
    → Each (λ news. lines (path_of 0) bus v news ≡ []) (echoes bus f step)

-- and the closing line is the one that is due
abbrev pub ClosesWhatIsDue : Type 0
ClosesWhatIsDue = (told : List ℕ → Told) (f : Forest TreeRow) → closing_lines (view told f) ≡ closing_says f
