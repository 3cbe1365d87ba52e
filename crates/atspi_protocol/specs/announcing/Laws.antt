-- What holds of the signals of a step.
use Rattle.std.specs.Prelude.{◌≡◌, ℕ, List, [], ◌∷◌, map, Some}
use Rattle.atspi_tree_model.specs.declared.news.News.{News}
use Rattle.atspi_tree_model.specs.declared.step.Step.{Step}
use Rattle.atspi_tree_model.specs.declared.step.Step.TheVariants.{TextSelect, Relate}
use Rattle.atspi_tree_model.specs.Forest.{Forest}
use Rattle.atspi_tree_model.specs.Row.{TreeRow}
use Rattle.atspi_tree_model.specs.RowRules.{rows}
use Rattle.atspi_tree_model.specs.Tree.{IsTree, Applies}
use Rattle.atspi_tree_model.specs.Announce.{announcement, echoes}
use Rattle.atspi_protocol.specs.announcing.Signals.{Signal}
use Rattle.atspi_protocol.specs.announcing.Announced.{announced}
use Rattle.atspi_protocol.specs.news.NewsOf.{news_of}

-- what a step tells: its announcement and its echoes, and of selections in texts and relations nothing
abbrev pub told : List ℕ → Forest TreeRow → Step → List News
told bus f (TextSelect n marks) = []
told bus f (Relate n kind targets) = []
told bus f step = announcement bus f step ∷ echoes bus f step

-- The news in the signals of a step that applies to a tree, as they come from the application with this name and with
-- any serial, are what the step tells: an announcement carries the view.
abbrev pub SignalsTellSteps : Type 0
SignalsTellSteps =
    (bus : List ℕ) (serial : ℕ) (f : Forest TreeRow) (added : ℕ) (step : Step) → IsTree rows f added
    → Applies rows f added step
    → map (λ (s : Signal). news_of bus (record s.message { serial = serial; sender = Some bus })) (announced bus f step)
    ≡ told bus f step
