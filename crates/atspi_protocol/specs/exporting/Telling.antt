-- What an application tells of the steps of its tree: of each its announcement and its echoes, as far as some listener
-- asks for them.
use Rattle.std.specs.Prelude.{ℕ, List, [], ◌∷◌, ◌++◌, map, filter}
use Rattle.atspi_tree_model.specs.declared.step.Step.{Step}
use Rattle.atspi_tree_model.specs.Forest.{Forest}
use Rattle.atspi_tree_model.specs.Row.{TreeRow}
use Rattle.atspi_tree_model.specs.RowRules.{rows}
use Rattle.atspi_tree_model.specs.Tree.{after}
use Rattle.atspi_protocol.specs.announcing.Signals.{Signal}
use Rattle.atspi_protocol.specs.announcing.Announced.{announced}
use Rattle.atspi_protocol.specs.exporting.Exporter.{Happening, steps, sends}
use Rattle.atspi_protocol.specs.exporting.Hearing.{is_covered}

-- the signals that some pattern covers
abbrev pub asked_for : List (List ℕ × List ℕ) → List Signal → List Signal
asked_for heard signals = filter (λ (s : Signal). is_covered heard s.event s.minor) signals

-- a step of a tree, of an application with this name, and what is sent of it
abbrev pub step_told : List (List ℕ × List ℕ) → List ℕ → Forest TreeRow → Step → List Happening
step_told heard bus f step = steps step ∷ map (λ (s : Signal). sends s.message) (asked_for heard (announced bus f step))

-- the same of steps, one after another
abbrev pub steps_told : List (List ℕ × List ℕ) → List ℕ → Forest TreeRow → List Step → List Happening
steps_told heard bus f [] = []
steps_told heard bus f (step ∷ more) = step_told heard bus f step ++ steps_told heard bus (after rows f step) more
