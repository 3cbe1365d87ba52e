-- States that are cleared of several nodes.
use Rattle.std.specs.Prelude.{ℕ, false, ◌==◌, not, ◌&&◌, List, map, filter}
use Rattle.atspi_tree_model.specs.Edits.{node_has_state}
use Rattle.atspi_tree_model.specs.Forest.{Forest}
use Rattle.atspi_tree_model.specs.Row.{ShapeRow}
use Rattle.atspi_tree_model.specs.States.{focused, selected}
use Rattle.atspi_tree_model.specs.declared.step.Step.{Step}
use Rattle.atspi_tree_model.specs.declared.step.Step.TheVariants.{SetState}

-- of these nodes, each other than n that has the focus loses it
abbrev pub unfocusing : Forest ShapeRow → ℕ → List ℕ → List Step
unfocusing f n numbers =
    map (λ m. SetState m focused false) (filter (λ m. not (m == n) && node_has_state f m focused) numbers)

-- of these nodes, each that is selected is selected no more
abbrev pub unselecting : Forest ShapeRow → List ℕ → List Step
unselecting f numbers = map (λ m. SetState m selected false) (filter (λ m. node_has_state f m selected) numbers)
