-- The messages that are sent of some signals, of those that some pattern covers; and what a step needs so that it can
-- be told.
use Rattle.std.specs.Prelude.{◌≡◌, ◌≤◌, ◌<◌, ℕ, Bool, true, false, List, map, length}
use Rattle.atspi_tree_model.specs.declared.limits.TheConstants.{NODE_LIMIT, TEXT_LIMIT, STATE_COUNT}
use Rattle.atspi_tree_model.specs.declared.step.Step.{Step}
use Rattle.atspi_tree_model.specs.declared.step.Step.TheVariants.{Add, Remove, Move, SetName, SetDescription, SetRole}
use Rattle.atspi_tree_model.specs.declared.step.Step.TheVariants.{SetState, Insert, Delete, Caret, TextSelect, Relate}
use Rattle.atspi_tree_model.specs.Forest.{Forest, has, relabel}
use Rattle.atspi_tree_model.specs.Row.{TreeRow}
use Rattle.atspi_tree_model.specs.RowRules.{shapes}
use Rattle.atspi_tree_model.specs.Tree.{is_shape, Moves}
use Rattle.atspi_message.specs.Envelope.{Envelope}
use Rattle.atspi_protocol.specs.announcing.Signals.{Signal}
use Rattle.atspi_protocol.specs.exporting.Telling.{asked_for}
use Rattle.atspi_tree.specs.TreeShape.{TreeShape}
use Rattle.atspi_app_items.specs.Bare.{bare}

abbrev pub messages_asked : List (List ℕ × List ℕ) → List Signal → List Envelope
messages_asked heard signals = map (λ (s : Signal). s.message) (asked_for heard signals)

-- A step can be told of a tree: the node that it takes from its place is there, and the numbers that it names can be
-- counted. Of the other steps nothing is read in the tree, so they can be told before the steps that they follow are
-- done.
abbrev pub CanBeTold : TreeShape → Step → Type 0
CanBeTold t (Add n p i seed) = i ≤ NODE_LIMIT
CanBeTold t (Remove n) = has (is_shape n) t.rows ≡ true
CanBeTold t (Move n p i) = Moves shapes t.rows n p i
CanBeTold t (SetName n x) = Unit {0}
CanBeTold t (SetDescription n x) = Unit {0}
CanBeTold t (SetRole n role) = Unit {0}
CanBeTold t (SetState n state on) = state < STATE_COUNT
CanBeTold t (Insert n at x) = (at ≤ TEXT_LIMIT) × (length x ≤ TEXT_LIMIT)
CanBeTold t (Delete n at x) = (at ≤ TEXT_LIMIT) × (length x ≤ TEXT_LIMIT)
CanBeTold t (Caret n at) = at ≤ TEXT_LIMIT
CanBeTold t (TextSelect n marks) = Unit {0}
CanBeTold t (Relate n kind targets) = Unit {0}

-- a tree of this shape, with no contents: of a step no more is told
abbrev pub without_contents : TreeShape → Forest TreeRow
without_contents t = relabel bare t.rows

-- whether a step takes a node from its place: its signals then say where that was
abbrev pub takes_node : Step → Bool
takes_node (Remove n) = true
takes_node (Move n p i) = true
takes_node step = false
