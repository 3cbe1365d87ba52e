-- An application's tree: what it is, when a step applies to it, and what it is after the step.
use Rattle.std.specs.Prelude.{ℕ, suc, ◌≡◌, ◌≢◌, ◌≤◌, ◌<◌, ◌==◌, Bool, true, false, List, [], ◌∷◌, Option, Some, None}
use Rattle.atspi_tree_model.specs.declared.limits.TheConstants.{NODE_LIMIT, ADDED_LIMIT}
use Rattle.atspi_tree_model.specs.declared.step.Seed.{Seed}
use Rattle.atspi_tree_model.specs.declared.step.Step.{Step}
use Rattle.atspi_tree_model.specs.declared.step.Step.TheVariants.{Add, Remove, Move, SetName, SetDescription, SetRole}
use Rattle.atspi_tree_model.specs.declared.step.Step.TheVariants.{SetState, Insert, Delete, Caret, TextSelect, Relate}
use Rattle.atspi_tree_model.specs.Forest.{Forest, nil, tree, count, has, width, put_in, take_out, pick, relabel, change}
use Rattle.atspi_tree_model.specs.Forest.{find, place, children_at, EachLabel}
use Rattle.atspi_tree_model.specs.Row.{ShapeRow, TreeRow, Each}
use Rattle.atspi_tree_model.specs.RowRules.{RowRules}

-- the test for a node's number
abbrev pub is_number : {A : Type 0} → RowRules A → ℕ → A → Bool
is_number rules n row = rules.number row == n

-- the same for whole rows
abbrev pub is_node : ℕ → TreeRow → Bool
is_node n row = row.shape.node == n

-- the same for shapes
abbrev pub is_shape : ℕ → ShapeRow → Bool
is_shape n row = row.node == n

-- the shape of a tree: what the tree itself keeps of it
abbrev pub shape_of : Forest TreeRow → Forest ShapeRow
shape_of f = relabel (λ row. row.shape) f

-- the node that a step is about; the new node of an Add
abbrev pub node_of : Step → ℕ
node_of (Add n p i seed) = n
node_of (Remove n) = n
node_of (Move n p i) = n
node_of (SetName n x) = n
node_of (SetDescription n x) = n
node_of (SetRole n x) = n
node_of (SetState n s on) = n
node_of (Insert n at x) = n
node_of (Delete n at x) = n
node_of (Caret n at) = n
node_of (TextSelect n marks) = n
node_of (Relate n kind targets) = n

-- whether a number is that of a node at or below another
abbrev pub in_subtree : {A : Type 0} → RowRules A → ℕ → Forest A → ℕ → Bool
in_subtree rules n f m = has (is_number rules m) (pick (is_number rules n) f)

-- the tree after a step
abbrev pub after : {A : Type 0} → RowRules A → Forest A → Step → Forest A
after rules f (Add n p i seed) = put_in (is_number rules p) (Some i) (tree (rules.first n seed) nil nil) f
after rules f (Remove n) = relabel (rules.forgetting (in_subtree rules n f)) (take_out (is_number rules n) f)
after rules f (Move n p i) =
    put_in (is_number rules p) (Some i) (pick (is_number rules n) f) (take_out (is_number rules n) f)
after rules f step = change (is_number rules (node_of step)) (rules.changed step) f

-- how many nodes were ever added, the root not counted; the newest node has this number
abbrev pub added_after : ℕ → Step → ℕ
added_after added (Add n p i seed) = suc added
added_after added step = added

-- where a node stands: its parent's number, none at the top, and its index among the parent's children
abbrev pub seat_of : {A : Type 0} → RowRules A → ℕ → Forest A → Option (Option ℕ × ℕ)
seat_of rules n f = place (λ row. Some (rules.number row)) (is_number rules n) None 0 f

-- one tree, whose top is node 0
abbrev pub IsRooted : {A : Type 0} → RowRules A → Forest A → Type 0
IsRooted {A} rules f = (row : A) × (children : Forest A) × (rules.number row ≡ 0) × (f ≡ tree row children nil)

-- every target of a relation is a node
abbrev pub HasTargets : {A : Type 0} → RowRules A → Forest A → List ℕ → Type 0
HasTargets rules f targets = Each (λ t. has (is_number rules t) f ≡ true) targets

-- a tree to which so many nodes were ever added
pub record IsTree {A : Type 0} (rules : RowRules A) (f : Forest A) (added : ℕ) : Type 0 where
  pub rooted : IsRooted rules f
  pub once : (n : ℕ) → count (is_number rules n) f ≤ 1
  pub numbered : (n : ℕ) → added < n → count (is_number rules n) f ≡ 0
  pub few : count (λ row. true) f ≤ NODE_LIMIT
  pub few_ever : added ≤ ADDED_LIMIT
  pub lawful : EachLabel rules.IsLawful f
  pub targets : EachLabel (λ row. HasTargets rules f (rules.targets row)) f

-- an addition takes the next number, below a node that is there, at an index of its children or behind them
pub record Adds {A : Type 0} (rules : RowRules A) (f : Forest A) (added n p i : ℕ) (seed : Seed) : Type 0 where
  pub next : n ≡ suc added
  pub parent : has (is_number rules p) f ≡ true
  pub index : i ≤ width (children_at (is_number rules p) f)
  pub room : count (λ row. true) f < NODE_LIMIT
  pub room_ever : added < ADDED_LIMIT
  pub lawful : rules.IsLawful (rules.first n seed)

-- any node but the root can be removed
pub record Removes {A : Type 0} (rules : RowRules A) (f : Forest A) (n : ℕ) : Type 0 where
  pub not_root : n ≢ 0
  pub there : has (is_number rules n) f ≡ true

-- a node goes to another place, not below itself; the index counts the new siblings without it
pub record Moves {A : Type 0} (rules : RowRules A) (f : Forest A) (n p i : ℕ) : Type 0 where
  pub not_root : n ≢ 0
  pub there : has (is_number rules n) f ≡ true
  pub no_cycle : has (is_number rules p) (take_out (is_number rules n) f) ≡ true
  pub index : i ≤ width (take_out (is_number rules n) (children_at (is_number rules p) f))
  pub elsewhere : seat_of rules n f ≢ Some (Some p, i)

-- the targets that a step names
abbrev pub step_targets : Step → List ℕ
step_targets (Relate n kind targets) = targets
step_targets step = []

-- a row is changed that is there, has what the step names, and keeps its limits
pub record Changes {A : Type 0} (rules : RowRules A) (f : Forest A) (step : Step) : Type 0 where
  pub row : A
  pub there : find (is_number rules (node_of step)) f ≡ Some row
  pub allowed : rules.Allows step row
  pub lawful : rules.IsLawful (rules.changed step row)
  pub targets : HasTargets rules f (step_targets step)

-- a step applies to a tree
abbrev pub Applies : {A : Type 0} → RowRules A → Forest A → ℕ → Step → Type 0
Applies rules f added (Add n p i seed) = Adds rules f added n p i seed
Applies rules f added (Remove n) = Removes rules f n
Applies rules f added (Move n p i) = Moves rules f n p i
Applies rules f added step = Changes rules f step

-- each step applies to the tree after the steps before it
abbrev pub AllApply : {A : Type 0} → RowRules A → Forest A → ℕ → List Step → Type 0
AllApply rules f added [] = Unit {0}
AllApply rules f added (step ∷ steps) = Applies rules f added step
    × AllApply rules (after rules f step) (added_after added step) steps

-- the tree after a list of steps
abbrev pub after_all : {A : Type 0} → RowRules A → Forest A → List Step → Forest A
after_all rules f [] = f
after_all rules f (step ∷ steps) = after_all rules (after rules f step) steps

-- what the root begins with: role 75, an application, and the application's name
abbrev pub root_seed : List ℕ → Seed
root_seed name =
    record { role = 75; name = name; text = None; editable = false; columns = None; select = false; actions = [] }

-- the tree at the start, to which no node was added: the root alone
abbrev pub first_tree : {A : Type 0} → RowRules A → List ℕ → Forest A
first_tree rules name = tree (rules.first 0 (root_seed name)) nil nil
