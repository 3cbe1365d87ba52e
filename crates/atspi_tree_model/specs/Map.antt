-- A tree read as a finite map: from a node's number to its row, and to the numbers of its children in order.
use Rattle.std.specs.Prelude.{ℕ, ◌+◌, ◌≡◌, ◌≢◌, ◌≤◌, ◌<◌, ◌==◌, cond, List, [], ◌∷◌, map, length, Option, Some, None}
use Rattle.std.specs.Prelude.{IsSome}
use Rattle.atspi_tree_model.specs.declared.limits.TheConstants.{NODE_LIMIT, ADDED_LIMIT}
use Rattle.atspi_tree_model.specs.Forest.{Forest, find, tops, children_at}
use Rattle.atspi_tree_model.specs.Row.{Each}
use Rattle.atspi_tree_model.specs.RowRules.{RowRules}
use Rattle.atspi_tree_model.specs.Tree.{is_number, IsTree}

-- how often a number stands in a list
abbrev pub times : ℕ → List ℕ → ℕ
times m [] = 0
times m (x ∷ xs) = cond (x == m) 1 0 + times m xs

-- a node is reached from node 0 by going from a node to one of its children
pub data Reached (children : ℕ → List ℕ) : ℕ → Type 0 where
  Root : Reached children 0
  Child : {p m : ℕ} → Reached children p → 1 ≤ times m (children p) → Reached children m

-- a map is a tree: node 0 is there and stands in no list of children; every other node stands in exactly one list,
-- once, and is reached from node 0; children are nodes, only nodes have children, and no number is above the count. A
-- row has its node's number, keeps its limits, and its targets are nodes; and a list of no more numbers than the limit
-- of nodes has every node
pub record IsTreeMap {A : Type 0} (rules : RowRules A) (row : ℕ → Option A) (children : ℕ → List ℕ) (added : ℕ)
    : Type 0 where
  pub root : IsSome (row 0)
  pub root_below_none : (p : ℕ) → times 0 (children p) ≡ 0
  pub in_one_list : (m : ℕ) → m ≢ 0 → IsSome (row m)
      → (p : ℕ) × (times m (children p) ≡ 1) × ((q : ℕ) → q ≢ p → times m (children q) ≡ 0)
  pub reached : (m : ℕ) → IsSome (row m) → Reached children m
  pub children_there : (p m : ℕ) → 1 ≤ times m (children p) → IsSome (row p) × IsSome (row m)
  pub numbered : (m : ℕ) → added < m → row m ≡ None
  pub own_number : (m : ℕ) (a : A) → row m ≡ Some a → rules.number a ≡ m
  pub few : (numbers : List ℕ) × (length numbers ≤ NODE_LIMIT) × ((m : ℕ) → IsSome (row m) → 1 ≤ times m numbers)
  pub few_ever : added ≤ ADDED_LIMIT
  pub lawful : (m : ℕ) (a : A) → row m ≡ Some a → rules.IsLawful a
  pub targets : (m : ℕ) (a : A) → row m ≡ Some a → Each (λ t. IsSome (row t)) (rules.targets a)

-- the row of a node, if there is one
abbrev pub row_in : {A : Type 0} → RowRules A → Forest A → ℕ → Option A
row_in rules f n = find (is_number rules n) f

-- the numbers of a node's children, in order
abbrev pub child_numbers : {A : Type 0} → RowRules A → Forest A → ℕ → List ℕ
child_numbers rules f n = map rules.number (tops (children_at (is_number rules n) f))

-- the map of a tree is a tree
abbrev pub TreesAreMaps : {A : Type 0} → RowRules A → Type 0
TreesAreMaps {A} rules = (f : Forest A) (added : ℕ) → IsTree rules f added
    → IsTreeMap rules (row_in rules f) (child_numbers rules f) added

-- and tells the tree: trees with one map are one tree
abbrev pub MapsTellTrees : {A : Type 0} → RowRules A → Type 0
MapsTellTrees {A} rules =
    (f g : Forest A) (added : ℕ) → IsTree rules f added → IsTree rules g added
    → ((n : ℕ) → row_in rules f n ≡ row_in rules g n)
    → ((n : ℕ) → child_numbers rules f n ≡ child_numbers rules g n) → f ≡ g

-- every map that is a tree is the map of a tree
abbrev pub MapsAreTrees : {A : Type 0} → RowRules A → Type 0
MapsAreTrees {A} rules =
    (row : ℕ → Option A) (children : ℕ → List ℕ) (added : ℕ) → IsTreeMap rules row children added
    → (f : Forest A) × IsTree rules f added × ((n : ℕ) → row_in rules f n ≡ row n)
    × ((n : ℕ) → child_numbers rules f n ≡ children n)
