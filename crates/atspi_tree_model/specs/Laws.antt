-- The laws of trees, views and news.
use Rattle.std.specs.Prelude.{ℕ, ◌≡◌, ◌≤◌, pos, negsuc, false, List, Some, Ok}
use Rattle.atspi_tree_model.specs.declared.view.Row.{Row}
use Rattle.atspi_tree_model.specs.declared.step.Seed.{Seed}
use Rattle.atspi_tree_model.specs.declared.step.Step.{Step}
use Rattle.atspi_tree_model.specs.declared.step.Step.TheVariants.{Add, Move}
use Rattle.atspi_tree_model.specs.declared.edit.Edit.{Edit}
use Rattle.atspi_tree_model.specs.declared.news.Reference.{Reference}
use Rattle.atspi_tree_model.specs.declared.news.Item.{Item}
use Rattle.atspi_tree_model.specs.declared.news.News.{News}
use Rattle.atspi_tree_model.specs.declared.news.News.TheVariants.{TextIs, CaretIs, ColumnsIs}
use Rattle.atspi_tree_model.specs.Forest.{Forest, count, width, tops, find, EachNode}
use Rattle.atspi_tree_model.specs.Row.{TextContents, TreeRow, Each, IsName}
use Rattle.atspi_tree_model.specs.RowRules.{RowRules, rows, shapes}
use Rattle.atspi_tree_model.specs.Tree.{is_node, shape_of, after, added_after, seat_of, first_tree, IsTree, Adds, Moves}
use Rattle.atspi_tree_model.specs.Tree.{Applies, AllApply}
use Rattle.atspi_tree_model.specs.Edits.{steps_of_tree, IsEdit}
use Rattle.atspi_tree_model.specs.Path.{path_of}
use Rattle.atspi_tree_model.specs.View.{Told, nothing_told, view}
use Rattle.atspi_tree_model.specs.News.{is_path, effect, told_after, children_in, own_items, reached, load}
use Rattle.atspi_tree_model.specs.Announce.{items, announcement, echoes, Idle}

-- a tree at its start is a tree
abbrev pub BeginsAsTree : {A : Type 0} → RowRules A → Type 0
BeginsAsTree rules = (name : List ℕ) → IsName name → IsTree rules (first_tree rules name) 0

-- a step that applies keeps a tree a tree
abbrev pub StepsKeepTrees : {A : Type 0} → RowRules A → Type 0
StepsKeepTrees {A} rules =
    (f : Forest A) (added : ℕ) (step : Step) → IsTree rules f added → Applies rules f added step
    → IsTree rules (after rules f step) (added_after added step)

-- a node that was added stands where the step says
abbrev pub AddedStandsThere : {A : Type 0} → RowRules A → Type 0
AddedStandsThere {A} rules =
    (f : Forest A) (added n p i : ℕ) (seed : Seed) → IsTree rules f added → Adds rules f added n p i seed
    → seat_of rules n (after rules f (Add n p i seed)) ≡ Some (Some p, i)

-- and so does one that was moved
abbrev pub MovedStandsThere : {A : Type 0} → RowRules A → Type 0
MovedStandsThere {A} rules =
    (f : Forest A) (added n p i : ℕ) → IsTree rules f added → Moves rules f n p i
    → seat_of rules n (after rules f (Move n p i)) ≡ Some (Some p, i)

-- the shape of a tree is a tree of shapes
abbrev pub ShapeIsTree : Type 0
ShapeIsTree = (f : Forest TreeRow) (added : ℕ) → IsTree rows f added → IsTree shapes (shape_of f) added

-- what applies to a tree applies to its shape
abbrev pub ShapeApplies : Type 0
ShapeApplies = (f : Forest TreeRow) (added : ℕ) (step : Step) → Applies rows f added step
    → Applies shapes (shape_of f) added step

-- the shape of the tree after a step is the shape after the step
abbrev pub ShapeFollows : Type 0
ShapeFollows = (f : Forest TreeRow) (step : Step) → shape_of (after rows f step) ≡ after shapes (shape_of f) step

-- each step of an edit applies to the tree after the steps before it
abbrev pub EditsApply : Type 0
EditsApply =
    (f : Forest TreeRow) (added : ℕ) (edit : Edit) (steps : List Step) → IsTree rows f added → IsEdit edit
    → steps_of_tree f added edit ≡ Ok steps → AllApply rows f added steps

-- no two nodes have one path
abbrev pub PathsTellNodes : Type 0
PathsTellNodes = (m n : ℕ) → path_of m ≡ path_of n → m ≡ n

-- a reader was told no part of this node
abbrev pub IsUntold : (List ℕ → Told) → ℕ → Type 0
IsUntold told n = ((told (path_of n)).text ≡ false) × ((told (path_of n)).caret ≡ false)
    × ((told (path_of n)).columns ≡ false)

-- of a node that a step adds a reader was told nothing, since no number is used twice
abbrev pub UntoldOfNew : (List ℕ → Told) → Step → Type 0
UntoldOfNew told (Add n p i seed) = IsUntold told n
UntoldOfNew told step = Unit {0}

-- the announcement makes the view of the tree after the step, and its echoes change nothing and ask for nothing
pub record IsSeen (bus : List ℕ) (told : List ℕ → Told) (f : Forest TreeRow) (step : Step) : Type 0 where
  pub announcement : effect (path_of 0) bus (view told f) (announcement bus f step) ≡ view told (after rows f step)
  pub echoes : Idle (path_of 0) bus (view told (after rows f step)) (echoes bus f step)

-- each step that applies is seen
abbrev pub StepsAreSeen : Type 0
StepsAreSeen =
    (bus : List ℕ) (told : List ℕ → Told) (f : Forest TreeRow) (added : ℕ) (step : Step)
    → IsTree rows f added → Applies rows f added step → UntoldOfNew told step → IsSeen bus told f step

-- the answer to a reader's call for a part says what the tree has; a caret or count below zero says nothing
abbrev pub IsPartOf : Forest TreeRow → News → Type 0
IsPartOf f (TextIs p x) =
    (n : ℕ) × (row : TreeRow) × (t : TextContents) × (p ≡ path_of n) × (find (is_node n) f ≡ Some row)
    × (row.contents.text ≡ Some t) × (x ≡ t.characters)
IsPartOf f (CaretIs p (negsuc _)) = Unit {0}
IsPartOf f (CaretIs p (pos at)) =
    (n : ℕ) × (row : TreeRow) × (t : TextContents) × (p ≡ path_of n) × (find (is_node n) f ≡ Some row)
    × (row.contents.text ≡ Some t) × (at ≡ t.caret)
IsPartOf f (ColumnsIs p (negsuc _)) = Unit {0}
IsPartOf f (ColumnsIs p (pos m)) =
    (n : ℕ) × (row : TreeRow) × (k : ℕ) × (p ≡ path_of n) × (find (is_node n) f ≡ Some row)
    × (row.contents.columns ≡ Some k) × (m ≡ k)
IsPartOf f news = ⊥

-- and makes the view of a reader who was told that part too
abbrev pub PartsAreSeen : Type 0
PartsAreSeen =
    (bus : List ℕ) (told : List ℕ → Told) (f : Forest TreeRow) (added : ℕ) (news : News)
    → IsTree rows f added → IsPartOf f news
    → effect (path_of 0) bus (view told f) news ≡ view (told_after told news) f

-- the items of a tree load as its view, with no part known
abbrev pub ItemsAreSeen : Type 0
ItemsAreSeen =
    (bus : List ℕ) (registry : Reference) (f : Forest TreeRow) (added : ℕ) → IsTree rows f added
    → load (path_of 0) bus (items bus registry f) ≡ view nothing_told f

-- each path stands in a view at most once
abbrev pub EachPathOnce : Forest Row → Type 0
EachPathOnce v = (path : List ℕ) → count (is_path path) v ≤ 1

-- nothing but the root stands at the top
pub record RootAlone (root : List ℕ) (v : Forest Row) : Type 0 where
  pub paths : Each (λ (row : Row). row.path ≡ root) (tops v)
  pub alone : width v ≤ 1

-- whatever the items and the news, each path stands once and all below the root
pub record IsView (root : List ℕ) (v : Forest Row) : Type 0 where
  pub once : EachPathOnce v
  pub rooted : RootAlone root v

-- any list of items loads as a view
abbrev pub LoadMakesView : Type 0
LoadMakesView = (root bus : List ℕ) (items : List Item) → IsView root (load root bus items)

-- and any news keeps a view a view
abbrev pub NewsKeepViews : Type 0
NewsKeepViews = (root bus : List ℕ) (v : Forest Row) (news : News) → IsView root v
    → IsView root (effect root bus v news)

-- each node has all the children that are its own
abbrev pub IsComplete : {A : Type 0} → (A → List A) → Forest A → Type 0
IsComplete children f = EachNode (λ x below. tops below ≡ children x) f

-- no item that the root reaches is left out of a load
abbrev pub LoadIsComplete : Type 0
LoadIsComplete =
    (root bus : List ℕ) (items : List Item)
    → IsComplete (children_in root bus (own_items bus items)) (reached root bus items)
