-- What an application tells of its tree: its items, and the news of each step.
use Rattle.std.specs.Prelude.{ℕ, suc, ◌≡◌, ◌==◌, ℤ, pos, negsuc, Bool, true, false, List, [], ◌∷◌, ◌++◌, Option, Some}
use Rattle.std.specs.Prelude.{None, map, length, codes}
use Rattle.atspi_tree_model.specs.declared.contents.Kinds.{Kinds}
use Rattle.atspi_tree_model.specs.declared.view.Row.{Row}
use Rattle.atspi_tree_model.specs.declared.step.Step.{Step}
use Rattle.atspi_tree_model.specs.declared.step.Step.TheVariants.{Add, Remove, Move, SetName, SetDescription, SetRole}
use Rattle.atspi_tree_model.specs.declared.step.Step.TheVariants.{SetState, Insert, Delete, TextSelect, Relate}
use Rattle.atspi_tree_model.specs.declared.step.Step.TheVariants.{Caret as CaretStep}
use Rattle.atspi_tree_model.specs.declared.news.Reference.{Reference}
use Rattle.atspi_tree_model.specs.declared.news.Item.{Item}
use Rattle.atspi_tree_model.specs.declared.news.News.{News}
use Rattle.atspi_tree_model.specs.declared.news.News.TheVariants.{Removed, ChildAdded, ChildRemoved, Name, Description}
use Rattle.atspi_tree_model.specs.declared.news.News.TheVariants.{Role, State, Inserted, Deleted, Caret, Nothing}
use Rattle.atspi_tree_model.specs.declared.news.News.TheVariants.{Item as NewItem}
use Rattle.atspi_tree_model.specs.Forest.{Forest, nil, tree, labels, width, pick, find, children_at}
use Rattle.atspi_tree_model.specs.Row.{TreeRow}
use Rattle.atspi_tree_model.specs.RowRules.{rows}
use Rattle.atspi_tree_model.specs.Tree.{is_node, after, seat_of}
use Rattle.atspi_tree_model.specs.Path.{path_of}
use Rattle.atspi_tree_model.specs.News.{effect, marks_reload}

-- a name put before others, if it belongs there
abbrev pub named : Bool → List ℕ → List (List ℕ) → List (List ℕ)
named true x xs = x ∷ xs
named false x xs = xs

-- the interfaces of a node, in the order of the table of members; the root alone has Application
abbrev pub interfaces_of : Bool → Kinds → List (List ℕ)
interfaces_of is_root k =
    codes "org.a11y.atspi.Accessible"
    ∷ named is_root (codes "org.a11y.atspi.Application")
    (named k.text (codes "org.a11y.atspi.Text")
    (named k.editable (codes "org.a11y.atspi.EditableText")
    (named k.selection (codes "org.a11y.atspi.Selection")
    (named k.table (codes "org.a11y.atspi.Table")
    (named k.action (codes "org.a11y.atspi.Action") [])))))

-- a node of the application with this bus name
abbrev pub own : List ℕ → ℕ → Reference
own bus n = record { bus = bus; path = path_of n }

-- the item of a node with so many children
abbrev pub item_of : List ℕ → Reference → ℤ → ℕ → TreeRow → Item
item_of bus parent index children row = record {
  object = own bus row.shape.node;
  application = own bus 0;
  parent = parent;
  index = index;
  children = pos children;
  interfaces = interfaces_of (row.shape.node == 0) row.shape.kinds;
  name = row.shape.name;
  role = row.shape.role;
  description = row.shape.description;
  states = row.shape.states;
}

-- the items of the nodes below a parent, in preorder, from this index on
abbrev pub items_below : List ℕ → Reference → ℕ → Forest TreeRow → List Item
items_below bus parent i nil = []
items_below bus parent i (tree row children rest) =
    item_of bus parent (pos i) (width children) row
    ∷ items_below bus (own bus row.shape.node) 0 children ++ items_below bus parent (suc i) rest

-- the items of a tree: the root's parent is the registry's, its index is -1
abbrev pub items : List ℕ → Reference → Forest TreeRow → List Item
items bus registry nil = []
items bus registry (tree row children rest) =
    item_of bus registry (negsuc 0) (width children) row ∷ items_below bus (own bus row.shape.node) 0 children

-- the item of a node that was put below a parent
abbrev pub item_news : List ℕ → ℕ → ℕ → ℕ → Option TreeRow → News
item_news bus p i children None = Nothing
item_news bus p i children (Some row) = NewItem (item_of bus (own bus p) (pos i) children row)

-- a node was taken from its seat
abbrev pub removed_news : ℕ → Option (Option ℕ × ℕ) → News
removed_news n (Some (Some p, i)) = ChildRemoved (path_of p) (pos i) (path_of n)
removed_news n _ = Nothing

-- what a step's announcement says
abbrev pub announcement : List ℕ → Forest TreeRow → Step → News
announcement bus f (Add n p i seed) = item_news bus p i 0 (Some (rows.first n seed))
announcement bus f (Remove n) = removed_news n (seat_of rows n f)
announcement bus f (Move n p i) =
    let g = after rows f (Move n p i) in
    item_news bus p i (width (children_at (is_node n) g)) (find (is_node n) g)
announcement bus f (SetName n x) = Name (path_of n) x
announcement bus f (SetDescription n x) = Description (path_of n) x
announcement bus f (SetRole n x) = Role (path_of n) x
announcement bus f (SetState n s on) = State (path_of n) s on
announcement bus f (Insert n at x) = Inserted (path_of n) (pos at) x
announcement bus f (Delete n at x) = Deleted (path_of n) (pos at) (pos (length x)) x
announcement bus f (CaretStep n at) = Caret (path_of n) (pos at)
announcement bus f (TextSelect n marks) = Nothing
announcement bus f (Relate n kind targets) = Nothing

-- what its echoes say, in order; that a node has another parent is no news to a reader who was told its place
abbrev pub echoes : List ℕ → Forest TreeRow → Step → List News
echoes bus f (Add n p i seed) = ChildAdded (path_of n) ∷ []
echoes bus f (Remove n) = map (λ (row : TreeRow). Removed (path_of row.shape.node)) (labels (pick (is_node n) f))
echoes bus f (Move n p i) = removed_news n (seat_of rows n f) ∷ Nothing ∷ ChildAdded (path_of n) ∷ []
echoes bus f step = []

-- news, taken in order, that change nothing and ask for no reload
abbrev pub Idle : List ℕ → List ℕ → Forest Row → List News → Type 0
Idle root bus v [] = Unit {0}
Idle root bus v (n ∷ ns) = (effect root bus v n ≡ v) × (marks_reload v n ≡ false) × Idle root bus v ns
