-- What a table of cells says of each number, and the tree that it holds.
use Rattle.std.specs.Prelude.{ℕ, ◌≡◌, ◌==◌, true, false, not, filter, List, [], ◌∷◌, Option, None, Some, length, insert}
use Rattle.std.specs.Option.{option_map}
use Rattle.std.specs.Ordering.{nat_cmp, is_eq}
use Rattle.std.specs.Map.{lookup}
use Rattle.atspi_tree_model.specs.declared.contents.Kinds.{Kinds}
use Rattle.atspi_tree_model.specs.States.{first_states}
use Rattle.atspi_tree_model.specs.Forest.{Forest, nil, tree, count, grow, relabel}
use Rattle.atspi_tree_model.specs.Row.{ShapeRow}
use Rattle.atspi_tree_model.specs.RowRules.{shapes, forgetting_shape}
use Rattle.atspi_tree_model.specs.Tree.{IsTree, is_shape}
use Rattle.atspi_tree.specs.Namers.{Namers, Covers}
use Rattle.atspi_tree.specs.TreeShape.{numbers}
use Rattle.atspi_tree.specs.declared.cell.Cell.{Cell}

-- what a table keeps of a node
pub record Kept : Type 0 where
  pub row : ShapeRow
  pub children : List ℕ
  pub parent : Option ℕ

-- what a cell says, at this number
abbrev pub kept : ℕ → Cell → Kept
kept n cell = record {
  row = record {
    node = n;
    name = cell.name;
    description = cell.description;
    role = cell.role;
    states = cell.states;
    kinds = cell.kinds;
    relations = cell.relations;
  };
  children = cell.children.items;
  parent = cell.parent;
}

-- what a table says of a number
abbrev pub look_in : List (ℕ × Cell) → ℕ → Option Kept
look_in entries n = option_map (kept n) (lookup (λ k. is_eq (nat_cmp n k)) entries)

-- a table has each node of a forest, with its row, its children and its parent; at the top the parent is handed in
abbrev pub HoldsBelow : (ℕ → Option Kept) → Option ℕ → Forest ShapeRow → Type 0
HoldsBelow look up nil = Unit {0}
HoldsBelow look up (tree row children rest) =
    (look row.node ≡ Some (record { row = row; children = numbers children; parent = up }))
    × HoldsBelow look (Some row.node) children
    × HoldsBelow look up rest

-- a table has the nodes of a forest and nothing else
pub record IsHeld (entries : List (ℕ × Cell)) (f : Forest ShapeRow) : Type 0 where
  pub nodes : HoldsBelow (look_in entries) None f
  pub only : (n : ℕ) → count (is_shape n) f ≡ 0 → look_in entries n ≡ None
  pub size : count (λ row. true) f ≡ length entries

-- a table holds a tree to which so many nodes were ever added, and beside it no node that names another is left out
pub record HoldsTree (entries : List (ℕ × Cell)) (namers : Namers) (added : ℕ) : Type 0 where
  pub rows : Forest ShapeRow
  pub held : IsHeld entries rows
  pub lawful : IsTree shapes rows added
  pub covered : Covers namers rows

-- the row and the children of a number; no one asks for those of a number that a table lacks
abbrev pub row_or : ℕ → Option Kept → ShapeRow
row_or n (Some k) = k.row
row_or n None = record {
  node = n;
  name = [];
  description = [];
  role = 0;
  states = 0;
  kinds = record { text = false; editable = false; selection = false; table = false; action = false };
  relations = [];
}

abbrev pub children_or : Option Kept → List ℕ
children_or (Some k) = k.children
children_or None = []

abbrev pub row_by : (ℕ → Option Kept) → ℕ → ShapeRow
row_by look n = row_or n (look n)

abbrev pub children_by : (ℕ → Option Kept) → ℕ → List ℕ
children_by look n = children_or (look n)

-- the forest that a table holds under node 0
abbrev pub rows_in : List (ℕ × Cell) → Forest ShapeRow
rows_in entries = relabel (row_by (look_in entries)) (grow (length entries) (children_by (look_in entries)) (0 ∷ []))

-- the row of a new node
abbrev pub new_row : ℕ → List ℕ → ℕ → Kinds → ShapeRow
new_row n name role kinds = record {
  node = n;
  name = name;
  description = [];
  role = role;
  states = first_states;
  kinds = kinds;
  relations = [];
}

-- a cell says this row, no children and this parent
abbrev pub IsNewCell : Cell → List ℕ → ℕ → Kinds → Option ℕ → Type 0
IsNewCell cell name role kinds parent =
    (n : ℕ) → kept n cell ≡ record { row = new_row n name role kinds; children = []; parent = parent }

-- two cells say the same
abbrev pub SameCell : Cell → Cell → Type 0
SameCell a b = (n : ℕ) → kept n b ≡ kept n a

-- a child among others
abbrev pub with_child : ℕ → ℕ → Kept → Kept
with_child i n k = record k { children = insert k.children i n }

-- all numbers of a list but one
abbrev pub all_but : ℕ → List ℕ → List ℕ
all_but n ns = filter (λ m. not (m == n)) ns

-- without a child
abbrev pub without_child : ℕ → Kept → Kept
without_child n k = record k { children = all_but n k.children }

-- a child at another index among the others
abbrev pub moved_child : ℕ → ℕ → Kept → Kept
moved_child i n k = record k { children = insert (all_but n k.children) i n }

-- another parent
abbrev pub with_parent : ℕ → Kept → Kept
with_parent p k = record k { parent = Some p }

-- another row
abbrev pub with_row : (ShapeRow → ShapeRow) → Kept → Kept
with_row h k = record k { row = h k.row }

-- a table says this of a number, and of each other number what it said before
pub record ChangesAt (old new : List (ℕ × Cell)) (n : ℕ) (k : Kept) : Type 0 where
  pub here : look_in new n ≡ Some k
  pub others : (m : ℕ) → (m == n) ≡ false → look_in new m ≡ look_in old m

-- lists of children without a number in one, and with it in another, at this index
pub record Relists (old new : List (ℕ × Cell)) (from to i n : ℕ) : Type 0 where
  pub left : (k : Kept) → (from == to) ≡ false → look_in old from ≡ Some k → look_in new from ≡ Some (without_child n k)
  pub joined : (k : Kept) → look_in old to ≡ Some k → look_in new to ≡ Some (moved_child i n k)
  pub others : (m : ℕ) → (m == from) ≡ false → (m == to) ≡ false → look_in new m ≡ look_in old m

-- a table without a node among the children of one, and with it among those of another, at this index
pub record Rehangs (old new : List (ℕ × Cell)) (from to i n : ℕ) : Type 0 where
  pub moved : (k : Kept) → look_in old n ≡ Some k → look_in new n ≡ Some (with_parent to k)
  pub left : (k : Kept) → (from == to) ≡ false → look_in old from ≡ Some k → look_in new from ≡ Some (without_child n k)
  pub joined : (k : Kept) → look_in old to ≡ Some k → look_in new to ≡ Some (moved_child i n k)
  pub others : (m : ℕ) → (m == n) ≡ false → (m == from) ≡ false → (m == to) ≡ false → look_in new m ≡ look_in old m

-- a table without a node, and without it among the children of its parent
pub record Prunes (old new : List (ℕ × Cell)) (parent n : ℕ) : Type 0 where
  pub gone : look_in new n ≡ None
  pub left : (k : Kept) → look_in old parent ≡ Some k → look_in new parent ≡ Some (without_child n k)
  pub others : (m : ℕ) → (m == n) ≡ false → (m == parent) ≡ false → look_in new m ≡ look_in old m

-- without a target among the relations
abbrev pub forgets_target : ℕ → Kept → Kept
forgets_target target k = with_row (forgetting_shape (λ t. t == target)) k

-- no relation has this target
abbrev pub IsClean : ℕ → Option Kept → Type 0
IsClean target o = option_map (forgets_target target) o ≡ o

-- a table in which no relation has a target, and all else is as before
abbrev pub Forgets : List (ℕ × Cell) → List (ℕ × Cell) → ℕ → Type 0
Forgets old new target = (m : ℕ) → look_in new m ≡ option_map (forgets_target target) (look_in old m)
