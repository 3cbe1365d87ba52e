-- The arena: the forest of an application's rows, which a slab and an index of paths hold.
use Rattle.std.specs.Prelude.{ℕ, ◌≡◌, ◌≤◌, ◌==◌, ◌↔◌, Bool, false, cond, List, [], length, Option, Some, None}
use Rattle.std.specs.Option.{option_to_list}
use Rattle.std.specs.HashMap.{get_by_text}
use Rattle.slab.specs.Slab.{Slab}
use Rattle.atspi_tree_model.specs.declared.view.Row.{Row}
use Rattle.atspi_tree_model.specs.declared.view.Part.TheVariants.{Absent}
use Rattle.atspi_tree_model.specs.declared.view.NumPart.TheVariants.{Absent as NoNumber}
use Rattle.atspi_tree_model.specs.Forest.{Forest, count, relabel, grow}
use Rattle.atspi_tree_model.specs.News.{is_path}
use Rattle.atspi_cache_arena.specs.Keys.{Node, Kept, keys, Holds}
use Rattle.atspi_cache_arena.specs.Table.{look_in}
use Rattle.atspi_cache_arena.specs.declared.cell.Cell.{Cell}
use Rattle.atspi_cache_arena.specs.declared.paths.Paths.{Paths}

-- the test for a path
abbrev pub is_at : List ℕ → Node Row → Bool
is_at path n = is_path path n.row

-- the test for a key and a path
abbrev pub is_row : List ℕ → ℕ → Node Row → Bool
is_row path k n = cond (n.key == k) (is_at path n) false

-- the root is at the top, and the index has just the paths of the rows, each once
pub record IsIndexed (paths : Paths) (f : Forest (Node Row)) : Type 0 where
  pub root : keys f ≡ option_to_list paths.root
  pub index : (path : List ℕ) (k : ℕ) → (get_by_text paths.index path ≡ Some k) ↔ (1 ≤ count (is_row path k) f)
  pub once : (path : List ℕ) → count (is_at path) f ≤ 1

-- a slab holds a forest, and nothing else, and the index is of its paths
pub record IsArena (cells : Slab Cell) (paths : Paths) : Type 0 where
  pub forest : Forest (Node Row)
  pub held : Holds (look_in cells) forest
  pub indexed : IsIndexed paths forest

-- the row and the children of a key
abbrev pub row_or : Option (Kept Row) → Row
row_or (Some k) = k.row
row_or None = record {
  path = [];
  name = [];
  description = [];
  role = 0;
  states = 0;
  faces = 0;
  text = Absent;
  caret = NoNumber;
  columns = NoNumber;
}

abbrev pub children_or : Option (Kept Row) → List ℕ
children_or (Some k) = k.children
children_or None = []

-- the forest of rows. No forest of a slab has more nodes than the slab has slots
abbrev pub rows_of : Slab Cell → Paths → Forest Row
rows_of cells paths =
    relabel (λ k. row_or (look_in cells k))
    (grow (length cells.slots) (λ k. children_or (look_in cells k)) (option_to_list paths.root))

-- the row of what is kept
abbrev pub row_in : Option (Kept Row) → Option Row
row_in None = None
row_in (Some x) = Some x.row

-- the row under a key
abbrev pub row_under : Slab Cell → Option ℕ → Option Row
row_under cells None = None
row_under cells (Some k) = row_in (look_in cells k)
