-- What a slab of cells says of each key.
use Rattle.std.specs.Prelude.{ℕ, ◌+◌, ◌≡◌, ◌==◌, ◌++◌, Bool, true, false, cond, not, filter, List, [], ◌∷◌, take, drop}
use Rattle.std.specs.Prelude.{min, slice_get, Option, None, Some, bytes_eq, vec_len, vec_capacity, ◌<◌}
use Rattle.std.specs.Option.{option_map}
use Rattle.slab.specs.Slab.{Slab, get}
use Rattle.atspi_tree_model.specs.declared.view.Row.{Row}
use Rattle.atspi_tree_model.specs.Forest.{Forest, count, pick}
use Rattle.atspi_cache_arena.specs.Keys.{Kept, Node, is_key, with_children}
use Rattle.atspi_cache_arena.specs.declared.cell.Cell.{Cell}

-- whether a value is this key
abbrev pub is_this : ℕ → Option ℕ → Bool
is_this key None = false
is_this key (Some k) = k == key

-- what a cell says
abbrev pub kept : Cell → Kept Row
kept cell = record { row = cell.row; children = cell.children.items; parent = cell.parent }

-- what a slab says of a key
abbrev pub look_in : Slab Cell → ℕ → Option (Kept Row)
look_in s k = option_map kept (get s k)

-- the place among so many that an index names
abbrev pub place_of : Option ℕ → ℕ → ℕ
place_of (Some at) len = min at len
place_of None len = len

-- some keys put before the one at an index of others, or behind all
abbrev pub put_among : Option ℕ → List ℕ → List ℕ → List ℕ
put_among None g l = l ++ g
put_among (Some at) g l = take at l ++ (g ++ drop at l)

-- a child put at an index among others, or at the end
abbrev pub with_child : Option ℕ → ℕ → Kept Row → Kept Row
with_child at key k = with_children (put_among at (key ∷ [])) k

-- a child taken out of the others
abbrev pub without_child : ℕ → Kept Row → Kept Row
without_child key k = with_children (filter (λ n. not (n == key))) k

-- the same where a test passed
abbrev pub without_child_if : Bool → ℕ → Kept Row → Kept Row
without_child_if true key k = without_child key k
without_child_if false key k = k

-- another row under the same key
abbrev pub with_row : (Row → Row) → Kept Row → Kept Row
with_row h k = record k { row = h k.row }

-- whether a key is the child at an index of what is kept
abbrev pub is_child_at : ℕ → ℕ → Option (Kept Row) → Bool
is_child_at i key None = false
is_child_at i key (Some k) = is_this key (slice_get k.children i)

-- the parent of what is kept
abbrev pub parent_in : Option (Kept Row) → Option ℕ
parent_in None = None
parent_in (Some k) = k.parent

-- whether what is kept has this path
abbrev pub has_path : List ℕ → Option (Kept Row) → Bool
has_path q None = false
has_path q (Some k) = bytes_eq k.row.path q

abbrev pub sits_below : (ℕ → Option (Kept Row)) → List ℕ → ℕ → ℕ → Option ℕ → Bool
sits_below look p i key None = false
sits_below look p i key (Some up) = cond (has_path p (look up)) (is_child_at i key (look up)) false

-- whether a key stands at an index of the children of its parent, which has this path
abbrev pub sits : (ℕ → Option (Kept Row)) → List ℕ → ℕ → ℕ → Bool
sits look p i key = sits_below look p i key (parent_in (look key))

-- how often a key stands in a list
abbrev pub times : ℕ → List ℕ → ℕ
times k [] = 0
times k (x ∷ xs) = cond (x == k) 1 0 + times k xs

-- whether a key stands in a list
abbrev pub is_among : ℕ → List ℕ → Bool
is_among k [] = false
is_among k (x ∷ xs) = cond (x == k) true (is_among k xs)

-- a list has just the keys of a node and of all below it, each once
abbrev pub IsSubtree : ℕ → Forest (Node Row) → List ℕ → Type 0
IsSubtree key f ks = (n : ℕ) → times n ks ≡ count (is_key n) (pick (is_key key) f)

-- whether one of these keys has a row of this path
abbrev pub path_among : (ℕ → Option (Kept Row)) → List ℕ → List ℕ → Bool
path_among look q [] = false
path_among look q (k ∷ ks) = cond (has_path q (look k)) true (path_among look q ks)

-- the root after a row with this parent is taken out
abbrev pub root_after : Option ℕ → Option ℕ → Option ℕ
root_after None root = None
root_after (Some p) root = root

-- the list of a key has room for one more
abbrev pub HasRoom : Option Cell → Type 0
HasRoom None = ⊥
HasRoom (Some cell) = vec_len cell.children < vec_capacity cell.children

abbrev pub RoomAt : Slab Cell → ℕ → Type 0
RoomAt s k = HasRoom (get s k)
