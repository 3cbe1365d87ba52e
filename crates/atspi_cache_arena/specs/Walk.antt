-- Where a walk over the cells stands, and what is left of it.
use Rattle.std.specs.Prelude.{ℕ, zero, suc, ◌+◌, ◌≡◌, ◌≤◌, ◌==◌, Bool, true, cond, List, [], ◌∷◌, ◌++◌, length, drop}
use Rattle.std.specs.Prelude.{map, slice_get, Option, None, Some}
use Rattle.std.specs.Option.{option_map, option_to_list, option_copied}
use Rattle.slab.specs.Slab.{Slab}
use Rattle.atspi_tree_model.specs.declared.view.Row.{Row}
use Rattle.atspi_tree_model.specs.Forest.{Forest, nil, count, relabel, grow, seats}
use Rattle.atspi_cache_arena.specs.Keys.{HoldsBelow, Kept, Node, is_key, keys}
use Rattle.atspi_cache_arena.specs.Arena.{children_or, row_or}
use Rattle.atspi_cache_arena.specs.Sights.{Sight, sight}
use Rattle.atspi_cache_arena.specs.Table.{look_in, parent_in, times}
use Rattle.atspi_cache_arena.specs.declared.cell.Cell.{Cell}
use Rattle.atspi_cache_arena.specs.declared.rows.Place.{Place}
use Rattle.atspi_cache_arena.specs.declared.rows.Seen.{Seen}

-- a key at its place: the key of its parent, and its index there
abbrev pub Seat : Type 0
Seat = Option ℕ × ℕ × ℕ

-- the keys of a forest in preorder, each at its place
abbrev pub key_seats : Option ℕ → ℕ → Forest (Node Row) → List Seat
key_seats up i f = seats (λ (k : ℕ). Some k) up i (relabel (λ (n : Node Row). n.key) f)

-- the child at an index of a list of children
abbrev pub child_at : ℕ → List ℕ → Option Place
child_at i children = option_map (λ k. record { key = k; index = i }) (slice_get children i)

-- the place of the root
abbrev pub first_place : Option ℕ → Option Place
first_place None = None
first_place (Some k) = Some (record { key = k; index = 0 })

-- the children of a key
abbrev pub kids : (ℕ → Option (Kept Row)) → ℕ → List ℕ
kids look k = children_or (look k)

-- all keys in preorder, each at its place
abbrev pub all_seats : Slab Cell → Option ℕ → List Seat
all_seats s root =
    seats (λ (k : ℕ). Some k) None 0 (grow (length s.slots) (λ k. children_or (look_in s k)) (option_to_list root))

-- those from one on
abbrev pub from_key : ℕ → List Seat → List Seat
from_key k [] = []
from_key k (x ∷ xs) = cond (x.2 == k) (x ∷ xs) (from_key k xs)

abbrev pub from_place : Option Place → List Seat → List Seat
from_place None xs = []
from_place (Some p) xs = from_key p.key xs

-- how many of some places are those of a key
abbrev pub seated : ℕ → List Seat → ℕ
seated k [] = 0
seated k (x ∷ xs) = cond (x.2 == k) 1 0 + seated k xs

-- the path of the row under a key
abbrev pub path_in : Option (Kept Row) → Option (List ℕ)
path_in None = None
path_in (Some x) = Some x.row.path

abbrev pub path_under : (ℕ → Option (Kept Row)) → Option ℕ → Option (List ℕ)
path_under look None = None
path_under look (Some k) = path_in (look k)

-- a key at its place as it is shown
abbrev pub sight_of : (ℕ → Option (Kept Row)) → Seat → Sight
sight_of look x = sight (path_under look x.0, x.1, row_or (look x.2))

-- what is left of a walk that is about to show a place
abbrev pub sights_left : Slab Cell → Option ℕ → Option Place → List Sight
sights_left s root next = map (sight_of (look_in s)) (from_place next (all_seats s root))

-- what is shown
abbrev pub seen_sight : Seen → Sight
seen_sight s = record { parent = option_copied s.parent; index = s.index; row = s.row.now }

-- a node on the way down to where a walk stands, its index, and the siblings behind it
pub record Frame : Type 0 where
  pub node : Node Row
  pub index : ℕ
  pub later : Forest (Node Row)

-- the key of the last node on the way
abbrev pub up_of : List Frame → Option ℕ
up_of [] = None
up_of (f ∷ fs) = Some f.node.key

-- what comes behind all that is below the last node on the way
abbrev pub left_of : List Frame → List Seat
left_of [] = []
left_of (f ∷ fs) = key_seats (up_of fs) (suc f.index) f.later ++ left_of fs

-- a key stands at an index below another; at the top it is the first
abbrev pub IsAtIndex : (ℕ → Option (Kept Row)) → Option ℕ → ℕ → ℕ → Type 0
IsAtIndex look None i k = i ≡ 0
IsAtIndex look (Some p) i k = slice_get (kids look p) i ≡ Some k

-- no key stands twice below another
abbrev pub NoneTwice : (ℕ → Option (Kept Row)) → Option ℕ → Type 0
NoneTwice look None = Unit {0}
NoneTwice look (Some p) = (n : ℕ) → times n (kids look p) ≤ 1

-- a forest is that of the children from an index on; at the top there is none behind the first
abbrev pub AreLater : (ℕ → Option (Kept Row)) → Option ℕ → ℕ → Forest (Node Row) → Type 0
AreLater look None i f = f ≡ nil
AreLater look (Some p) i f = keys f ≡ drop i (kids look p)

-- a node stands at its place below those on the way to it
pub record Stands (look : ℕ → Option (Kept Row)) (most : ℕ) (f : Frame) (fs : List Frame) : Type 0 where
  pub parent : parent_in (look f.node.key) ≡ up_of fs
  pub place : IsAtIndex look (up_of fs) f.index f.node.key
  pub apart : NoneTwice look (up_of fs)
  pub later : AreLater look (up_of fs) (suc f.index) f.later
  pub held : HoldsBelow look (up_of fs) f.later
  pub once : (k : ℕ) → count (is_key k) f.later ≤ 1
  pub few : suc (length fs) + count (λ n. true) f.later ≤ most

-- so does each on the way
abbrev pub IsWay : (ℕ → Option (Kept Row)) → ℕ → List Frame → Type 0
IsWay look most [] = Unit {0}
IsWay look most (f ∷ fs) = Stands look most f fs × IsWay look most fs

-- the way ends at a place
abbrev pub EndsAt : Place → List Frame → Type 0
EndsAt p [] = ⊥
EndsAt p (f ∷ fs) = (f.node.key ≡ p.key) × (f.index ≡ p.index)

-- a walk is about to show a place, and these are what is left of it
pub record At (look : ℕ → Option (Kept Row)) (most : ℕ) (p : Place) (rest : List Seat) : Type 0 where
  pub last : Frame
  pub before : List Frame
  pub below : Forest (Node Row)
  pub ends : EndsAt p (last ∷ before)
  pub way : IsWay look most (last ∷ before)
  pub kept : look last.node.key ≡ Some (record { row = last.node.row; children = keys below; parent = up_of before })
  pub held : HoldsBelow look (Some last.node.key) below
  pub once : (k : ℕ) → count (is_key k) below ≤ 1
  pub few : suc (length before) + count (λ n. true) below ≤ most
  pub spelled : rest
      ≡ (up_of before, last.index, last.node.key) ∷ (key_seats (Some last.node.key) 0 below ++ left_of (last ∷ before))

-- what is left behind the first
abbrev pub behind : List Seat → List Seat
behind [] = []
behind (x ∷ xs) = xs

-- so it is, or nothing is left
abbrev pub IsNext : (ℕ → Option (Kept Row)) → ℕ → Option Place → List Seat → Type 0
IsNext look most None rest = rest ≡ []
IsNext look most (Some p) rest = At look most p rest

-- a walk that began at the root is about to show a place
pub record IsWalk (s : Slab Cell) (root : Option ℕ) (next : Option Place) : Type 0 where
  pub done : List Seat
  pub rest : List Seat
  pub spelled : all_seats s root ≡ done ++ rest
  pub once : (k : ℕ) → seated k (all_seats s root) ≤ 1
  pub is_next : IsNext (look_in s) (length s.slots) next rest

-- how many nodes there are from a key up to the root, up to a number
abbrev pub depth : ℕ → (ℕ → Option (Kept Row)) → Option ℕ → ℕ
depth zero look up = 0
depth (suc n) look None = 0
depth (suc n) look (Some k) = suc (depth n look (parent_in (look k)))
