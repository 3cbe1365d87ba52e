-- Where nodes stand; the nodes of a tree in preorder; and what a walk over them has still to give.
use Rattle.std.specs.Prelude.{ℕ, suc, ◌+◌, ◌≡◌, ◌≤◌, true, List, [], ◌∷◌, ◌++◌, map, drop, length, Option, None, Some}
use Rattle.std.specs.List.{flat_map}
use Rattle.atspi_tree_model.specs.Forest.{Forest, has, seats, children_at}
use Rattle.atspi_tree_model.specs.Row.{ShapeRow, Each, HoldsIfThere}
use Rattle.atspi_tree_model.specs.Tree.{is_shape}
use Rattle.atspi_tree.specs.TreeShape.{TreeShape, children_of}
use Rattle.atspi_tree.specs.declared.seats.Seat.{Seat}

-- the place of a row
abbrev pub seat_at : Option ℕ × ℕ × ShapeRow → Seat
seat_at place = record { node = place.2.node; parent = place.0; index = place.1 }

-- the places of the nodes of a forest, in preorder
abbrev pub seats_of : Option ℕ → Forest ShapeRow → List Seat
seats_of up f = map seat_at (seats (λ row. Some row.node) up 0 f)

-- the places of all nodes of a tree
abbrev pub seats_in : TreeShape → List Seat
seats_in t = seats_of None t.rows

-- the places of the nodes below a node
abbrev pub seats_below : ℕ → TreeShape → List Seat
seats_below n t = seats_of (Some n) (children_at (is_shape n) t.rows)

-- a place, and the places below it
abbrev pub with_below : TreeShape → Seat → List Seat
with_below t seat = seat ∷ seats_below seat.node t

-- the places of some children of a node, the first at this index
abbrev pub child_seats : Option ℕ → ℕ → List ℕ → List Seat
child_seats up i [] = []
child_seats up i (n ∷ ns) = record { node = n; parent = up; index = i } ∷ child_seats up (suc i) ns

-- a level of a walk has still to give a node's children from an index on, each with what is below it
abbrev pub level_left : TreeShape → ℕ × ℕ → List Seat
level_left t level = flat_map (with_below t) (child_seats (Some level.0) level.1 (drop level.1 (children_of level.0 t)))

abbrev pub levels_left : TreeShape → List (ℕ × ℕ) → List Seat
levels_left t levels = flat_map (level_left t) levels

-- a walk has still to give its first place, with what is below it, and then what its levels have
abbrev pub first_left : TreeShape → Option Seat → List Seat
first_left t None = []
first_left t (Some seat) = with_below t seat

abbrev pub walk_left : TreeShape → Option Seat → List (ℕ × ℕ) → List Seat
walk_left t first levels = first_left t first ++ levels_left t levels

-- the nodes of the levels are in the tree
abbrev pub AreThere : TreeShape → List (ℕ × ℕ) → Type 0
AreThere t levels = Each (λ level. has (is_shape level.0) t.rows ≡ true) levels

-- a walk: its nodes are there, and there is room for a level of each node that it has still to give
pub record IsWalk (t : TreeShape) (first : Option Seat) (levels : List (ℕ × ℕ)) : Type 0 where
  pub first_there : HoldsIfThere (λ (seat : Seat). has (is_shape seat.node) t.rows ≡ true) first
  pub there : AreThere t levels
  pub room : length levels + length (walk_left t first levels) ≤ 8192
