-- Words that only the private contracts and proofs beside `Seated` use.
use Rattle.std.specs.Prelude.{ℕ, ℤ, pos, negsuc, List, ◌∷◌, length, Option, None, Some, []}
use Rattle.std.specs.List.{flat_map}
use Rattle.atspi_tree_model.specs.declared.news.Item.{Item}
use Rattle.atspi_tree_model.specs.Announce.{item_of}
use Rattle.atspi_tree_model.specs.Row.{ShapeRow}
use Rattle.atspi_tree.specs.TreeShape.{TreeShape, children_of, row_of}
use Rattle.atspi_tree.specs.declared.seats.Seat.{Seat}
use Rattle.atspi_app_items.specs.Bare.{bare}
use Rattle.atspi_app_items.specs.Seated.{parent_reference}

-- a root has index -1
abbrev pub told_index : Option ℕ → ℕ → ℤ
told_index None index = negsuc 0
told_index (Some up) index = pos index

-- the item of a row at a place
abbrev pub item_below : List ℕ → Option ℕ → ℕ → ℕ → ShapeRow → Item
item_below bus up index children row = item_of bus (parent_reference bus up) (told_index up index) children (bare row)

abbrev pub seat_item : List ℕ → TreeShape → Seat → ShapeRow → Item
seat_item bus t seat row = item_below bus seat.parent seat.index (length (children_of seat.node t)) row

-- the same of a row that may not be there, and of places one after another
abbrev pub item_there : List ℕ → TreeShape → Seat → Option ShapeRow → List Item
item_there bus t seat None = []
item_there bus t seat (Some row) = seat_item bus t seat row ∷ []

abbrev pub seats_items : List ℕ → TreeShape → List Seat → List Item
seats_items bus t seats = flat_map (λ (seat : Seat). item_there bus t seat (row_of seat.node t)) seats
