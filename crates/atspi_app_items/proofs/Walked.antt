-- The items at all places are those of the tree.
use Rattle.std.proofs.Common.{◌≡◌, ℕ, zero, suc, ◌+◌, ◌<◌, ◌≤◌, Bool, true, false, List, [], ◌∷◌, ◌++◌, length, map, Option, None, Some, refl, sym, ap, subst, ◌∙◌, arith, append_assoc}
use Rattle.std.specs.Prelude.{pos, negsuc}
use Rattle.std.specs.List.{flat_map}
use Rattle.std.proofs.lemmas.Grind.{flat_map-append}
use Rattle.std.proofs.lemmas.List.{map-append, append-nil}
use Rattle.atspi_types.specs.Data.{Data}
use Rattle.atspi_tree_model.specs.declared.news.Item.{Item}
use Rattle.atspi_tree_model.specs.Announce.{own, item_of, items_below, items}
use Rattle.atspi_tree_model.specs.Forest.{Forest, nil, tree, count, has, width, seats, EachNode}
use Rattle.atspi_tree_model.specs.Row.{ShapeRow, TreeRow, Each}
use Rattle.atspi_tree_model.specs.Tree.{is_shape, shape_of}
use Rattle.atspi_tree_model.proofs.Lookup.{each_append}
use Rattle.atspi_tree_model.proofs.ShapeOf.{shape-width}
use Rattle.atspi_protocol.specs.objects.Values.{item_data}
use Rattle.atspi_tree.specs.TreeShape.{TreeShape, IsLawful, numbers, row_of, children_of}
use Rattle.atspi_tree.specs.Seats.{seat_at, seats_in}
use Rattle.atspi_tree.specs.declared.seats.Seat.{Seat}
use Rattle.atspi_tree.proofs.Trees.{width-numbers}
use Rattle.atspi_app_items.specs.Bare.{bare}
use Rattle.atspi_app_items.specs.Seated.{of_registry}
use Rattle.atspi_app_items.specs.inner.Seated.{item_below, seat_item, item_there, seats_items}
use Rattle.atspi_app_items.proofs.Known.{Known, each_known}

-- a place of a node that is there
pub record IsPlace (t : TreeShape) (seat : Seat) : Type 0 where
  pub there : has (is_shape seat.node) t.rows ≡ true
  pub small : seat.index ≤ 8192

places : (t : TreeShape) (up : Option ℕ) (i : ℕ) (g : Forest ShapeRow) → i + count (λ row. true) g ≤ 8193 → EachNode (Known t.rows) g
    → Each (IsPlace t) (map seat_at (seats (λ row. Some row.node) up i g))
places t up i nil l k = tt
places t up i (tree a c r) l k = (
  record { there = k.0.there; small = omega arith },
  subst (Each (IsPlace t)) (sym (map-append seat_at (seats (λ row. Some row.node) (Some a.node) 0 c) (seats (λ row. Some row.node) up (suc i) r)))
      (each_append (IsPlace t) (map seat_at (seats (λ row. Some row.node) (Some a.node) 0 c)) (map seat_at (seats (λ row. Some row.node) up (suc i) r))
      (places t (Some a.node) 0 c (omega arith) k.1) (places t up (suc i) r (omega arith) k.2)),
)

pub all_places : (t : TreeShape) → IsLawful t → Each (IsPlace t) (seats_in t)
all_places t law = let few = law.few in places t None 0 t.rows (omega arith) (each_known t.rows law.once)

module _ (bus : List ℕ) (t : TreeShape) where
  count_known : (row : ShapeRow) (c : Forest TreeRow) → Known t.rows row (shape_of c) → length (children_of row.node t) ≡ width c
  count_known row c k = ap (λ (f : Forest ShapeRow). length (numbers f)) k.below ∙ width-numbers (shape_of c) ∙ shape-width c

  -- the item of the node at a place
  at_place : (row : TreeRow) (c : Forest TreeRow) (up : Option ℕ) (i : ℕ) → Known t.rows row.shape (shape_of c)
      → item_there bus t (record { node = row.shape.node; parent = up; index = i }) (row_of row.shape.node t) ≡ item_below bus up i (width c) row.shape ∷ []
  at_place row c up i k =
      ap (item_there bus t (record { node = row.shape.node; parent = up; index = i })) k.found
      ∙ ap (λ n. item_below bus up i n row.shape ∷ []) (count_known row.shape c k)

  abbrev seated : Option ℕ → ℕ → Forest TreeRow → List Seat
  seated up i f = map seat_at (seats (λ row. Some row.node) up i (shape_of f))

  split : (row : TreeRow) (c r : Forest TreeRow) (up : Option ℕ) (i : ℕ) → Known t.rows row.shape (shape_of c)
      → seats_items bus t (seated up i (tree row c r))
      ≡ item_below bus up i (width c) row.shape ∷ seats_items bus t (seated (Some row.shape.node) 0 c) ++ seats_items bus t (seated up (suc i) r)
  split row c r up i k =
      ap (λ is. is ++ seats_items bus t (map seat_at (seats (λ row. Some row.node) (Some row.shape.node) 0 (shape_of c) ++ seats (λ row. Some row.node) up (suc i) (shape_of r)))) (at_place row c up i k)
      ∙ ap (λ ss. item_below bus up i (width c) row.shape ∷ seats_items bus t ss)
      (map-append seat_at (seats (λ row. Some row.node) (Some row.shape.node) 0 (shape_of c)) (seats (λ row. Some row.node) up (suc i) (shape_of r)))
      ∙ ap (λ is. item_below bus up i (width c) row.shape ∷ is)
      (flat_map-append (λ (seat : Seat). item_there bus t seat (row_of seat.node t)) (seated (Some row.shape.node) 0 c) (seated up (suc i) r))

  below : (f : Forest TreeRow) (up i : ℕ) → EachNode (Known t.rows) (shape_of f) → seats_items bus t (seated (Some up) i f) ≡ items_below bus (own bus up) i f
  below nil up i k = refl
  below (tree row c r) up i k =
      split row c r (Some up) i k.0
      ∙ ap (λ is. item_of bus (own bus up) (pos i) (width c) row ∷ is ++ seats_items bus t (seated (Some up) (suc i) r)) (below c row.shape.node 0 k.1)
      ∙ ap (λ is. item_of bus (own bus up) (pos i) (width c) row ∷ items_below bus (own bus row.shape.node) 0 c ++ is) (below r up (suc i) k.2)

  rooted : (f : Forest TreeRow) (top : ShapeRow) (children : Forest ShapeRow) → shape_of f ≡ tree top children nil → EachNode (Known t.rows) (shape_of f)
      → seats_items bus t (seated None 0 f) ≡ items bus of_registry f
  rooted nil top children e k = absurd cc
  rooted (tree row c (tree x y z)) top children e k = absurd cc
  rooted (tree row c nil) top children e k =
      split row c nil None 0 k.0
      ∙ ap (λ is. item_of bus of_registry (negsuc 0) (width c) row ∷ is) (append-nil (seats_items bus t (seated (Some row.shape.node) 0 c)) ∙ below c row.shape.node 0 k.1)

  pub walked : (f : Forest TreeRow) → IsLawful t → shape_of f ≡ t.rows → seats_items bus t (seats_in t) ≡ items bus of_registry f
  walked f law e =
      ap (λ (g : Forest ShapeRow). seats_items bus t (map seat_at (seats (λ row. Some row.node) None 0 g))) (sym e)
      ∙ rooted f law.rooted.0 law.rooted.1 (e ∙ law.rooted.3) (subst (EachNode (Known t.rows)) (sym e) (each_known t.rows law.once))

  -- a place more is told
  pub told_more : (done all : List Data) (seat : Seat) (rest : List Seat) (row : ShapeRow) (item : Item) → row_of seat.node t ≡ Some row → item ≡ seat_item bus t seat row
      → done ++ map item_data (seats_items bus t (seat ∷ rest)) ≡ all → (done ++ item_data item ∷ []) ++ map item_data (seats_items bus t rest) ≡ all
  told_more done all seat rest row item found is e =
      append_assoc done (item_data item ∷ []) (map item_data (seats_items bus t rest))
      ∙ ap (λ i. done ++ item_data i ∷ map item_data (seats_items bus t rest)) is
      ∙ sym (ap (λ o. done ++ map item_data (item_there bus t seat o ++ seats_items bus t rest)) found) ∙ e
