-- The nodes that go with one: itself, and those below it at their places.
use Rattle.std.proofs.Common.{◌≡◌, ℕ, suc, List, [], ◌∷◌, ◌++◌, Option, Some, refl, sym, ap, ◌∙◌, true, arith}
use Rattle.std.specs.Prelude.{map}
use Rattle.std.proofs.lemmas.Bool.{eqb-true}
use Rattle.std.proofs.lemmas.List.{map-append, append-nil}
use Rattle.atspi_tree_model.specs.Forest.{Forest, nil, tree, labels, has, pick, seats, children_at}
use Rattle.atspi_tree_model.specs.Row.{ShapeRow}
use Rattle.atspi_tree_model.specs.Tree.{is_shape}
use Rattle.atspi_tree_model.proofs.Found.{count-has}
use Rattle.atspi_tree.specs.Seats.{seat_at, seats_below}
use Rattle.atspi_tree.specs.TreeShape.{TreeShape, IsLawful}
use Rattle.atspi_tree.specs.declared.seats.Seat.{Seat}
use Rattle.atspi_tree.proofs.Leaf.{picked_one}
use Rattle.atspi_faces.specs.face.Nodes.{Nodes}
use Rattle.atspi_protocol.specs.whole.Whole.{without}

abbrev pub numbers_at : List Seat → List ℕ
numbers_at seats = map (λ (s : Seat). s.node) seats

-- the numbers of a forest, at their places and as they are
seat_numbers : (g : Forest ShapeRow) (up : Option ℕ) (i : ℕ) → numbers_at (map seat_at (seats (λ row. Some row.node) up i g)) ≡ map (λ (row : ShapeRow). row.node) (labels g)
seat_numbers nil up i = refl
seat_numbers (tree a c r) up i =
    ap (λ l. a.node ∷ l)
    (ap (map (λ (s : Seat). s.node)) (map-append seat_at (seats (λ row. Some row.node) (Some a.node) 0 c) (seats (λ row. Some row.node) up (suc i) r))
    ∙ map-append (λ (s : Seat). s.node) (map seat_at (seats (λ row. Some row.node) (Some a.node) 0 c)) (map seat_at (seats (λ row. Some row.node) up (suc i) r))
    ∙ ap (λ l. l ++ numbers_at (map seat_at (seats (λ row. Some row.node) up (suc i) r))) (seat_numbers c (Some a.node) 0)
    ∙ ap (λ l. map (λ (row : ShapeRow). row.node) (labels c) ++ l) (seat_numbers r up (suc i))
    ∙ sym (map-append (λ (row : ShapeRow). row.node) (labels c) (labels r)))

-- a node and those below it
pub subtree_numbers : (t : TreeShape) (n : ℕ) → IsLawful t → has (is_shape n) t.rows ≡ true
    → map (λ (row : ShapeRow). row.node) (labels (pick (is_shape n) t.rows)) ≡ n ∷ numbers_at (seats_below n t)
subtree_numbers t n lawful there =
    let some = count-has (is_shape n) t.rows there in
    let x = picked_one (is_shape n) t.rows (let l = lawful.once n in omega arith) in
    ap (λ (g : Forest ShapeRow). map (λ (row : ShapeRow). row.node) (labels g)) x.is
    ∙ ap (λ l. x.row.node ∷ map (λ (row : ShapeRow). row.node) l) (append-nil (labels (children_at (is_shape n) t.rows)))
    ∙ ap (λ m. m ∷ map (λ (row : ShapeRow). row.node) (labels (children_at (is_shape n) t.rows))) (eqb-true x.row.node n x.passes)
    ∙ ap (λ l. n ∷ l) (sym (seat_numbers (children_at (is_shape n) t.rows) (Some n) 0))

-- what is left to close makes of the nodes what is wanted
pub record IsClosing (left : List Seat) (now wanted : Nodes) : Type 0 where
  pub closes : without (numbers_at left) now ≡ wanted

pub closing_starts : (t : TreeShape) (n : ℕ) (old now : Nodes) (left : List Seat) → IsLawful t → has (is_shape n) t.rows ≡ true
    → without (n ∷ []) old ≡ now → left ≡ seats_below n t
    → IsClosing left now (without (map (λ (row : ShapeRow). row.node) (labels (pick (is_shape n) t.rows))) old)
closing_starts t n old now left lawful there e l = record {
  closes =
      ap (λ s. without (numbers_at s) now) l ∙ ap (without (numbers_at (seats_below n t))) (sym e)
      ∙ sym (ap (λ ns. without ns old) (subtree_numbers t n lawful there));
}

pub closing_goes_on : (seat : Seat) (left rest : List Seat) (now next wanted : Nodes) → left ≡ seat ∷ rest → without (seat.node ∷ []) now ≡ next
    → IsClosing left now wanted → IsClosing rest next wanted
closing_goes_on seat left rest now next wanted e s c = record {
  closes = ap (without (numbers_at rest)) (sym s) ∙ sym (ap (λ l. without (numbers_at l) now) e) ∙ c.closes;
}

pub closing_ends : (left : List Seat) (now wanted : Nodes) → left ≡ [] → IsClosing left now wanted → now ≡ wanted
closing_ends left now wanted e c = sym (ap (λ l. without (numbers_at l) now) e) ∙ c.closes
