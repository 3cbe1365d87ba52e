-- The rectangles of a subtree go: those of its top, and of the nodes below it at their places.
use Rattle.std.proofs.Common.{◌≡◌, ℕ, suc, ◌==◌, Bool, true, false, cond, not, List, [], ◌∷◌, ◌++◌, Option, None, Some, refl, sym, ap, ◌∙◌, arith}
use Rattle.std.specs.Prelude.{map}
use Rattle.std.specs.Ordering.{nat_cmp, eq_by_cmp}
use Rattle.std.specs.Cmp.{nat_cmp_total, unsigned_tied}
use Rattle.std.specs.FinMap.{get, remove, get-remove, get-retain_keys, same_map, nat_cmp-IsAntisymmetric}
use Rattle.std.proofs.lemmas.Bool.{eqb-true, eq-eqb, ne_eqb}
use Rattle.std.proofs.lemmas.List.{map-append, append-nil}
use Rattle.atspi_tree_model.specs.Forest.{Forest, nil, tree, labels, has, pick, seats, children_at}
use Rattle.atspi_tree_model.specs.Edits.{is_among}
use Rattle.atspi_tree_model.specs.Row.{ShapeRow}
use Rattle.atspi_tree_model.specs.RowRules.{shapes}
use Rattle.atspi_tree_model.specs.Tree.{is_shape, in_subtree}
use Rattle.atspi_tree_model.proofs.Found.{count-has}
use Rattle.atspi_tree.specs.Seats.{seat_at, seats_below}
use Rattle.atspi_tree.specs.TreeShape.{TreeShape, IsLawful}
use Rattle.atspi_tree.specs.declared.seats.Seat.{Seat}
use Rattle.atspi_tree.proofs.Leaf.{picked_one}
use Rattle.atspi_hit.specs.Places.{Places, without_subtree}

abbrev pub numbers_at : List Seat → List ℕ
numbers_at seats = map (λ (s : Seat). s.node) seats

abbrev pub numbers_in : Forest ShapeRow → List ℕ
numbers_in g = map (λ (row : ShapeRow). row.node) (labels g)

-- without the rectangles of some nodes
abbrev pub without : List ℕ → Places → Places
without [] places = places
without (n ∷ ns) places = without ns (remove places n)

-- the numbers of a forest, at their places and as they are
seat_numbers : (g : Forest ShapeRow) (up : Option ℕ) (i : ℕ)
    → numbers_at (map seat_at (seats (λ row. Some row.node) up i g)) ≡ numbers_in g
seat_numbers nil up i = refl
seat_numbers (tree a c r) up i =
    ap (λ l. a.node ∷ l)
    (ap (map (λ (s : Seat). s.node)) (map-append seat_at (seats (λ row. Some row.node) (Some a.node) 0 c) (seats (λ row. Some row.node) up (suc i) r))
    ∙ map-append (λ (s : Seat). s.node) (map seat_at (seats (λ row. Some row.node) (Some a.node) 0 c)) (map seat_at (seats (λ row. Some row.node) up (suc i) r))
    ∙ ap (λ l. l ++ numbers_at (map seat_at (seats (λ row. Some row.node) up (suc i) r))) (seat_numbers c (Some a.node) 0)
    ∙ ap (λ l. numbers_in c ++ l) (seat_numbers r up (suc i))
    ∙ sym (map-append (λ (row : ShapeRow). row.node) (labels c) (labels r)))

-- a node and those below it
subtree_numbers : (t : TreeShape) (n : ℕ) → IsLawful t → has (is_shape n) t.rows ≡ true
    → numbers_in (pick (is_shape n) t.rows) ≡ n ∷ numbers_at (seats_below n t)
subtree_numbers t n lawful there =
    let some = count-has (is_shape n) t.rows there in
    let x = picked_one (is_shape n) t.rows (let l = lawful.once n in omega arith) in
    ap numbers_in x.is
    ∙ ap (λ l. x.row.node ∷ map (λ (row : ShapeRow). row.node) l) (append-nil (labels (children_at (is_shape n) t.rows)))
    ∙ ap (λ m. m ∷ numbers_in (children_at (is_shape n) t.rows)) (eqb-true x.row.node n x.passes)
    ∙ ap (λ l. n ∷ l) (sym (seat_numbers (children_at (is_shape n) t.rows) (Some n) 0))

-- a number is among those of a forest where a node has it
among_append : (m : ℕ) (xs ys : List ℕ) → is_among m (xs ++ ys) ≡ cond (is_among m xs) true (is_among m ys)
among_append m [] ys = refl
among_append m (x ∷ xs) ys = at (x == m) (among_append m xs ys)
  where
    at : (b : Bool) → is_among m (xs ++ ys) ≡ cond (is_among m xs) true (is_among m ys)
        → cond b true (is_among m (xs ++ ys)) ≡ cond (cond b true (is_among m xs)) true (is_among m ys)
    at true e = refl
    at false e = e

among_numbers : (m : ℕ) (g : Forest ShapeRow) → is_among m (numbers_in g) ≡ has (is_shape m) g
among_numbers m nil = refl
among_numbers m (tree a c r) =
    ap (cond (a.node == m) true)
    (ap (is_among m) (map-append (λ (row : ShapeRow). row.node) (labels c) (labels r))
    ∙ among_append m (numbers_in c) (numbers_in r)
    ∙ ap (λ b. cond b true (is_among m (numbers_in r))) (among_numbers m c)
    ∙ ap (cond (has (is_shape m) c) true) (among_numbers m r))

-- what is left where some nodes went
get_without : (ns : List ℕ) (places : Places) (q : ℕ) → get (without ns places) q ≡ cond (is_among q ns) None (get places q)
get_without [] places q = refl
get_without (n ∷ ns) places q =
    get_without ns (remove places n) q
    ∙ ap (cond (is_among q ns) None) (get-remove nat_cmp_total places n q)
    ∙ at (n == q) refl (is_among q ns)
  where
    tied : (q n : ℕ) → q ≡ n → eq_by_cmp nat_cmp q n ≡ true
    tied q n e = unsigned_tied q n ∙ eq-eqb q n e

    apart : (q n : ℕ) → (q ≡ n → ⊥) → eq_by_cmp nat_cmp q n ≡ false
    apart q n ne = unsigned_tied q n ∙ ne_eqb q n ne

    at : (b : Bool) → (n == q) ≡ b → (d : Bool)
        → cond d None (cond (eq_by_cmp nat_cmp q n) None (get places q)) ≡ cond (cond b true d) None (get places q)
    at true e true = refl
    at true e false = ap (λ c. cond c None (get places q)) (tied q n (sym (eqb-true n q e)))
    at false e true = refl
    at false e false = ap (λ c. cond c None (get places q)) (apart q n (λ s. let y = eq-eqb n q (sym s) in cc))

pub without_is : (t : TreeShape) (n : ℕ) (places : Places) → IsLawful t → has (is_shape n) t.rows ≡ true
    → without (n ∷ numbers_at (seats_below n t)) places ≡ without_subtree t n places
without_is t n places lawful there = same_map nat_cmp_total nat_cmp-IsAntisymmetric _ _ (λ q.
    get_without (n ∷ numbers_at (seats_below n t)) places q
    ∙ ap (λ b. cond b None (get places q))
    (ap (is_among q) (sym (subtree_numbers t n lawful there)) ∙ among_numbers q (pick (is_shape n) t.rows))
    ∙ turned (in_subtree shapes n t.rows q) (get places q)
    ∙ sym (get-retain_keys places (λ m. not (in_subtree shapes n t.rows m)) q
    (λ x tie. ap (λ m. not (in_subtree shapes n t.rows m)) (sym (nat_cmp-IsAntisymmetric q x tie)))))
  where
    turned : {A : Type 0} (b : Bool) (x : Option A) → cond b None x ≡ cond (not b) x None
    turned true x = refl
    turned false x = refl

-- what is left to drop makes of the places what is wanted
pub record IsDropping (left : List Seat) (now wanted : Places) : Type 0 where
  pub drops : without (numbers_at left) now ≡ wanted

pub dropping_starts : (t : TreeShape) (n : ℕ) (old now : Places) (left : List Seat) → IsLawful t
    → has (is_shape n) t.rows ≡ true → now ≡ remove old n → left ≡ seats_below n t
    → IsDropping left now (without_subtree t n old)
dropping_starts t n old now left lawful there e l = record {
  drops =
      ap (λ s. without (numbers_at s) now) l ∙ ap (without (numbers_at (seats_below n t))) e
      ∙ without_is t n old lawful there;
}

pub dropping_goes_on : (seat : Seat) (left rest : List Seat) (now next wanted : Places) → left ≡ seat ∷ rest
    → next ≡ remove now seat.node → IsDropping left now wanted → IsDropping rest next wanted
dropping_goes_on seat left rest now next wanted e s c = record {
  drops = ap (without (numbers_at rest)) s ∙ sym (ap (λ l. without (numbers_at l) now) e) ∙ c.drops;
}

pub dropping_ends : (left : List Seat) (now wanted : Places) → left ≡ [] → IsDropping left now wanted → now ≡ wanted
dropping_ends left now wanted e c = sym (ap (λ l. without (numbers_at l) now) e) ∙ c.drops
