-- A walk gives each node once, each before those below it.
use Rattle.std.proofs.Common.{◌≡◌, ℕ, zero, suc, ◌+◌, ◌<◌, ◌≤◌, Bool, true, false, cond, ◌==◌, List, [], ◌∷◌, ◌++◌, length, map, drop, Option, None, Some, refl, sym, ap, subst, ◌∙◌, arith, append_assoc}
use Rattle.std.specs.List.{flat_map, slice_get}
use Rattle.std.proofs.lemmas.Bool.{eq-eqb}
use Rattle.std.proofs.lemmas.List.{append-nil, map-append, length-append}
use Rattle.atspi_tree_model.specs.Forest.{Forest, nil, tree, count, has, seats, children_at, EachNode}
use Rattle.atspi_tree_model.specs.Row.{ShapeRow}
use Rattle.atspi_tree_model.specs.Tree.{is_shape}
use Rattle.atspi_tree_model.proofs.Found.{count-has, not_there}
use Rattle.atspi_tree.specs.TreeShape.{TreeShape, IsLawful, numbers, children_of}
use Rattle.atspi_tree.specs.declared.seats.Seat.{Seat}
use Rattle.atspi_tree.specs.Seats.{AreThere, IsWalk, child_seats, level_left, levels_left, seat_at, seats_below, seats_in, seats_of, walk_left, with_below}

-- looking a node up in a forest gives these children
record Known (f : Forest ShapeRow) (row : ShapeRow) (kids : Forest ShapeRow) : Type 0 where
  pub below : children_at (is_shape row.node) f ≡ kids
  pub there : has (is_shape row.node) f ≡ true

each_weaker : (P Q : ShapeRow → Forest ShapeRow → Type 0) → ((a : ShapeRow) (c : Forest ShapeRow) → P a c → Q a c) → (f : Forest ShapeRow) → EachNode P f → EachNode Q f
each_weaker P Q h nil e = tt
each_weaker P Q h (tree a c r) e = (h a c e.0, each_weaker P Q h c e.1, each_weaker P Q h r e.2)

itself : (n : ℕ) → (n == n) ≡ true
itself n = eq-eqb n n refl

known_top : (a : ShapeRow) (c r : Forest ShapeRow) → Known (tree a c r) a c
known_top a c r = record {
  below = ap (λ b. cond b c (cond (has (is_shape a.node) c) (children_at (is_shape a.node) c) (children_at (is_shape a.node) r))) (itself a.node);
  there = ap (λ b. cond b true (cond (has (is_shape a.node) c) true (has (is_shape a.node) r))) (itself a.node);
}

not_top : (b : Bool) (k l : ℕ) → 1 ≤ k + l → cond b 1 0 + (k + l) ≤ 1 → b ≡ false
not_top true k l m n = absurd (omega arith)
not_top false k l m n = refl

known_child : (a : ShapeRow) (c r : Forest ShapeRow) → ((n : ℕ) → count (is_shape n) (tree a c r) ≤ 1) → (row : ShapeRow) (kids : Forest ShapeRow) → Known c row kids → Known (tree a c r) row kids
known_child a c r once row kids k =
    let some = count-has (is_shape row.node) c k.there in
    let no : is_shape row.node a ≡ false = not_top (is_shape row.node a) (count (is_shape row.node) c) (count (is_shape row.node) r) (omega (arith, some)) (once row.node) in
    record {
      below =
          ap (λ b. cond b c (cond (has (is_shape row.node) c) (children_at (is_shape row.node) c) (children_at (is_shape row.node) r))) no
          ∙ ap (λ b. cond b (children_at (is_shape row.node) c) (children_at (is_shape row.node) r)) k.there ∙ k.below;
      there = ap (λ b. cond b true (cond (has (is_shape row.node) c) true (has (is_shape row.node) r))) no ∙ ap (λ b. cond b true (has (is_shape row.node) r)) k.there;
    }

known_rest : (a : ShapeRow) (c r : Forest ShapeRow) → ((n : ℕ) → count (is_shape n) (tree a c r) ≤ 1) → (row : ShapeRow) (kids : Forest ShapeRow) → Known r row kids → Known (tree a c r) row kids
known_rest a c r once row kids k =
    let some = count-has (is_shape row.node) r k.there in
    let few = once row.node in
    let no : is_shape row.node a ≡ false = not_top (is_shape row.node a) (count (is_shape row.node) c) (count (is_shape row.node) r) (omega (arith, some)) few in
    let none : count (is_shape row.node) c ≡ 0 = omega (arith, some, few) in
    let nowhere : has (is_shape row.node) c ≡ false = not_there (is_shape row.node) c none in
    record {
      below =
          ap (λ b. cond b c (cond (has (is_shape row.node) c) (children_at (is_shape row.node) c) (children_at (is_shape row.node) r))) no
          ∙ ap (λ b. cond b (children_at (is_shape row.node) c) (children_at (is_shape row.node) r)) nowhere ∙ k.below;
      there = ap (λ b. cond b true (cond (has (is_shape row.node) c) true (has (is_shape row.node) r))) no ∙ ap (λ b. cond b true (has (is_shape row.node) r)) nowhere ∙ k.there;
    }

each_known : (f : Forest ShapeRow) → ((n : ℕ) → count (is_shape n) f ≤ 1) → EachNode (Known f) f
each_known nil once = tt
each_known (tree a c r) once = (
  known_top a c r,
  each_weaker (Known c) (Known (tree a c r)) (known_child a c r once) c (each_known c (λ n. omega (arith, once n))),
  each_weaker (Known r) (Known (tree a c r)) (known_rest a c r once) r (each_known r (λ n. omega (arith, once n))),
)

each_below : (P : ShapeRow → Forest ShapeRow → Type 0) (p : ShapeRow → Bool) (f : Forest ShapeRow) → EachNode P f → EachNode P (children_at p f)
each_below P p nil e = tt
each_below P p (tree a c r) e = at (p a) (has p c) (each_below P p c e.1) (each_below P p r e.2)
  where
    at : (b d : Bool) → EachNode P (children_at p c) → EachNode P (children_at p r) → EachNode P (cond b c (cond d (children_at p c) (children_at p r)))
    at true d x y = e.1
    at false true x y = x
    at false false x y = y

kids_known : (t : TreeShape) (n : ℕ) → IsLawful t → EachNode (Known t.rows) (children_at (is_shape n) t.rows)
kids_known t n lawful = each_below (Known t.rows) (is_shape n) t.rows (each_known t.rows lawful.once)

-- the places in a forest are those at its top, each with what is below it
top_seats : (t : TreeShape) (up : Option ℕ) (i : ℕ) (g : Forest ShapeRow) → EachNode (Known t.rows) g
    → flat_map (with_below t) (child_seats up i (numbers g)) ≡ map seat_at (seats (λ row. Some row.node) up i g)
top_seats t up i nil k = refl
top_seats t up i (tree a c r) k =
    ap (λ l. record { node = a.node; parent = up; index = i } ∷ l)
    (ap (λ g. seats_of (Some a.node) g ++ flat_map (with_below t) (child_seats up (suc i) (numbers r))) k.0.below
    ∙ ap (λ l. seats_of (Some a.node) c ++ l) (top_seats t up (suc i) r k.2)
    ∙ sym (map-append seat_at (seats (λ row. Some row.node) (Some a.node) 0 c) (seats (λ row. Some row.node) up (suc i) r)))

-- a level that begins gives all that is below its node
pub level_whole : (t : TreeShape) (n : ℕ) → IsLawful t → level_left t (n, 0) ≡ seats_below n t
level_whole t n lawful = top_seats t (Some n) 0 (children_at (is_shape n) t.rows) (kids_known t n lawful)

-- the child that stands at an index is there
pub child_there : (t : TreeShape) (n i c : ℕ) → IsLawful t → slice_get (children_of n t) i ≡ Some c → has (is_shape c) t.rows ≡ true
child_there t n i c lawful e = at i (children_at (is_shape n) t.rows) (kids_known t n lawful) e
  where
    at : (i : ℕ) (g : Forest ShapeRow) → EachNode (Known t.rows) g → slice_get (numbers g) i ≡ Some c → has (is_shape c) t.rows ≡ true
    at i nil k e = absurd cc
    at zero (tree a b r) k e = let same : a.node ≡ c = cc in subst (λ m. has (is_shape m) t.rows ≡ true) same k.0.there
    at (suc i) (tree a b r) k e = at i r k.2 e

-- what is left of a list from an element on, and behind its end
drop_some : (i c : ℕ) (xs : List ℕ) → slice_get xs i ≡ Some c → drop i xs ≡ c ∷ drop (suc i) xs
drop_some i c [] e = absurd cc
drop_some zero c (x ∷ xs) e = let same : x ≡ c = cc in ap (λ y. y ∷ xs) same
drop_some (suc i) c (x ∷ xs) e = drop_some i c xs e

drop_none : (i : ℕ) (xs : List ℕ) → slice_get xs i ≡ None → drop i xs ≡ []
drop_none zero [] e = refl
drop_none (suc i) [] e = refl
drop_none zero (x ∷ xs) e = absurd cc
drop_none (suc i) (x ∷ xs) e = drop_none i xs e

get_below : (i c : ℕ) (xs : List ℕ) → slice_get xs i ≡ Some c → i < length xs
get_below i c [] e = absurd cc
get_below zero c (x ∷ xs) e = omega arith
get_below (suc i) c (x ∷ xs) e = let l = get_below i c xs e in omega arith

-- an index of a child is small
pub index_small : (t : TreeShape) (n i c : ℕ) → IsLawful t → slice_get (children_of n t) i ≡ Some c → i < 8192
index_small t n i c lawful e =
    let a = get_below i c (children_of n t) e in
    let b = tops_few (children_at (is_shape n) t.rows) in
    let d = below_few t.rows in
    let f = lawful.few in
    omega arith
  where
    tops_few : (g : Forest ShapeRow) → length (numbers g) ≤ count (λ row. true) g
    tops_few nil = omega arith
    tops_few (tree a c r) = let l = tops_few r in omega arith

    below_few : (f : Forest ShapeRow) → count (λ row. true) (children_at (is_shape n) f) ≤ count (λ row. true) f
    below_few nil = omega arith
    below_few (tree a c r) = at (is_shape n a) (has (is_shape n) c) (below_few c) (below_few r)
      where
        at : (b d : Bool) → count (λ row. true) (children_at (is_shape n) c) ≤ count (λ row. true) c → count (λ row. true) (children_at (is_shape n) r) ≤ count (λ row. true) r
            → count (λ row. true) (cond b c (cond d (children_at (is_shape n) c) (children_at (is_shape n) r))) ≤ 1 + (count (λ row. true) c + count (λ row. true) r)
        at true d x y = omega arith
        at false true x y = omega arith
        at false false x y = omega arith

-- a level without a child at its index is done
pub level_done : (t : TreeShape) (n i : ℕ) (levels rest : List (ℕ × ℕ)) → levels ≡ (n, i) ∷ rest → slice_get (children_of n t) i ≡ None → levels_left t rest ≡ levels_left t levels
level_done t n i levels rest is e =
    sym (ap (levels_left t) is ∙ ap (λ ns. flat_map (with_below t) (child_seats (Some n) i ns) ++ levels_left t rest) (drop_none i (children_of n t) e))

-- a level with a child gives it, and goes on with a level of its own for what is below
pub level_next : (t : TreeShape) (n i c : ℕ) (levels rest : List (ℕ × ℕ)) → IsLawful t → levels ≡ (n, i) ∷ rest → slice_get (children_of n t) i ≡ Some c
    → levels_left t levels ≡ record { node = c; parent = Some n; index = i } ∷ levels_left t ((c, 0) ∷ (n, suc i) ∷ rest)
level_next t n i c levels rest lawful is e =
    ap (levels_left t) is
    ∙ ap (λ ns. flat_map (with_below t) (child_seats (Some n) i ns) ++ levels_left t rest) (drop_some i c (children_of n t) e)
    ∙ ap (λ l. record { node = c; parent = Some n; index = i } ∷ l)
    (append_assoc (seats_below c t) (level_left t (n, suc i)) (levels_left t rest) ∙ ap (λ l. l ++ (level_left t (n, suc i) ++ levels_left t rest)) (sym (level_whole t c lawful)))

-- how far a step has come: the levels that are left are there, and give the same
pub record IsStepping (t : TreeShape) (first now : List (ℕ × ℕ)) : Type 0 where
  pub left : levels_left t now ≡ levels_left t first
  pub there : AreThere t now
  pub room : length now + length (levels_left t now) ≤ 8192

pub stepping_done : (t : TreeShape) (first now rest : List (ℕ × ℕ)) (n i : ℕ) → IsStepping t first now → now ≡ (n, i) ∷ rest → slice_get (children_of n t) i ≡ None → IsStepping t first rest
stepping_done t first now rest n i s is e =
    let same = level_done t n i now rest is e in
    let there : AreThere t ((n, i) ∷ rest) = subst (AreThere t) is s.there in
    record {
      left = same ∙ s.left;
      there = there.1;
      room = let a = ap length same in let b = ap length is in let l = s.room in omega arith;
    }

-- what a step gives, and the levels behind it
pub record Stepped (t : TreeShape) (first new : List (ℕ × ℕ)) (seat : Seat) : Type 0 where
  pub gives : levels_left t first ≡ seat ∷ levels_left t new
  pub there : AreThere t new
  pub room : length new + length (levels_left t new) ≤ 8192

pub stepped : (t : TreeShape) (first now rest new : List (ℕ × ℕ)) (n i c : ℕ) → IsLawful t → IsStepping t first now → now ≡ (n, i) ∷ rest → slice_get (children_of n t) i ≡ Some c
    → new ≡ (c, 0) ∷ (n, i + 1) ∷ rest → Stepped t first new (record { node = c; parent = Some n; index = i })
stepped t first now rest new n i c lawful s is e made =
    let there : AreThere t ((n, i) ∷ rest) = subst (AreThere t) is s.there in
    let one : i + 1 ≡ suc i = omega arith in
    let is_new : new ≡ (c, 0) ∷ (n, suc i) ∷ rest = made ∙ ap (λ k. (c, 0) ∷ (n, k) ∷ rest) one in
    let gives = level_next t n i c now rest lawful is e ∙ ap (λ l. record { node = c; parent = Some n; index = i } ∷ levels_left t l) (sym is_new) in
    record {
      gives = sym s.left ∙ gives;
      there = subst (AreThere t) (sym is_new) (child_there t n i c lawful e, (there.0, there.1));
      room = let a = ap length gives in let b = ap length is in let d = ap length is_new in let l = s.room in omega arith;
    }

-- there is room for the level of a child
pub stepping_room : (t : TreeShape) (first now rest : List (ℕ × ℕ)) (n i c : ℕ) → IsLawful t → IsStepping t first now → now ≡ (n, i) ∷ rest → slice_get (children_of n t) i ≡ Some c → length rest + 2 ≤ 8192
stepping_room t first now rest n i c lawful s is e =
    let gives = level_next t n i c now rest lawful is e in
    let a = ap length gives in
    let b = ap length is in
    let l = s.room in
    omega arith

-- there are as many places as nodes
seats_few : (up : Option ℕ) (i : ℕ) (g : Forest ShapeRow) → length (map seat_at (seats (λ row. Some row.node) up i g)) ≡ count (λ row. true) g
seats_few up i nil = refl
seats_few up i (tree a c r) =
    let x = ap length (map-append seat_at (seats (λ row. Some row.node) (Some a.node) 0 c) (seats (λ row. Some row.node) up (suc i) r)) in
    let y = length-append (map seat_at (seats (λ row. Some row.node) (Some a.node) 0 c)) (map seat_at (seats (λ row. Some row.node) up (suc i) r)) in
    let k = seats_few (Some a.node) 0 c in
    let l = seats_few up (suc i) r in
    omega arith

-- a node has fewer nodes below it than there are
below_less : (p : ShapeRow → Bool) (f : Forest ShapeRow) → has p f ≡ true → count (λ row. true) (children_at p f) + 1 ≤ count (λ row. true) f
below_less p nil e = absurd cc
below_less p (tree a c r) e = at (p a) (has p c) refl e (below_less p c) (below_less p r)
  where
    at : (b d : Bool) → has p c ≡ d → cond b true (cond d true (has p r)) ≡ true → (has p c ≡ true → count (λ row. true) (children_at p c) + 1 ≤ count (λ row. true) c)
        → (has p r ≡ true → count (λ row. true) (children_at p r) + 1 ≤ count (λ row. true) r)
        → count (λ row. true) (cond b c (cond d (children_at p c) (children_at p r))) + 1 ≤ 1 + (count (λ row. true) c + count (λ row. true) r)
    at true d y z x w = omega arith
    at false true y z x w = let l = x y in omega arith
    at false false y z x w = let l = w z in omega arith

-- a walk over all nodes begins at the root
pub walk_begins : (t : TreeShape) (root : Seat) → IsLawful t → root ≡ record { node = 0; parent = None; index = 0 } → (walk_left t (Some root) [] ≡ seats_in t) × IsWalk t (Some root) []
walk_begins t root lawful is = from lawful.rooted.0 lawful.rooted.1 lawful.rooted.2 lawful.rooted.3
  where
    from : (row : ShapeRow) (below : Forest ShapeRow) → row.node ≡ 0 → t.rows ≡ tree row below nil → (walk_left t (Some root) [] ≡ seats_in t) × IsWalk t (Some root) []
    from row below zero_is rows_are =
        let known = known_top row below nil in
        let kids : children_at (is_shape 0) t.rows ≡ below = ap (children_at (is_shape 0)) rows_are ∙ subst (λ k. children_at (is_shape k) (tree row below nil) ≡ below) zero_is known.below in
        let there : has (is_shape 0) t.rows ≡ true = ap (has (is_shape 0)) rows_are ∙ subst (λ k. has (is_shape k) (tree row below nil) ≡ true) zero_is known.there in
        let whole : walk_left t (Some root) [] ≡ seats_in t =
        append-nil (with_below t root)
        ∙ ap (with_below t) is
        ∙ ap (λ g. record { node = 0; parent = None; index = 0 } ∷ seats_of (Some 0) g) kids
        ∙ ap (λ k. record { node = k; parent = None; index = 0 } ∷ seats_of (Some k) below) (sym zero_is)
        ∙ ap (λ l. record { node = row.node; parent = None; index = 0 } ∷ map seat_at l) (sym (append-nil (seats (λ row. Some row.node) (Some row.node) 0 below)))
        ∙ ap (seats_of None) (sym rows_are) in (
          whole,
          record {
            first_there = ap (λ (s : Seat). has (is_shape s.node) t.rows) is ∙ there;
            there = tt;
            room = let a = ap length whole in let b = seats_few None 0 t.rows in let l = lawful.few in omega arith;
          },
        )

-- a walk below a node begins with its first level
pub walk_below : (t : TreeShape) (n : ℕ) (levels : List (ℕ × ℕ)) → IsLawful t → has (is_shape n) t.rows ≡ true → levels ≡ (n, 0) ∷ [] → (walk_left t None levels ≡ seats_below n t) × IsWalk t None levels
walk_below t n levels lawful there is =
    let whole : walk_left t None levels ≡ seats_below n t = ap (levels_left t) is ∙ append-nil (level_left t (n, 0)) ∙ level_whole t n lawful in (
      whole,
      record {
        first_there = tt;
        there = subst (AreThere t) (sym is) (there, tt);
        room =
            let a = ap length whole in
            let b = ap length is in
            let c = seats_few (Some n) 0 (children_at (is_shape n) t.rows) in
            let d = below_less (is_shape n) t.rows there in
            let l = lawful.few in
            omega arith;
      },
    )

-- the first place is given, and what is below it is left
pub first_given : (t : TreeShape) (seat : Seat) (levels new : List (ℕ × ℕ)) → IsLawful t → IsWalk t (Some seat) levels → new ≡ (seat.node, 0) ∷ levels
    → (walk_left t (Some seat) levels ≡ seat ∷ walk_left t None new) × IsWalk t None new
first_given t seat levels new lawful w is =
    let gives : walk_left t (Some seat) levels ≡ seat ∷ walk_left t None new =
    ap (λ l. seat ∷ (l ++ levels_left t levels)) (sym (level_whole t seat.node lawful)) ∙ ap (λ l. seat ∷ levels_left t l) (sym is) in (
      gives,
      record {
        first_there = tt;
        there = subst (AreThere t) (sym is) (w.first_there, w.there);
        room = let a = ap length gives in let b = ap length is in let l = w.room in omega arith;
      },
    )

-- the same for a first place that is taken out of its option
pub first_taken : (t : TreeShape) (first new_first : Option Seat) (seat : Seat) (levels new : List (ℕ × ℕ)) → IsLawful t → IsWalk t first levels → first ≡ Some seat → new_first ≡ None → new ≡ (seat.node, 0) ∷ levels
    → (walk_left t first levels ≡ seat ∷ walk_left t new_first new) × IsWalk t new_first new
first_taken t first new_first seat levels new lawful w is gone made =
    let x = first_given t seat levels new lawful (subst (λ f. IsWalk t f levels) is w) made in (
      ap (λ f. walk_left t f levels) is ∙ x.0 ∙ ap (λ f. seat ∷ walk_left t f new) (sym gone),
      subst (λ f. IsWalk t f new) (sym gone) x.1,
    )

-- where no first place is left, the levels are all that is left
pub none_left : (t : TreeShape) (first : Option Seat) (levels : List (ℕ × ℕ)) → first ≡ None → walk_left t first levels ≡ levels_left t levels
none_left t first levels is = ap (λ f. walk_left t f levels) is

pub walk_of_levels : (t : TreeShape) (first : Option Seat) (levels : List (ℕ × ℕ)) → first ≡ None → AreThere t levels → length levels + length (levels_left t levels) ≤ 8192 → IsWalk t first levels
walk_of_levels t first levels is there room =
    subst (λ f. IsWalk t f levels) (sym is) (record { first_there = tt; there = there; room = room })
