-- The steps of a walk in preorder: down to the first child, on to the next sibling, up to the parent.
use Rattle.std.proofs.Common.{◌≡◌, ℕ, zero, suc, ◌+◌, ◌<◌, ◌≤◌, ◌==◌, Bool, true, false, cond, Option, Some, None, List, [], ◌∷◌, ◌++◌, length, drop, map, refl, sym, ap, ◌∙◌, subst, arith, append_assoc}
use Rattle.std.specs.Prelude.{◌-◌, slice_get, nat_le}
use Rattle.std.specs.Option.{option_map, option_to_list}
use Rattle.std.proofs.lemmas.List.{append-nil, map-append}
use Rattle.std.proofs.lemmas.Bool.{eq-eqb, eqb-false, eqb-true, le-leb}
use Rattle.slab.specs.Slab.{Slab, get}
use Rattle.atspi_tree_model.specs.declared.view.Row.{Row}
use Rattle.atspi_tree_model.specs.Forest.{Forest, nil, tree, count, relabel, grow, seats}
use Rattle.atspi_cache_arena.specs.Keys.{HoldsBelow, Kept, Node, is_key, keys}
use Rattle.atspi_cache_arena.specs.Arena.{IsArena, children_or, row_or, rows_of}
use Rattle.atspi_cache_arena.specs.Sights.{Sight, sight, sights}
use Rattle.atspi_cache_arena.specs.Table.{is_this, kept, look_in, parent_in, times}
use Rattle.atspi_cache_arena.specs.Walk.{AreLater, At, EndsAt, Frame, IsAtIndex, IsNext, IsWalk, IsWay, NoneTwice, Seat, Stands, all_seats, behind, child_at, depth, first_place, from_key, from_place, key_seats, kids, left_of, path_in, path_under, seated, sight_of, sights_left, up_of}
use Rattle.atspi_cache_arena.specs.declared.cell.Cell.{Cell}
use Rattle.atspi_cache_arena.specs.declared.paths.Paths.{Paths}
use Rattle.atspi_cache_arena.specs.declared.rows.Place.{Place}
use Rattle.atspi_cache_arena.proofs.Shown.{rows, seen}
use Rattle.atspi_cache_arena.proofs.Sits.{one_place, times_keys}
use Rattle.atspi_cache_arena.proofs.Walk.{slots_are_enough}

drop_get : (l : List ℕ) (i k : ℕ) (r : List ℕ) → k ∷ r ≡ drop i l → slice_get l i ≡ Some k
drop_get [] zero k r e = cc
drop_get [] (suc i) k r e = cc
drop_get (x ∷ l) zero k r e = cc
drop_get (x ∷ l) (suc i) k r e = drop_get l i k r e

drop_none : (l : List ℕ) (i : ℕ) → [] ≡ drop i l → slice_get l i ≡ None
drop_none [] zero e = refl
drop_none [] (suc i) e = refl
drop_none (x ∷ l) zero e = cc
drop_none (x ∷ l) (suc i) e = drop_none l i e

drop_next : (l : List ℕ) (i k : ℕ) (r : List ℕ) → k ∷ r ≡ drop i l → r ≡ drop (suc i) l
drop_next [] zero k r e = cc
drop_next [] (suc i) k r e = cc
drop_next (x ∷ l) zero k r e = cc
drop_next (x ∷ l) (suc i) k r e = drop_next l i k r e

abbrev place_at : ℕ → ℕ → Place
place_at i k = record { key = k; index = i }

place_is : (i k : ℕ) (l : List ℕ) (q : Place) → slice_get l i ≡ Some k → child_at i l ≡ Some q → (k ≡ q.key) × (i ≡ q.index)
place_is i k l q e f =
    let g : Some (place_at i k) ≡ Some q = sym (ap (option_map (place_at i)) e) ∙ f in
    let h : place_at i k ≡ q = cc in
    (ap (λ (p : Place). p.key) h, ap (λ (p : Place). p.index) h)

no_place : (i : ℕ) (l : List ℕ) (q : Place) → slice_get l i ≡ None → child_at i l ≡ Some q → ⊥
no_place i l q e f =
    let g : None ≡ Some q = sym (ap (option_map (place_at i)) e) ∙ f in absurd cc

some_place : (i k : ℕ) (l : List ℕ) → slice_get l i ≡ Some k → child_at i l ≡ None → ⊥
some_place i k l e f =
    let g : Some (place_at i k) ≡ None = sym (ap (option_map (place_at i)) e) ∙ f in absurd cc

module _ (look : ℕ → Option (Kept Row)) (most : ℕ) where
  -- what the children of the place are
  kids_are : (p : Place) (rest : List Seat) (a : At look most p rest) → kids look p.key ≡ keys a.below
  kids_are p rest a = ap (λ k. children_or (look k)) (sym a.ends.0) ∙ ap children_or a.kept

  -- what is left behind the place
  abbrev tail_of : (p : Place) (rest : List Seat) → At look most p rest → List Seat
  tail_of p rest a = key_seats (Some a.last.node.key) 0 a.below ++ left_of (a.last ∷ a.before)

  -- down to the first child
  down_at : (q : Place) (f : Frame) (fs : List Frame) (g : Forest (Node Row)) → IsWay look most (f ∷ fs)
      → kids look f.node.key ≡ keys g → HoldsBelow look (Some f.node.key) g → ((k : ℕ) → count (is_key k) g ≤ 1)
      → suc (length fs) + count (λ n. true) g ≤ most → child_at 0 (keys g) ≡ Some q
      → At look most q (key_seats (Some f.node.key) 0 g ++ left_of (f ∷ fs))
  down_at q f fs nil w ks h once few e = cc
  down_at q f fs (tree n c r) w ks h once few e =
      let is = place_is 0 n.key (keys (tree n c r)) q refl e in
      record {
        last = record { node = n; index = 0; later = r };
        before = f ∷ fs;
        below = c;
        ends = is;
        way = (
          record {
            parent = ap parent_in h.0;
            place = ap (λ l. slice_get l 0) ks;
            apart = λ m. let t = times_keys m (tree n c r) in let o = once m in let s = ap (times m) ks in omega arith;
            later = sym (ap (drop 1) ks);
            held = h.2;
            once = λ k. let o = once k in omega arith;
            few = omega arith;
          },
          w,
        );
        kept = h.0;
        held = h.1;
        once = λ k. let o = once k in omega arith;
        few = omega arith;
        spelled = ap (λ l. (Some f.node.key, 0, n.key) ∷ l) (append_assoc (key_seats (Some n.key) 0 c) (key_seats (Some f.node.key) 1 r) (left_of (f ∷ fs)));
      }

  pub down : (p q : Place) (rest : List Seat) → At look most p rest → child_at 0 (kids look p.key) ≡ Some q → At look most q (behind rest)
  down p q rest a e =
      subst (At look most q) (sym (ap behind a.spelled))
      (down_at q a.last a.before a.below a.way (ap children_or a.kept) a.held a.once a.few (sym (ap (child_at 0) (kids_are p rest a)) ∙ e))

  leaf : (up : Option ℕ) (g : Forest (Node Row)) (l : List Seat) → child_at 0 (keys g) ≡ None → key_seats up 0 g ++ l ≡ l
  leaf up nil l e = refl
  leaf up (tree n c r) l e = cc

  -- where there is no child, what comes behind the way is left
  pub no_child : (p : Place) (rest : List Seat) (a : At look most p rest) → child_at 0 (kids look p.key) ≡ None → behind rest ≡ left_of (a.last ∷ a.before)
  no_child p rest a e = ap behind a.spelled ∙ leaf (Some a.last.node.key) a.below (left_of (a.last ∷ a.before)) (sym (ap (child_at 0) (kids_are p rest a)) ∙ e)

  -- on to the next sibling
  on_at : (q : Place) (f g : Frame) (fs : List Frame) (h : Forest (Node Row)) → f.later ≡ h → IsWay look most (f ∷ g ∷ fs)
      → child_at (suc f.index) (kids look g.node.key) ≡ Some q → At look most q (key_seats (Some g.node.key) (suc f.index) h ++ left_of (g ∷ fs))
  on_at q f g fs nil z w e = absurd (no_place (suc f.index) (kids look g.node.key) q (drop_none (kids look g.node.key) (suc f.index) (ap keys (sym z) ∙ w.0.later)) e)
  on_at q f g fs (tree n c r) z w e =
      let from : n.key ∷ keys r ≡ drop (suc f.index) (kids look g.node.key) = ap keys (sym z) ∙ w.0.later in
      let there = drop_get (kids look g.node.key) (suc f.index) n.key (keys r) from in
      let held : HoldsBelow look (Some g.node.key) (tree n c r) = subst (HoldsBelow look (Some g.node.key)) z w.0.held in
      let once : (k : ℕ) → count (is_key k) (tree n c r) ≤ 1 = subst (λ (x : Forest (Node Row)). (k : ℕ) → count (is_key k) x ≤ 1) z w.0.once in
      let few : suc (length (g ∷ fs)) + count (λ n. true) (tree n c r) ≤ most = subst (λ (x : Forest (Node Row)). suc (length (g ∷ fs)) + count (λ n. true) x ≤ most) z w.0.few in
      record {
        last = record { node = n; index = suc f.index; later = r };
        before = g ∷ fs;
        below = c;
        ends = place_is (suc f.index) n.key (kids look g.node.key) q there e;
        way = (
          record {
            parent = ap parent_in held.0;
            place = there;
            apart = w.0.apart;
            later = drop_next (kids look g.node.key) (suc f.index) n.key (keys r) from;
            held = held.2;
            once = λ k. let o = once k in omega arith;
            few = omega arith;
          },
          w.1,
        );
        kept = held.0;
        held = held.1;
        once = λ k. let o = once k in omega arith;
        few = omega arith;
        spelled = ap (λ l. (Some g.node.key, suc f.index, n.key) ∷ l) (append_assoc (key_seats (Some n.key) 0 c) (key_seats (Some g.node.key) (suc (suc f.index)) r) (left_of (g ∷ fs)));
      }

  -- the parent that the table has is the last but one on the way
  parent_is : (p : Place) (k : ℕ) (f : Frame) (fs : List Frame) → IsWay look most (f ∷ fs) → EndsAt p (f ∷ fs) → parent_in (look p.key) ≡ Some k → up_of fs ≡ Some k
  parent_is p k f fs w e h = sym w.0.parent ∙ ap (λ k. parent_in (look k)) e.0 ∙ h

  pub on : (p q : Place) (k : ℕ) (fs : List Frame) → IsWay look most fs → EndsAt p fs → parent_in (look p.key) ≡ Some k
      → child_at (suc p.index) (kids look k) ≡ Some q → At look most q (left_of fs)
  on p q k [] w e h s = absurd e
  on p q k (f ∷ []) w e h s = let z = parent_is p k f [] w e h in absurd cc
  on p q k (f ∷ g ∷ fs) w e h s =
      let z = parent_is p k f (g ∷ fs) w e h in
      let same : g.node.key ≡ k = cc in
      on_at q f g fs f.later refl w (ap (λ i. child_at (suc i) (kids look g.node.key)) e.1 ∙ ap (λ k. child_at (suc p.index) (kids look k)) same ∙ s)

  -- at the root nothing is left
  pub at_root : (p : Place) (fs : List Frame) → IsWay look most fs → EndsAt p fs → parent_in (look p.key) ≡ None → left_of fs ≡ []
  at_root p [] w e h = refl
  at_root p (f ∷ []) w e h = ap (λ g. key_seats None (suc f.index) g ++ []) w.0.later
  at_root p (f ∷ g ∷ fs) w e h = let z : Some g.node.key ≡ None = sym w.0.parent ∙ ap (λ k. parent_in (look k)) e.0 ∙ h in absurd cc

  same_index : (up : Option ℕ) (i j k : ℕ) → NoneTwice look up → IsAtIndex look up i k → IsAtIndex look up j k → i ≡ j
  same_index None i j k o e f = e ∙ sym f
  same_index (Some p) i j k o e f = one_place (kids look p) i j k e f (o k)

  nothing_later : (f g : Frame) (fs : List Frame) (h : Forest (Node Row)) → f.later ≡ h → IsWay look most (f ∷ g ∷ fs)
      → child_at (suc f.index) (kids look g.node.key) ≡ None → left_of (f ∷ g ∷ fs) ≡ left_of (g ∷ fs)
  nothing_later f g fs nil z w e = ap (λ x. key_seats (Some g.node.key) (suc f.index) x ++ left_of (g ∷ fs)) z
  nothing_later f g fs (tree n c r) z w e =
      absurd (some_place (suc f.index) n.key (kids look g.node.key) (drop_get (kids look g.node.key) (suc f.index) n.key (keys r) (ap keys (sym z) ∙ w.0.later)) e)

  -- a way that leaves the same
  pub record Climbed (p : Place) (left : List Seat) : Type 0 where
    pub way : List Frame
    pub is_way : IsWay look most way
    pub ends : EndsAt p way
    pub left_is : left_of way ≡ left

  -- up to the parent, where there is no next sibling
  pub rise : (p q : Place) (left : List Seat) → Climbed p left → parent_in (look p.key) ≡ Some q.key → child_at (suc p.index) (kids look q.key) ≡ None
      → ((i : ℕ) → IsAtIndex look (parent_in (look q.key)) i q.key → IsAtIndex look (parent_in (look q.key)) q.index q.key) → Climbed q left
  rise p q left c h s found = at c.way c.is_way c.ends c.left_is
    where
      at : (fs : List Frame) → IsWay look most fs → EndsAt p fs → left_of fs ≡ left → Climbed q left
      at [] w e l = absurd e
      at (f ∷ []) w e l = let z = parent_is p q.key f [] w e h in absurd cc
      at (f ∷ g ∷ fs) w e l =
          let z = parent_is p q.key f (g ∷ fs) w e h in
          let same : g.node.key ≡ q.key = cc in
          let none = ap (λ i. child_at (suc i) (kids look g.node.key)) e.1 ∙ ap (λ k. child_at (suc p.index) (kids look k)) same ∙ s in
          let above : parent_in (look q.key) ≡ up_of fs = ap (λ k. parent_in (look k)) (sym same) ∙ w.1.0.parent in
          let here : IsAtIndex look (up_of fs) g.index q.key = subst (IsAtIndex look (up_of fs) g.index) same w.1.0.place in
          let is = subst (λ u. IsAtIndex look u q.index q.key) above (found g.index (subst (λ u. IsAtIndex look u g.index q.key) (sym above) here)) in
          record {
            way = g ∷ fs;
            is_way = w.1;
            ends = (same, same_index (up_of fs) g.index q.index q.key w.1.0.apart here is);
            left_is = sym (nothing_later f g fs f.later refl w none) ∙ l;
          }

  depth_is : (fs : List Frame) → IsWay look most fs → (n : ℕ) → length fs ≤ n → depth n look (up_of fs) ≡ length fs
  depth_is [] w zero l = refl
  depth_is [] w (suc n) l = refl
  depth_is (f ∷ fs) w zero l = absurd (omega arith)
  depth_is (f ∷ fs) w (suc n) l = ap suc (ap (depth n look) w.0.parent ∙ depth_is fs w.1 n (omega arith))

  way_short : (fs : List Frame) → IsWay look most fs → length fs ≤ most
  way_short [] w = omega arith
  way_short (f ∷ fs) w = let l = w.0.few in omega arith

  -- and then there are fewer above
  pub shallower : (p : Place) (k : ℕ) (fs : List Frame) → IsWay look most fs → EndsAt p fs → parent_in (look p.key) ≡ Some k
      → depth most look (Some k) < depth most look (Some p.key)
  shallower p k [] w e h = absurd e
  shallower p k (f ∷ []) w e h = let z = parent_is p k f [] w e h in absurd cc
  shallower p k (f ∷ g ∷ fs) w e h =
      let z = parent_is p k f (g ∷ fs) w e h in
      let a : depth most look (Some p.key) ≡ suc (suc (length fs)) = ap (λ k. depth most look (Some k)) (sym e.0) ∙ depth_is (f ∷ g ∷ fs) w most (way_short (f ∷ g ∷ fs) w) in
      let b : depth most look (Some k) ≡ suc (length fs) = ap (depth most look) (sym z) ∙ depth_is (g ∷ fs) w.1 most (way_short (g ∷ fs) w.1) in
      omega arith

  -- what is shown of a forest that the table holds
  pub shows : (up : Option ℕ) (name : Option (List ℕ)) (i : ℕ) (f : Forest (Node Row)) → path_under look up ≡ name → HoldsBelow look up f
      → map (sight_of look) (key_seats up i f) ≡ map sight (seats (λ (row : Row). Some row.path) name i (rows f))
  shows up name i nil e h = refl
  shows up name i (tree n c r) e h =
      let here : sight_of look (up, i, n.key) ≡ sight (name, i, n.row) = ap (λ u. sight (u, i, row_or (look n.key))) e ∙ ap (λ k. sight (name, i, row_or k)) h.0 in
      ap (λ s. s ∷ map (sight_of look) (key_seats (Some n.key) 0 c ++ key_seats up (suc i) r)) here
      ∙ ap (λ l. sight (name, i, n.row) ∷ l)
      (map-append (sight_of look) (key_seats (Some n.key) 0 c) (key_seats up (suc i) r)
      ∙ ap (λ l. l ++ map (sight_of look) (key_seats up (suc i) r)) (shows (Some n.key) (Some n.row.path) 0 c (ap path_in h.0) h.1)
      ∙ ap (λ l. map sight (seats (λ (row : Row). Some row.path) (Some n.row.path) 0 (rows c)) ++ l) (shows up name (suc i) r e h.2)
      ∙ sym (map-append sight (seats (λ (row : Row). Some row.path) (Some n.row.path) 0 (rows c)) (seats (λ (row : Row). Some row.path) name (suc i) (rows r))))

seated-append : (k : ℕ) (xs ys : List Seat) → seated k (xs ++ ys) ≡ seated k xs + seated k ys
seated-append k [] ys = omega arith
seated-append k (x ∷ xs) ys = omega (arith, seated-append k xs ys)

-- each key has as many places as nodes
pub seated_is : (k : ℕ) (up : Option ℕ) (i : ℕ) (f : Forest (Node Row)) → seated k (key_seats up i f) ≡ count (is_key k) f
seated_is k up i nil = refl
seated_is k up i (tree n c r) =
    omega (arith, seated-append k (key_seats (Some n.key) 0 c) (key_seats up (suc i) r), seated_is k (Some n.key) 0 c, seated_is k up (suc i) r)

from_first : (x : Seat) (xs : List Seat) (k : ℕ) → x.2 ≡ k → from_key k (x ∷ xs) ≡ x ∷ xs
from_first x xs k e = ap (λ b. cond b (x ∷ xs) (from_key k xs)) (eq-eqb x.2 k e)

-- what is done has no place of a key that is left
passes_done : (done : List Seat) (x : Seat) (xs : List Seat) (k : ℕ) → x.2 ≡ k → seated k (done ++ x ∷ xs) ≤ 1 → from_key k (done ++ x ∷ xs) ≡ x ∷ xs
passes_done [] x xs k e l = from_first x xs k e
passes_done (y ∷ done) x xs k e l = at (y.2 == k) refl (passes_done done x xs k e)
  where
    one : 1 ≤ seated k (done ++ x ∷ xs)
    one =
        let z : cond {A = ℕ} (x.2 == k) 1 0 ≡ 1 = ap (λ b. cond {A = ℕ} b 1 0) (eq-eqb x.2 k e) in
        let s = seated-append k done (x ∷ xs) in omega arith

    at : (b : Bool) → (y.2 == k) ≡ b → (seated k (done ++ x ∷ xs) ≤ 1 → from_key k (done ++ x ∷ xs) ≡ x ∷ xs)
        → cond b (y ∷ (done ++ x ∷ xs)) (from_key k (done ++ x ∷ xs)) ≡ x ∷ xs
    at true f rest = let z : cond {A = ℕ} (y.2 == k) 1 0 ≡ 1 = ap (λ b. cond {A = ℕ} b 1 0) f in let o = one in absurd (omega arith)
    at false f rest = rest (omega arith)

-- what is left from the next place on is what the walk still owes
pub left_is : (s : Slab Cell) (root : Option ℕ) (next : Option Place) (w : IsWalk s root next) → from_place next (all_seats s root) ≡ w.rest
left_is s root None w = sym w.is_next
left_is s root (Some p) w =
    let a = w.is_next in
    let all = w.spelled ∙ ap (λ l. w.done ++ l) a.spelled in
    ap (from_key p.key) all ∙ passes_done w.done _ _ p.key a.ends.0 (subst (λ l. seated p.key l ≤ 1) all (w.once p.key)) ∙ sym a.spelled

-- a table that holds a forest grows its keys
keys_grown : (look : ℕ → Option (Kept Row)) (n : ℕ) (up : Option ℕ) (f : Forest (Node Row)) → count (λ a. true) f ≤ n → HoldsBelow look up f
    → grow n (λ k. children_or (look k)) (keys f) ≡ relabel (λ (n : Node Row). n.key) f
keys_grown look zero up nil l h = refl
keys_grown look (suc n) up nil l h = refl
keys_grown look zero up (tree a c r) l h = absurd (omega arith)
keys_grown look (suc n) up (tree a c r) l h =
    rw (ap children_or h.0, keys_grown look n (Some a.key) c (omega arith) h.1) (ap (tree a.key (relabel (λ (n : Node Row). n.key) c)) (keys_grown look (suc n) up r (omega arith) h.2))

pub all_are : (s : Slab Cell) (paths : Paths) (c : IsArena s paths) → all_seats s paths.root ≡ key_seats None 0 c.forest
all_are s paths c =
    ap (λ l. seats (λ (k : ℕ). Some k) None 0 (grow (length s.slots) (λ k. children_or (look_in s k)) l)) (sym c.indexed.root)
    ∙ ap (seats (λ (k : ℕ). Some k) None 0) (keys_grown (look_in s) (length s.slots) None c.forest (slots_are_enough s c.forest c.held) c.held.nodes)

pub begins : (look : ℕ → Option (Kept Row)) (most : ℕ) (root : Option ℕ) (f : Forest (Node Row)) → keys f ≡ option_to_list root → HoldsBelow look None f
    → ((k : ℕ) → count (is_key k) f ≤ 1) → count (λ n. true) f ≤ most → IsNext look most (first_place root) (key_seats None 0 f)
begins look most None nil e h once few = refl
begins look most (Some k) nil e h once few = cc
begins look most None (tree n c r) e h once few = cc
begins look most (Some k) (tree n c (tree m d s)) e h once few = cc
begins look most (Some k) (tree n c nil) e h once few =
    let is : n.key ≡ k = cc in
    record {
      last = record { node = n; index = 0; later = nil };
      before = [];
      below = c;
      ends = (is, refl);
      way = (
        record {
          parent = ap parent_in h.0;
          place = refl;
          apart = tt;
          later = refl;
          held = tt;
          once = λ k. omega arith;
          few = omega arith;
        },
        tt,
      );
      kept = h.0;
      held = h.1;
      once = λ k. let o = once k in omega arith;
      few = omega arith;
      spelled = refl;
    }

-- a walk over an arena begins at its root
abbrev pub walk_begins : (s : Slab Cell) (paths : Paths) → IsArena s paths → IsWalk s paths.root (first_place paths.root)
walk_begins s paths c = record {
  done = [];
  rest = key_seats None 0 c.forest;
  spelled = all_are s paths c;
  once = λ k. subst (λ l. seated k l ≤ 1) (sym (all_are s paths c)) (subst (λ n. n ≤ 1) (sym (seated_is k None 0 c.forest)) (c.held.once k));
  is_next = begins (look_in s) (length s.slots) paths.root c.forest c.indexed.root c.held.nodes c.held.once (slots_are_enough s c.forest c.held);
}

-- and shows all rows
pub all_shown : (s : Slab Cell) (paths : Paths) → IsArena s paths → sights_left s paths.root (first_place paths.root) ≡ sights (rows_of s paths)
all_shown s paths c =
    let w = walk_begins s paths c in
    ap (map (sight_of (look_in s))) (left_is s paths.root (first_place paths.root) w)
    ∙ shows (look_in s) (length s.slots) None None 0 c.forest refl c.held.nodes ∙ ap sights (sym (seen s paths c))

pub with_behind : (x : Seat) (xs rest : List Seat) → rest ≡ x ∷ xs → rest ≡ x ∷ behind rest
with_behind x xs rest e = e ∙ ap (λ l. x ∷ l) (sym (ap behind e))

-- a walk goes on behind a place
abbrev pub walk_goes_on : (s : Slab Cell) (root : Option ℕ) (p : Place) (next : Option Place) (w : IsWalk s root (Some p))
    → IsNext (look_in s) (length s.slots) next (behind w.rest) → IsWalk s root next
walk_goes_on s root p next w n = record {
  done = w.done ++ (up_of w.is_next.before, w.is_next.last.index, w.is_next.last.node.key) ∷ [];
  rest = behind w.rest;
  spelled =
      w.spelled ∙ ap (λ l. w.done ++ l) (with_behind _ _ w.rest w.is_next.spelled)
      ∙ sym (append_assoc w.done ((up_of w.is_next.before, w.is_next.last.index, w.is_next.last.node.key) ∷ []) (behind w.rest));
  once = w.once;
  is_next = n;
}

-- the sight of the place is the first of those that were left, and the others are left
pub walk_steps : (s : Slab Cell) (root : Option ℕ) (p : Place) (next : Option Place) (w : IsWalk s root (Some p))
    → IsNext (look_in s) (length s.slots) next (behind w.rest)
    → sights_left s root (Some p) ≡ sight_of (look_in s) (up_of w.is_next.before, w.is_next.last.index, w.is_next.last.node.key) ∷ sights_left s root next
walk_steps s root p next w n =
    ap (map (sight_of (look_in s))) (left_is s root (Some p) w ∙ with_behind _ _ w.rest w.is_next.spelled)
    ∙ ap (λ l. sight_of (look_in s) (up_of w.is_next.before, w.is_next.last.index, w.is_next.last.node.key) ∷ l)
    (sym (ap (map (sight_of (look_in s))) (left_is s root next (walk_goes_on s root p next w n))))

-- it is read from the cell
pub read_there : (s : Slab Cell) (most : ℕ) (p : Place) (cell : Cell) (rest : List Seat) (a : At (look_in s) most p rest) → Some cell ≡ get s p.key
    → sight_of (look_in s) (up_of a.before, a.last.index, a.last.node.key) ≡ sight (path_under (look_in s) cell.parent, p.index, cell.row)
read_there s most p cell rest a e =
    let look = look_in s in
    let here : look p.key ≡ Some (kept cell) = ap (option_map kept) (sym e) in
    let up = sym a.way.0.parent ∙ ap (λ k. parent_in (look k)) a.ends.0 ∙ ap parent_in here in
    let row = ap (λ k. row_or (look k)) a.ends.0 ∙ ap row_or here in
    ap (λ u. sight (path_under look u, a.last.index, row_or (look a.last.node.key))) up
    ∙ ap (λ i. sight (path_under look cell.parent, i, row_or (look a.last.node.key))) a.ends.1
    ∙ ap (λ r. sight (path_under look cell.parent, p.index, r)) row

-- no key stands nearer to an index than so many places
abbrev pub NoneNear : List ℕ → ℕ → ℕ → ℕ → Type 0
NoneNear xs key near places = (j : ℕ) → slice_get xs j ≡ Some key → near < j + places → j < near + places → ⊥

this_is : (k : ℕ) (o : Option ℕ) → is_this k o ≡ true → o ≡ Some k
this_is k None e = cc
this_is k (Some x) e = ap Some (eqb-true x k e)

is_this-self : (k : ℕ) (o : Option ℕ) → o ≡ Some k → is_this k o ≡ true
is_this-self k o e = ap (is_this k) e ∙ eq-eqb k k refl

-- a key that is found at an index is there
pub found_at : (xs : List ℕ) (i key : ℕ) → is_this key (slice_get xs i) ≡ true → slice_get xs i ≡ Some key
found_at xs i key e = this_is key (slice_get xs i) e

pub found_before : (xs : List ℕ) (near places key : ℕ) → cond (nat_le places near) (is_this key (slice_get xs (near - places))) false ≡ true
    → slice_get xs (near - places) ≡ Some key
found_before xs near places key e = at (nat_le places near) e
  where
    at : (b : Bool) → cond b (is_this key (slice_get xs (near - places))) false ≡ true → slice_get xs (near - places) ≡ Some key
    at true e = this_is key (slice_get xs (near - places)) e
    at false e = cc

-- one place farther on
pub none_nearer : (xs : List ℕ) (near places key : ℕ) → NoneNear xs key near places → is_this key (slice_get xs (near + places)) ≡ false
    → cond (nat_le places near) (is_this key (slice_get xs (near - places))) false ≡ false → NoneNear xs key near (places + 1)
none_nearer xs near places key none behind before j e l m = at (j == near + places) refl (j + places == near) refl
  where
    at : (a : Bool) → (j == near + places) ≡ a → (b : Bool) → (j + places == near) ≡ b → ⊥
    at true f b g =
        let z = is_this-self key (slice_get xs (near + places)) (ap (slice_get xs) (sym (eqb-true j (near + places) f)) ∙ e) in cc
    at false f true g =
        let same : j + places ≡ near = eqb-true (j + places) near g in
        let le : places ≤ near = omega arith in
        let is : near - places ≡ j = omega arith in
        let z = is_this-self key (slice_get xs (near - places)) (ap (slice_get xs) is ∙ e) in
        let y : is_this key (slice_get xs (near - places)) ≡ false = ap (λ b. cond b (is_this key (slice_get xs (near - places))) false) (sym (le-leb places near le)) ∙ before in
        cc
    at false f false g =
        let p = eqb-false j (near + places) f in
        let q = eqb-false (j + places) near g in
        none j e (omega arith) (omega arith)

got : (xs : List ℕ) (i k : ℕ) → slice_get xs i ≡ Some k → i < length xs
got [] i k e = cc
got (x ∷ xs) zero k e = omega arith
got (x ∷ xs) (suc i) k e = let g = got xs i k e in omega arith

-- a key that stands nowhere near is not there
pub none_there : (xs : List ℕ) (near key : ℕ) → (0 < length xs → near < length xs) → NoneNear xs key near (length xs) → (i : ℕ) → slice_get xs i ≡ Some key → ⊥
none_there xs near key in_range none i e =
    let l = got xs i key e in
    let p : 0 < length xs = omega arith in
    let m = in_range p in
    none i e (omega arith) (omega arith)

pub nothing_at : (i k : ℕ) → slice_get [] i ≡ Some k → ⊥
nothing_at i k e = absurd cc
