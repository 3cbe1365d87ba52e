-- What a cell that was found says, how many keys a table has, and the walk over a subtree.
use Rattle.std.proofs.Common.{◌≡◌, ◌≢◌, ℕ, zero, suc, ◌+◌, ◌<◌, ◌≤◌, ◌==◌, Bool, true, false, cond, Option, Some, None, List, [], ◌∷◌, ◌++◌, length, take, get_or, refl, sym, ap, ◌∙◌, subst, arith}
use Rattle.std.specs.Prelude.{IsSome, nat_lt}
use Rattle.std.specs.Option.{option_map}
use Rattle.std.proofs.Math.Seq.{take-suc, get_or-append_seam}
use Rattle.std.proofs.lemmas.Bool.{eqb-true, eq-eqb}
use Rattle.std.proofs.lemmas.Bool.Decides.{nat_tests}
use Rattle.std.proofs.lemmas.List.{append-nil, length-append}
use Rattle.slab.specs.Slab.{Slab, get}
use Rattle.slab.proofs.SlabLemmas.{ContainsKey-within}
use Rattle.atspi_tree_model.specs.Forest.{Forest, nil, tree, count, join, pick, EachLabel}
use Rattle.atspi_cache_arena.specs.Keys.{Node, Kept, is_key, keys, HoldsBelow, Holds}
use Rattle.atspi_cache_arena.specs.Table.{IsSubtree, kept, look_in, times, is_among, has_path, path_among}
use Rattle.atspi_tree_model.specs.declared.view.Row.{Row}
use Rattle.atspi_cache_arena.specs.declared.cell.Cell.{Cell}
use Rattle.atspi_tree_model.proofs.Counts.{count-join, count-parts}
use Rattle.atspi_tree_model.proofs.Seats.{pick-one}

pub cell_there : (o : Option Cell) (cell : Cell) → Some cell ≡ o → IsSome o
cell_there o cell e = let z : IsSome (Some cell) = refl in subst IsSome e z

pub take_more : (l : List ℕ) (i : ℕ) → i < length l → take (i + 1) l ≡ take i l ++ (get_or l i 0 ∷ [])
take_more l i h = let e : i + 1 ≡ suc i = omega arith in ap (λ m. take m l) e ∙ take-suc l i 0 h

pub written : (s : Slab Cell) (p : ℕ) (cell : Cell) (k : Kept Row) → Some cell ≡ get s p → look_in s p ≡ Some k → kept cell ≡ k
written s p cell k e h = let z : Some (kept cell) ≡ Some k = ap (option_map kept) e ∙ h in cc

-- no more nodes than keys, where each has a key of its own below a bound
module _ {R : Type 0} where
  abbrev below : ℕ → Node R → Bool
  below n a = nat_lt a.key n

  below_suc : (n : ℕ) (f : Forest (Node R)) → count (below (suc n)) f ≡ count (below n) f + count (is_key n) f
  below_suc n nil = refl
  below_suc n (tree a c r) = omega (arith, one a.key, below_suc n c, below_suc n r)
    where
      one : (k : ℕ) → cond {A = ℕ} (nat_lt k (suc n)) 1 0 ≡ cond (nat_lt k n) 1 0 + cond (k == n) 1 0
      one k = grind (arith, nat_tests)

  below_few : (n : ℕ) (f : Forest (Node R)) → ((k : ℕ) → count (is_key k) f ≤ 1) → count (below n) f ≤ n
  below_few zero f once = none f
    where
      none : (f : Forest (Node R)) → count (below 0) f ≤ 0
      none nil = omega arith
      none (tree a c r) = let x : cond {A = ℕ} (nat_lt a.key 0) 1 0 ≡ 0 = grind (arith, nat_tests) in omega (arith, none c, none r)
  below_few (suc n) f once = omega (arith, below_suc n f, once n, below_few n f once)

  all_below : (n : ℕ) (f : Forest (Node R)) → EachLabel (λ a. a.key < n) f → count (below n) f ≡ count (λ a. true) f
  all_below n nil h = refl
  all_below n (tree a c r) h = let x : cond {A = ℕ} (nat_lt a.key n) 1 0 ≡ 1 = (let y = h.0 in grind (arith, nat_tests)) in omega (arith, all_below n c h.1, all_below n r h.2)

  pub few : (n : ℕ) (f : Forest (Node R)) → ((k : ℕ) → count (is_key k) f ≤ 1) → EachLabel (λ a. a.key < n) f → count (λ a. true) f ≤ n
  few n f once h = omega (arith, all_below n f h, below_few n f once)

  -- a table has each node of a forest, whatever its parent
  abbrev pub HoldsAny : (ℕ → Option (Kept R)) → Forest (Node R) → Type 0
  HoldsAny look nil = Unit {0}
  HoldsAny look (tree n c r) =
      ((up : Option ℕ) × (look n.key ≡ Some (record { row = n.row; children = keys c; parent = up }))) × HoldsAny look c × HoldsAny look r

  pub holds_any : (look : ℕ → Option (Kept R)) (up : Option ℕ) (f : Forest (Node R)) → HoldsBelow look up f → HoldsAny look f
  holds_any look up nil h = tt
  holds_any look up (tree a c r) h = ((up, h.0), holds_any look (Some a.key) c h.1, holds_any look up r h.2)

  pub any-join : (look : ℕ → Option (Kept R)) (f g : Forest (Node R)) → HoldsAny look f → HoldsAny look g → HoldsAny look (join f g)
  any-join look nil g h k = k
  any-join look (tree a c r) g h k = (h.0, h.1, any-join look r g h.2 k)

  pub any_pick : (look : ℕ → Option (Kept R)) (p : Node R → Bool) (f : Forest (Node R)) → HoldsAny look f → HoldsAny look (pick p f)
  any_pick look p nil h = tt
  any_pick look p (tree a c r) h = at (p a) (any_pick look p c h.1) (any_pick look p r h.2)
    where
      at : (b : Bool) → HoldsAny look (pick p c) → HoldsAny look (pick p r) → HoldsAny look (cond b (tree a c (pick p r)) (join (pick p c) (pick p r)))
      at true x y = (h.0, h.1, y)
      at false x y = any-join look (pick p c) (pick p r) x y

  keys_join : (f g : Forest (Node R)) → keys (join f g) ≡ keys f ++ keys g
  keys_join nil g = refl
  keys_join (tree a c r) g = ap (λ l. a.key ∷ l) (keys_join r g)

-- so many keys of the list are done: the trees at the others are what is left of the subtree
pub record Walked (look : ℕ → Option (Kept Row)) (key : ℕ) (f : Forest (Node Row)) (i : ℕ) (ks : List ℕ) : Type 0 where
  pub done : List ℕ
  pub rest : Forest (Node Row)
  pub split : ks ≡ done ++ keys rest
  pub at : length done ≡ i
  pub held : HoldsAny look rest
  pub total : (n : ℕ) → times n done + count (is_key n) rest ≡ count (is_key n) (pick (is_key key) f)
  pub measured : i + count (λ a. true) rest ≡ count (λ a. true) (pick (is_key key) f)

times-append : (n : ℕ) (xs ys : List ℕ) → times n (xs ++ ys) ≡ times n xs + times n ys
times-append n [] ys = omega arith
times-append n (x ∷ xs) ys = omega (arith, times-append n xs ys)

-- one key more
pub walk_on : (look : ℕ → Option (Kept Row)) (key : ℕ) (f : Forest (Node Row)) (i k : ℕ) (ks : List ℕ) (x : Kept Row) → Walked look key f i ks
    → ((more : List ℕ) (done : List ℕ) → ks ≡ done ++ more → length done ≡ i → (rest : List ℕ) × (more ≡ k ∷ rest)) → look k ≡ Some x
    → Walked look key f (i + 1) (ks ++ x.children)
walk_on look key f i k ks x w first h = go w.rest w.split w.held w.total w.measured (first (keys w.rest) w.done w.split w.at)
  where
    go : (rest : Forest (Node Row)) → ks ≡ w.done ++ keys rest → HoldsAny look rest
        → ((n : ℕ) → times n w.done + count (is_key n) rest ≡ count (is_key n) (pick (is_key key) f))
        → i + count (λ a. true) rest ≡ count (λ a. true) (pick (is_key key) f)
        → (more : List ℕ) × (keys rest ≡ k ∷ more) → Walked look key f (i + 1) (ks ++ x.children)
    go nil s any t m o = let z = o.1 in cc
    go (tree a c r) s any t m o =
        let same : a.key ≡ k = (let z = o.1 in cc) in
        let kids : x.children ≡ keys c = (let z : Some x ≡ Some (record { row = a.row; children = keys c; parent = any.0.0 }) = sym h ∙ (ap look (sym same) ∙ any.0.1) in
        ap (λ (o : Option (Kept Row)). children_or o) z) in
        record {
          done = w.done ++ a.key ∷ [];
          rest = join r c;
          split = rw (s, kids, keys_join r c) (shuffle w.done a.key (keys r) (keys c));
          at = length-append w.done (a.key ∷ []) ∙ (let z = w.at in omega arith);
          held = any-join look r c any.2 any.1;
          total = λ n. (let z = t n in omega (arith, times-append n w.done (a.key ∷ []), count-join (is_key n) r c));
          measured = omega (arith, count-join (λ (a : Node Row). true) r c);
        }
      where
        children_or : Option (Kept Row) → List ℕ
        children_or None = []
        children_or (Some k) = k.children

        shuffle : (d : List ℕ) (k : ℕ) (r c : List ℕ) → (d ++ k ∷ r) ++ c ≡ (d ++ k ∷ []) ++ (r ++ c)
        shuffle [] k r c = refl
        shuffle (y ∷ d) k r c = ap (λ l. y ∷ l) (shuffle d k r c)

among-append : (n : ℕ) (xs ys : List ℕ) → is_among n (xs ++ ys) ≡ cond (is_among n xs) true (is_among n ys)
among-append n [] ys = refl
among-append n (x ∷ xs) ys = rw (among-append n xs ys) (at (x == n))
  where
    at : (b : Bool) → cond b true (cond (is_among n xs) true (is_among n ys)) ≡ cond (cond b true (is_among n xs)) true (is_among n ys)
    at true = refl
    at false = refl

-- each node of a forest that a slab holds has a key within its slots
each_within : (s : Slab Cell) (f : Forest (Node Row)) → HoldsAny (look_in s) f → EachLabel (λ a. a.key < length s.slots) f
each_within s nil h = tt
each_within s (tree a c r) h = (within (get s a.key) refl h.0.1, each_within s c h.1, each_within s r h.2)
  where
    within : {x : Kept Row} (o : Option Cell) → get s a.key ≡ o → option_map kept o ≡ Some x → a.key < length s.slots
    within None e z = cc
    within (Some y) e z = ContainsKey-within s a.key (subst IsSome (sym e) (let t : IsSome (Some y) = refl in t))

pub slots_are_enough : (s : Slab Cell) (f : Forest (Node Row)) → Holds (look_in s) f → count (λ a. true) f ≤ length s.slots
slots_are_enough s f h = few (length s.slots) f h.once (each_within s f (holds_any (look_in s) None f h.nodes))

-- the walk begins with the node itself
pub walk_from : (look : ℕ → Option (Kept Row)) (key : ℕ) (f : Forest (Node Row)) (ks : List ℕ) → Holds look f → count (is_key key) f ≡ 1 → ks ≡ key ∷ [] → Walked look key f 0 ks
walk_from look key f ks h one e =
    let o = pick-one (is_key key) f one in
    record {
      done = [];
      rest = pick (is_key key) f;
      split = e ∙ sym (ap keys o.3 ∙ ap (λ k. k ∷ []) (eqb-true o.0.key key o.2));
      at = refl;
      held = any_pick look (is_key key) f (holds_any look None f h.nodes);
      total = λ n. omega arith;
      measured = omega arith;
    }

-- where no key is left, all of the subtree is done
pub walk_ends : (look : ℕ → Option (Kept Row)) (key : ℕ) (f : Forest (Node Row)) (i : ℕ) (ks : List ℕ) → Walked look key f i ks → length ks ≤ i → IsSubtree key f ks
walk_ends look key f i ks w l = go w.rest w.split w.total
  where
    go : (rest : Forest (Node Row)) → ks ≡ w.done ++ keys rest → ((n : ℕ) → times n w.done + count (is_key n) rest ≡ count (is_key n) (pick (is_key key) f)) → IsSubtree key f ks
    go nil s t n = let e : times n ks ≡ times n w.done = ap (times n) (s ∙ append-nil w.done) in let z = t n in omega arith
    go (tree a c r) s t n = let e = ap length s ∙ length-append w.done (a.key ∷ keys r) in let z = w.at in absurd (omega arith)

-- where one is left, it has a cell and is within the slots
pub walk_at : (d : ℕ) (s : Slab Cell) (key : ℕ) (f : Forest (Node Row)) (i : ℕ) (ks : List ℕ) → Walked (look_in s) key f i ks → Holds (look_in s) f → i < length ks
    → IsSome (get s (get_or ks i d)) × (i < length s.slots)
walk_at d s key f i ks w h l = go w.rest w.split w.held w.measured
  where
    go : (rest : Forest (Node Row)) → ks ≡ w.done ++ keys rest → HoldsAny (look_in s) rest → i + count (λ a. true) rest ≡ count (λ a. true) (pick (is_key key) f)
        → IsSome (get s (get_or ks i d)) × (i < length s.slots)
    go nil e any m = let x = ap length e ∙ length-append w.done [] in let z = w.at in absurd (omega arith)
    go (tree a c r) e any m = (
      subst (λ k. IsSome (get s k)) (sym (at_is e)) (some_cell (get s a.key) any.0.1),
      let x = slots_are_enough s f h in let y = count-parts (λ (a : Node Row). true) (is_key key) f in omega arith,
    )
      where
        at_is : ks ≡ w.done ++ (a.key ∷ keys r) → get_or ks i d ≡ a.key
        at_is e = ap (λ l. get_or l i d) e ∙ (ap (λ j. get_or (w.done ++ (a.key ∷ keys r)) j d) (sym w.at) ∙ get_or-append_seam w.done a.key (keys r) d)

        some_cell : {x : Kept Row} (o : Option Cell) → option_map kept o ≡ Some x → IsSome o
        some_cell None z = cc
        some_cell (Some y) z = refl

-- the key at the index is the first of those that are left
pub first_left : (d : ℕ) (ks : List ℕ) (i : ℕ) → i < length ks → (more done : List ℕ) → ks ≡ done ++ more → length done ≡ i → (rest : List ℕ) × (more ≡ get_or ks i d ∷ rest)
first_left d ks i l [] done e a = let x = ap length e ∙ length-append done [] in absurd (omega arith)
first_left d ks i l (k ∷ more) done e a =
    (more, ap (λ x. x ∷ more) (sym (ap (λ l. get_or l i d) e ∙ (ap (λ j. get_or (done ++ (k ∷ more)) j d) (sym a) ∙ get_or-append_seam done k more d))))

pub as_get : (s : Slab Cell) (ks : List ℕ) (i d k : ℕ) → k ≡ get_or ks i d → IsSome (get s (get_or ks i d)) → IsSome (get s k)
as_get s ks i d k e h = subst (λ n. IsSome (get s n)) (sym e) h

-- one step of a sweep
module _ (look look1 look2 : ℕ → Option (Kept Row)) (xs : List ℕ) (k : ℕ) (here : look2 k ≡ None) (others : (n : ℕ) → n ≢ k → look2 n ≡ look1 n)
    (before : (n : ℕ) → look1 n ≡ cond (is_among n xs) None (look n)) where
  pub swept_cells : (n : ℕ) → look2 n ≡ cond (is_among n (xs ++ k ∷ [])) None (look n)
  swept_cells n = rw (among-append n xs (k ∷ [])) (at (k == n) refl (is_among n xs) (before n))
    where
      at : (b : Bool) → (k == n) ≡ b → (m : Bool) → look1 n ≡ cond m None (look n) → look2 n ≡ cond (cond m true (cond b true false)) None (look n)
      at true e true z = subst (λ m. look2 m ≡ None) (eqb-true k n e) here
      at true e false z = subst (λ m. look2 m ≡ None) (eqb-true k n e) here
      at false e m z = others n (λ same. let y = eq-eqb k n (sym same) in cc) ∙ (z ∙ end m)
        where
          end : (m : Bool) → cond m None (look n) ≡ cond (cond m true false) None (look n)
          end true = refl
          end false = refl

  path-append : (q : List ℕ) (ys : List ℕ) → path_among look q (ys ++ k ∷ []) ≡ cond (path_among look q ys) true (cond (has_path q (look k)) true false)
  path-append q [] = refl
  path-append q (y ∷ ys) = rw (path-append q ys) (at (has_path q (look y)) (path_among look q ys))
    where
      at : (b p : Bool) → cond b true (cond p true (cond (has_path q (look k)) true false)) ≡ cond (cond b true p) true (cond (has_path q (look k)) true false)
      at true p = refl
      at false p = refl

  among_path : (q : List ℕ) (ys : List ℕ) → is_among k ys ≡ true → has_path q (look k) ≡ true → path_among look q ys ≡ true
  among_path q [] e h = cc
  among_path q (y ∷ ys) e h = at (y == k) refl (λ z. among_path q ys z h) e
    where
      at : (b : Bool) → (y == k) ≡ b → (is_among k ys ≡ true → path_among look q ys ≡ true) → cond b true (is_among k ys) ≡ true → cond (has_path q (look y)) true (path_among look q ys) ≡ true
      at true eb ih z = let t : has_path q (look y) ≡ true = ap (λ n. has_path q (look n)) (eqb-true y k eb) ∙ h in rw t refl
      at false eb ih z = rw (ih z) (any (has_path q (look y)))
        where
          any : (b : Bool) → cond b true true ≡ true
          any true = refl
          any false = refl

  pub swept_paths : (q : List ℕ) (g0 g1 g2 : Option ℕ) → g1 ≡ cond (path_among look q xs) None g0 → g2 ≡ cond (has_path q (look1 k)) None g1
      → g2 ≡ cond (path_among look q (xs ++ k ∷ [])) None g0
  swept_paths q g0 g1 g2 e1 e2 = rw (path-append q xs) (at (is_among k xs) refl (has_path q (look k)) refl (path_among look q xs) refl (ap (has_path q) (before k)) e1 e2)
    where
      at : (b : Bool) → is_among k xs ≡ b → (h : Bool) → has_path q (look k) ≡ h → (p : Bool) → path_among look q xs ≡ p
          → has_path q (look1 k) ≡ has_path q (cond b None (look k)) → g1 ≡ cond p None g0 → g2 ≡ cond (has_path q (look1 k)) None g1
          → g2 ≡ cond (cond p true (cond h true false)) None g0
      at true eb true eh false ep s e1 e2 = let z = among_path q xs eb eh in cc
      at true eb true eh true ep s e1 e2 = e2 ∙ (ap (λ b. cond b None g1) s ∙ e1)
      at true eb false eh p ep s e1 e2 = e2 ∙ (ap (λ b. cond b None g1) s ∙ (e1 ∙ end p))
        where
          end : (p : Bool) → cond p None g0 ≡ cond (cond p true false) None g0
          end true = refl
          end false = refl
      at false eb h eh p ep s e1 e2 = e2 ∙ (ap (λ b. cond b None g1) (s ∙ eh) ∙ (ap (λ g. cond h None g) e1 ∙ end h p))
        where
          end : (h p : Bool) → cond h None (cond p None g0) ≡ cond (cond p true (cond h true false)) None g0
          end true true = refl
          end true false = refl
          end false true = refl
          end false false = refl
