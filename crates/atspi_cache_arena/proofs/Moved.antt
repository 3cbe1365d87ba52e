-- An arena after a row and all below it are moved.
use Rattle.std.proofs.Common.{◌≡◌, ◌≢◌, ◌⊎◌, inl, inr, ℕ, zero, suc, ◌+◌, ◌≤◌, ◌==◌, Bool, true, false, cond, Option, Some, None, List, [], ◌∷◌, refl, sym, ap, ◌∙◌, subst, arith}
use Rattle.std.specs.Option.{option_map, option_to_list}
use Rattle.std.specs.HashMap.{get_by_text}
use Rattle.std.proofs.lemmas.Bool.{eqb-true, eq-eqb, ne_eqb}
use Rattle.slab.specs.Slab.{Slab}
use Rattle.atspi_tree_model.specs.declared.view.Row.{Row}
use Rattle.atspi_tree_model.specs.Forest.{Forest, nil, tree, count, has, take_out, put_in, pick, EachLabel}
use Rattle.atspi_tree_model.specs.News.{is_path}
use Rattle.atspi_tree_model.proofs.Counts.{count-parts, count-put_in}
use Rattle.atspi_tree_model.proofs.Found.{count-has, has-count}
use Rattle.atspi_tree_model.proofs.Relabel.{relabel-put_in, relabel-pick, relabel-take_out, has-relabel}
use Rattle.atspi_tree_model.proofs.Seats.{pick-none, join-nil, count-take_out}
use Rattle.atspi_cache_arena.specs.Keys.{Node, Kept, is_key, keys, HoldsBelow, Holds, with_children}
use Rattle.atspi_cache_arena.specs.Table.{look_in, parent_in, put_among, with_child, without_child, without_child_if}
use Rattle.atspi_cache_arena.specs.Arena.{is_at, is_row, IsIndexed, IsArena, rows_of}
use Rattle.atspi_cache_arena.specs.declared.cell.Cell.{Cell}
use Rattle.atspi_cache_arena.specs.declared.paths.Paths.{Paths}
use Rattle.atspi_cache_arena.proofs.Held.{holds-take_out, holds-put, holds-same, self, keys-put_in, keys-take_out}
use Rattle.atspi_cache_arena.proofs.Shown.{rows, seen, Becomes, becomes}
use Rattle.atspi_cache_arena.proofs.Inserted.{Alike, alike, row_le, put_in-alike, key_once, one_test, key_there}
use Rattle.atspi_cache_arena.proofs.Removed.{Takes, stays, take_out-alike, top_less, at_top, there_is}

-- the subtree of a key, and that its parent is outside of it
pub record Cut (look : ℕ → Option (Kept Row)) (up : Option ℕ) (f : Forest (Node Row)) (k : ℕ) : Type 0 where
  pub node : Node Row
  pub children : Forest (Node Row)
  pub is : pick (is_key k) f ≡ tree node children nil
  pub key : node.key ≡ k
  pub held : HoldsBelow look (Some k) children
  pub parent : Option ℕ
  pub kept : look k ≡ Some (record { row = node.row; children = keys children; parent = parent })
  pub out : (n : ℕ) → parent ≡ Some n → (up ≡ Some n) ⊎ (1 ≤ count (is_key n) (take_out (is_key k) f))

pub cut : (look : ℕ → Option (Kept Row)) (up : Option ℕ) (f : Forest (Node Row)) (k : ℕ) → HoldsBelow look up f → count (is_key k) f ≡ 1 → Cut look up f k
cut look up nil k h one = absurd (omega arith)
cut look up (tree a c r) k h one =
    at (a.key == k) refl (count (is_key k) c) refl one (λ z. cut look (Some a.key) c k h.1 z) (λ z. cut look up r k h.2 z)
  where
    at : (b : Bool) → (a.key == k) ≡ b → (i : ℕ) → count (is_key k) c ≡ i → cond b 1 0 + (count (is_key k) c + count (is_key k) r) ≡ 1
        → (count (is_key k) c ≡ 1 → Cut look (Some a.key) c k) → (count (is_key k) r ≡ 1 → Cut look up r k) → Cut look up (tree a c r) k
    at true eb i ei one hc hr =
        let same = eqb-true a.key k eb in
        record {
          node = a;
          children = c;
          is = rw eb (ap (tree a c) (pick-none (is_key k) r (omega arith)));
          key = same;
          held = subst (λ n. HoldsBelow look (Some n) c) same h.1;
          parent = up;
          kept = subst (λ n. look n ≡ Some (record { row = a.row; children = keys c; parent = up })) same h.0;
          out = λ n e. inl e;
        }
    at false eb (suc i) ei one hc hr =
        let x = hc (omega arith) in
        record {
          node = x.node;
          children = x.children;
          is = rw (eb, pick-none (is_key k) r (omega arith)) (join-nil (pick (is_key k) c) ∙ x.is);
          key = x.key;
          held = x.held;
          parent = x.parent;
          kept = x.kept;
          out = λ n e. rw eb (inr (above n (x.out n e)));
        }
      where
        above : (n : ℕ) → (Some a.key ≡ Some n) ⊎ (1 ≤ count (is_key n) (take_out (is_key k) c)) → 1 ≤ count (is_key n) (tree a (take_out (is_key k) c) (take_out (is_key k) r))
        above n (inl e) = let same : a.key ≡ n = cc in subst (λ m. 1 ≤ count (is_key m) (tree a (take_out (is_key k) c) (take_out (is_key k) r))) same (self a (take_out (is_key k) c) (take_out (is_key k) r))
        above n (inr l) = omega arith
    at false eb zero ei one hc hr =
        let x = hr (omega arith) in
        record {
          node = x.node;
          children = x.children;
          is = rw (eb, pick-none (is_key k) c ei) x.is;
          key = x.key;
          held = x.held;
          parent = x.parent;
          kept = x.kept;
          out = λ n e. rw eb (beside n (x.out n e));
        }
      where
        beside : (n : ℕ) → (up ≡ Some n) ⊎ (1 ≤ count (is_key n) (take_out (is_key k) r)) → (up ≡ Some n) ⊎ (1 ≤ count (is_key n) (tree a (take_out (is_key k) c) (take_out (is_key k) r)))
        beside n (inl e) = inl e
        beside n (inr l) = inr (omega arith)

-- what a move writes
pub record Moves (look look' : ℕ → Option (Kept Row)) (k old p : ℕ) (at : Option ℕ) : Type 0 where
  pub there : (x : Kept Row) × (look k ≡ Some x) × (x.parent ≡ Some old)
  pub moved : (x : Kept Row) → look k ≡ Some x → look' k ≡ Some (record x { parent = Some p })
  pub to : (x : Kept Row) → look p ≡ Some x → look' p ≡ Some (with_child at k (without_child_if (p == old) k x))
  pub from : (x : Kept Row) → look old ≡ Some x → old ≢ p → look' old ≡ Some (without_child k x)
  pub none : look old ≡ None → look' old ≡ None
  pub others : (n : ℕ) → n ≢ k → n ≢ old → n ≢ p → look' n ≡ look n

module _ (look look' : ℕ → Option (Kept Row)) (k old p : ℕ) (at : Option ℕ) (w : Moves look look' k old p at) where
  -- the table without k in the list of its old parent
  abbrev pub between : ℕ → Option (Kept Row)
  between n = cond (n == old) (option_map (without_child k) (look n)) (look n)

  pub takes : Takes look between k (Some old) []
  takes = record {
    there = w.there;
    gone = λ n e. cc;
    parent = λ n e out x h. (let same : old ≡ n = cc in let t = eq-eqb n old (sym same) in rw (t, h) refl);
    none = λ n e. rw e (both (n == old));
    others = λ n out apart. (let t = ne_eqb n old (λ s. apart (ap Some (sym s))) in rw t refl);
  }
    where
      both : (b : Bool) → cond {A = Option (Kept Row)} b None None ≡ None
      both true = refl
      both false = refl

  pub holds_moved : (f : Forest (Node Row)) → Holds look f → count (is_key k) f ≡ 1 → 1 ≤ count (is_key p) (take_out (is_key k) f)
      → HoldsBelow look' None (put_in (is_key p) at (pick (is_key k) f) (take_out (is_key k) f))
  holds_moved f h one outside =
      subst (λ g. HoldsBelow look' None (put_in (is_key p) at g (take_out (is_key k) f))) (sym x.is)
      (holds-put between look' p at (tree x.node x.children nil) below listed None (take_out (is_key k) f) apart
      (holds-take_out look between k None f (λ n l y e. stays look between k (Some old) [] takes f h n (let q = count-parts (is_key n) (is_key k) f in omega arith) refl y e) h.nodes))
    where
      x : Cut look None f k
      x = cut look None f k h.nodes one

      old_out : 1 ≤ count (is_key old) (take_out (is_key k) f)
      old_out = by (x.out old old_is)
        where
          old_is : x.parent ≡ Some old
          old_is = let z : Some w.there.0 ≡ Some (record { row = x.node.row; children = keys x.children; parent = x.parent }) = sym w.there.1 ∙ x.kept in
              let y : w.there.0.parent ≡ x.parent = cc in sym y ∙ w.there.2

          by : (None ≡ Some old) ⊎ (1 ≤ count (is_key old) (take_out (is_key k) f)) → 1 ≤ count (is_key old) (take_out (is_key k) f)
          by (inl e) = cc
          by (inr l) = l

      inside : (n : ℕ) → 1 ≤ count (is_key n) x.children → (n ≢ k) × (count (is_key n) (take_out (is_key k) f) ≡ 0)
      inside n l =
          let q = count-parts (is_key n) (is_key k) f in
          let c = ap (count (is_key n)) x.is in
          let o = h.once n in
          ((λ e. (let t : cond {A = ℕ} (x.node.key == n) 1 0 ≡ 1 = ap (λ b. cond {A = ℕ} b 1 0) (eq-eqb x.node.key n (x.key ∙ sym e)) in omega arith)), omega arith)

      same_inside : (n : ℕ) → 1 ≤ count (is_key n) x.children → look' n ≡ look n
      same_inside n l =
          let z = inside n l in
          let gone = z.1 in
          let oo = old_out in
          w.others n z.0 (λ e. let t = ap (λ m. count (is_key m) (take_out (is_key k) f)) e in absurd (omega arith)) (λ e. let t = ap (λ m. count (is_key m) (take_out (is_key k) f)) e in absurd (omega arith))

      below : HoldsBelow look' (Some p) (tree x.node x.children nil)
      below = (
        subst (λ n. look' n ≡ Some (record { row = x.node.row; children = keys x.children; parent = Some p })) (sym x.key) (w.moved _ x.kept),
        subst (λ n. HoldsBelow look' (Some n) x.children) (sym x.key) (holds-same look look' (Some k) x.children same_inside x.held),
        tt,
      )

      listed : (y : Kept Row) → between p ≡ Some y → look' p ≡ Some (with_children (put_among at (keys (tree x.node x.children nil))) y)
      listed y e = subst (λ n. look' p ≡ Some (with_children (put_among at (n ∷ [])) y)) (sym x.key) (by (p == old) refl (look p) refl e)
        where
          by : (b : Bool) → (p == old) ≡ b → (o : Option (Kept Row)) → look p ≡ o → cond b (option_map (without_child k) o) o ≡ Some y → look' p ≡ Some (with_child at k y)
          by true eb None eo e = cc
          by false eb None eo e = cc
          by true eb (Some z) eo e = let s : without_child k z ≡ y = cc in w.to z eo ∙ ap (λ b. Some (with_child at k (without_child_if b k z))) eb ∙ ap (λ z. Some (with_child at k z)) s
          by false eb (Some z) eo e = let s : z ≡ y = cc in w.to z eo ∙ ap (λ b. Some (with_child at k (without_child_if b k z))) eb ∙ ap (λ z. Some (with_child at k z)) s

      apart : (n : ℕ) → 1 ≤ count (is_key n) (take_out (is_key k) f) → (n == p) ≡ false → look' n ≡ between n
      apart n l np = by (n == old) refl (look n) refl
        where
          not_p : n ≢ p
          not_p e = let t = eq-eqb n p e in cc

          by : (b : Bool) → (n == old) ≡ b → (o : Option (Kept Row)) → look n ≡ o → look' n ≡ cond b (option_map (without_child k) o) o
          by true eb None eo = let same = eqb-true n old eb in subst (λ m. look' m ≡ None) (sym same) (w.none (subst (λ m. look m ≡ None) same eo))
          by true eb (Some z) eo = let same = eqb-true n old eb in
              subst (λ m. look' m ≡ Some (without_child k z)) (sym same) (w.from z (subst (λ m. look m ≡ Some z) same eo) (λ e. not_p (same ∙ e)))
          by false eb o eo = w.others n (λ e. let t = ap (λ m. count (is_key m) (take_out (is_key k) f)) e in let g = count-take_out (is_key k) f in absurd (omega arith)) (λ e. let t = eq-eqb n old e in cc) not_p ∙ eo

pick-alike : (p q : Node Row → Bool) (f : Forest (Node Row)) → EachLabel (λ a. p a ≡ q a) f → pick p f ≡ pick q f
pick-alike p q nil e = refl
pick-alike p q (tree a c r) e = rw (e.0, pick-alike p q c e.1, pick-alike p q r e.2) refl

module _ (look look' : ℕ → Option (Kept Row)) (k old p : ℕ) (at : Option ℕ) (w : Moves look look' k old p at) where
  abbrev pub move : Forest (Node Row) → Forest (Node Row)
  move f = put_in (is_key p) at (pick (is_key k) f) (take_out (is_key k) f)

  -- no node comes or goes
  same_counts : (f : Forest (Node Row)) → count (is_key p) (take_out (is_key k) f) ≡ 1 → (test : Node Row → Bool) → count test (move f) ≡ count test f
  same_counts f one test = count-put_in test (is_key p) at (pick (is_key k) f) (take_out (is_key k) f) ∙ (let q = count-parts test (is_key k) f in rw one (omega arith))

  pub table_moved : (f : Forest (Node Row)) → Holds look f → count (is_key k) f ≡ 1 → count (is_key p) (take_out (is_key k) f) ≡ 1 → Holds look' (move f)
  table_moved f h one outside = record {
    nodes = holds_moved look look' k old p at w f h one (omega arith);
    once = λ n. (let a = same_counts f outside (is_key n) in let b = h.once n in omega arith);
    only = λ n z. (let a = same_counts f outside (is_key n) in absent n (h.only n (omega arith)) (omega arith));
  }
    where
      absent : (n : ℕ) → look n ≡ None → count (is_key n) f ≡ 0 → look' n ≡ None
      absent n e z = by (n == old) refl
        where
          by : (b : Bool) → (n == old) ≡ b → look' n ≡ None
          by true eb = let same = eqb-true n old eb in subst (λ m. look' m ≡ None) (sym same) (w.none (subst (λ m. look m ≡ None) same e))
          by false eb =
              w.others n (λ s. let t = ap (λ m. count (is_key m) f) s in absurd (omega arith)) (λ s. let t = eq-eqb n old s in cc)
              (λ s. let t = ap (λ m. count (is_key m) f) s in let q = count-parts (is_key p) (is_key k) f in absurd (omega arith)) ∙ e

  pub index_moved : (paths : Paths) (f : Forest (Node Row)) → IsIndexed paths f → HoldsBelow look None f → count (is_key k) f ≡ 1 → count (is_key p) (take_out (is_key k) f) ≡ 1 → IsIndexed paths (move f)
  index_moved paths f a h one outside = record {
    root = keys-put_in (is_key p) at (pick (is_key k) f) (take_out (is_key k) f) ∙ (keys-take_out k f
        ∙ top_less look (between look look' k old p at w) k (Some old) [] (takes look look' k old p at w) f h (omega arith) paths.root a.root (Some old) refl);
    index = λ q m. (let o = a.index q m in let s = same_counts f outside (is_row q m) in ((λ x. let y = o.0 x in omega arith), (λ y. o.1 (omega arith))));
    once = λ q. (let o = a.once q in let s = same_counts f outside (is_at q) in omega arith);
  }

  pub rows_moved : (path up : List ℕ) (f : Forest (Node Row)) → Alike path k f → Alike up p (take_out (is_key k) f)
      → rows (move f) ≡ put_in (is_path up) at (pick (is_path path) (rows f)) (take_out (is_path path) (rows f))
  rows_moved path up f e d =
      ap rows (put_in-alike (is_key p) (is_at up) at (pick (is_key k) f) (take_out (is_key k) f) d)
      ∙ (sym (relabel-put_in (λ n. n.row) (is_path up) (is_at up) (λ a. refl) at (pick (is_key k) f) (take_out (is_key k) f))
      ∙ (ap (λ g. put_in (is_path up) at (rows g) (rows (take_out (is_key k) f))) (pick-alike (is_key k) (is_at path) f e)
      ∙ (ap (λ g. put_in (is_path up) at (rows (pick (is_at path) f)) (rows g)) (take_out-alike (is_key k) (is_at path) f e)
      ∙ (ap (λ g. put_in (is_path up) at g (rows (take_out (is_at path) f))) (sym (relabel-pick (λ n. n.row) (is_path path) (is_at path) (λ a. refl) f))
      ∙ ap (λ g. put_in (is_path up) at (pick (is_path path) (rows f)) g) (sym (relabel-take_out (λ n. n.row) (is_path path) (is_at path) (λ a. refl) f))))))

module _ (s : Slab Cell) (paths : Paths) (v : Forest Row) (path up : List ℕ) (k p : ℕ) (c : IsArena s paths) (view : rows_of s paths ≡ v)
    (known_k : get_by_text paths.index path ≡ Some k) (known_p : get_by_text paths.index up ≡ Some p)
    (outside : has (is_path up) (take_out (is_path path) v) ≡ true) where
  one : count (is_key k) c.forest ≡ 1
  one = key_once s paths path k c known_k

  alike_k : Alike path k c.forest
  alike_k = one_test s paths path k c known_k

  above : 1 ≤ count (is_at up) (take_out (is_key k) c.forest)
  above = count-has (is_at up) (take_out (is_key k) c.forest)
      (ap (has (is_at up)) (take_out-alike (is_key k) (is_at path) c.forest alike_k)
      ∙ (sym (has-relabel (λ (n : Node Row). n.row) (is_path up) (is_at up) (λ a. refl) (take_out (is_at path) c.forest))
      ∙ (ap (has (is_path up)) (sym (relabel-take_out (λ (n : Node Row). n.row) (is_path path) (is_at path) (λ a. refl) c.forest))
      ∙ (ap (λ g. has (is_path up) (take_out (is_path path) g)) (sym (seen s paths c) ∙ view) ∙ outside))))

  row_left : 1 ≤ count (is_row up p) (take_out (is_key k) c.forest)
  row_left =
      let a = (c.indexed.index up p).0 known_p in
      let b = above in
      let d = (row_le up p (pick (is_key k) c.forest)).1 in
      let e = count-parts (is_row up p) (is_key k) c.forest in
      let g = count-parts (is_at up) (is_key k) c.forest in
      let h = c.indexed.once up in
      omega arith

  left : count (is_key p) (take_out (is_key k) c.forest) ≡ 1
  left =
      let a = row_left in
      let b = (row_le up p (take_out (is_key k) c.forest)).0 in
      let d = count-parts (is_key p) (is_key k) c.forest in
      let e = c.held.once p in
      omega arith

  alike_p : Alike up p (take_out (is_key k) c.forest)
  alike_p =
      let a = left in
      let g = count-parts (is_at up) (is_key k) c.forest in
      let h = c.indexed.once up in
      alike up p (take_out (is_key k) c.forest) (omega arith) (omega arith) row_left

  pub apart : k ≢ p
  apart e =
      let a = left in
      let z = count-take_out (is_key k) c.forest in
      let y = ap (λ m. count (is_key m) (take_out (is_key k) c.forest)) e in
      absurd (omega arith)

  pub moved_arena : (s' : Slab Cell) (old : ℕ) (at : Option ℕ) → Moves (look_in s) (look_in s') k old p at
      → Becomes s' paths (put_in (is_path up) at (pick (is_path path) v) (take_out (is_path path) v))
  moved_arena s' old at w =
      becomes s' paths (move (look_in s) (look_in s') k old p at w c.forest) (put_in (is_path up) at (pick (is_path path) v) (take_out (is_path path) v)) after refl
      (rows_moved (look_in s) (look_in s') k old p at w path up c.forest alike_k alike_p
      ∙ ap (λ g. put_in (is_path up) at (pick (is_path path) g) (take_out (is_path path) g)) (sym (seen s paths c) ∙ view))
    where
      after : IsArena s' paths
      after = record {
        forest = move (look_in s) (look_in s') k old p at w c.forest;
        held = table_moved (look_in s) (look_in s') k old p at w c.forest c.held one left;
        indexed = index_moved (look_in s) (look_in s') k old p at w paths c.forest c.indexed c.held.nodes one left;
      }

-- a row that is left was there
pub has_left : (p q : Row → Bool) (f : Forest Row) → has p (take_out q f) ≡ true → has p f ≡ true
has_left p q f h = has-count p f (let a = count-has p (take_out q f) h in let b = row_parts in omega arith)
  where
    row_parts : count p (pick q f) + count p (take_out q f) ≡ count p f
    row_parts = count-parts p q f

-- a root moves nowhere: nothing is left of its tree
two_roots : (x y : ℕ) (l : List ℕ) (root : Option ℕ) → x ∷ y ∷ l ≡ option_to_list root → ⊥
two_roots x y l None e = cc
two_roots x y l (Some z) e = cc

only_root : (look : ℕ → Option (Kept Row)) (paths : Paths) (path up : List ℕ) (k : ℕ) (g : Forest (Node Row)) (x : Kept Row) → HoldsBelow look None g → IsIndexed paths g → 1 ≤ count (is_row path k) g → count (is_key k) g ≤ 1
    → look k ≡ Some x → x.parent ≡ None → has (is_path up) (take_out (is_path path) (rows g)) ≡ true → ⊥
only_root look paths path up k nil x h a l few e n z = absurd (omega arith)
only_root look paths path up k (tree b c (tree d m r)) x h a l few e n z = two_roots b.key d.key (keys r) paths.root a.root
only_root look paths path up k (tree b c nil) x h a l few e n z =
    by (b.key == k) (is_at path b) (at_top look k (tree b c nil) x h (let y = (row_le path k (tree b c nil)).0 in omega arith) e n) (alike path k (tree b c nil) few (a.once path) l).0 z
  where
    by : (m d : Bool) → cond m true false ≡ true → m ≡ d → has (is_path up) (cond d nil (tree b.row (take_out (is_path path) (rows c)) nil)) ≡ true → ⊥
    by true true s t z = cc
    by true false s t z = cc
    by false d s t z = cc

pub no_parent : (s : Slab Cell) (paths : Paths) (v : Forest Row) (path up : List ℕ) (k : ℕ) → IsArena s paths → rows_of s paths ≡ v → get_by_text paths.index path ≡ Some k
    → parent_in (look_in s k) ≡ None → has (is_path up) (take_out (is_path path) v) ≡ true → ⊥
no_parent s paths v path up k c view known top outside =
    let x = there_is s k (key_there s paths path k c known) in
    only_root (look_in s) paths path up k c.forest x.0 c.held.nodes c.indexed ((c.indexed.index path k).0 known) (c.held.once k)
    x.1 (x.2 ∙ top) (ap (λ g. has (is_path up) (take_out (is_path path) g)) (sym (seen s paths c) ∙ view) ∙ outside)

-- nobody is their own parent
pub own_parent : (s : Slab Cell) (paths : Paths) (path : List ℕ) (k old : ℕ) (c : IsArena s paths) → get_by_text paths.index path ≡ Some k → parent_in (look_in s k) ≡ Some old → k ≢ old
own_parent s paths path k old c known up same =
    let x = cut (look_in s) None c.forest k c.held.nodes (key_once s paths path k c known) in
    by (x.out old (sym (ap parent_in x.kept) ∙ up))
  where
    by : (None ≡ Some old) ⊎ (1 ≤ count (is_key old) (take_out (is_key k) c.forest)) → ⊥
    by (inl e) = cc
    by (inr l) = let z = count-take_out (is_key k) c.forest in let y = ap (λ m. count (is_key m) (take_out (is_key k) c.forest)) same in absurd (omega arith)
