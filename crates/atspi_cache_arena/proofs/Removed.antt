-- An arena after a row and all below it are taken out.
use Rattle.std.proofs.Common.{◌≡◌, ◌≢◌, ◌↔◌, ℕ, zero, suc, ◌+◌, ◌≤◌, ◌==◌, Bool, true, false, cond, Option, Some, None, List, [], ◌∷◌, refl, sym, ap, ◌∙◌, subst, arith}
use Rattle.std.specs.Prelude.{filter, not, IsSome}
use Rattle.std.specs.Option.{option_to_list}
use Rattle.std.specs.HashMap.{get_by_text}
use Rattle.std.proofs.lemmas.Bool.{eqb-true, eq-eqb}
use Rattle.slab.specs.Slab.{Slab}
use Rattle.atspi_tree_model.specs.declared.view.Row.{Row}
use Rattle.atspi_tree_model.specs.Forest.{Forest, nil, tree, count, take_out, pick, EachLabel}
use Rattle.atspi_tree_model.specs.News.{is_path}
use Rattle.atspi_tree_model.proofs.Counts.{count-parts}
use Rattle.atspi_tree_model.proofs.Relabel.{relabel-take_out}
use Rattle.atspi_cache_arena.specs.Keys.{Node, Kept, is_key, keys, HoldsBelow, Holds}
use Rattle.atspi_cache_arena.specs.Table.{IsSubtree, look_in, without_child, is_among, times, has_path, path_among, parent_in, root_after}
use Rattle.atspi_cache_arena.specs.Arena.{is_at, is_row, IsIndexed, IsArena, rows_of}
use Rattle.atspi_cache_arena.specs.declared.cell.Cell.{Cell}
use Rattle.atspi_cache_arena.specs.declared.paths.Paths.{Paths}
use Rattle.atspi_cache_arena.proofs.Held.{holds-take_out, keys-take_out, filter_none, child_parent, top_parent}
use Rattle.atspi_cache_arena.proofs.Walk.{HoldsAny, holds_any, any_pick}
use Rattle.atspi_cache_arena.proofs.Shown.{rows, seen, Becomes, becomes}
use Rattle.atspi_cache_arena.proofs.Inserted.{row_le, key_once, one_test}

pub take_out-alike : (p q : Node Row → Bool) (f : Forest (Node Row)) → EachLabel (λ a. p a ≡ q a) f → take_out p f ≡ take_out q f
take_out-alike p q nil e = refl
take_out-alike p q (tree a c r) e = rw (e.0, take_out-alike p q c e.1, take_out-alike p q r e.2) refl

pub among-times : (n : ℕ) (xs : List ℕ) → times n xs ≡ 0 → is_among n xs ≡ false
among-times n [] e = refl
among-times n (x ∷ xs) e = at (x == n) e (λ z. among-times n xs z)
  where
    at : (b : Bool) → cond b 1 0 + times n xs ≡ 0 → (times n xs ≡ 0 → is_among n xs ≡ false) → cond b true (is_among n xs) ≡ false
    at true e ih = absurd (omega arith)
    at false e ih = ih (omega arith)

pub times-among : (n : ℕ) (xs : List ℕ) → 1 ≤ times n xs → is_among n xs ≡ true
times-among n [] e = absurd (omega arith)
times-among n (x ∷ xs) e = at (x == n) e (λ z. times-among n xs z)
  where
    at : (b : Bool) → 1 ≤ cond b 1 0 + times n xs → (1 ≤ times n xs → is_among n xs ≡ true) → cond b true (is_among n xs) ≡ true
    at true e ih = refl
    at false e ih = ih (omega arith)

-- what a removal writes: k out of the list of its parent, and each cell of the subtree gone
pub record Takes (look look' : ℕ → Option (Kept Row)) (k : ℕ) (up : Option ℕ) (ks : List ℕ) : Type 0 where
  pub there : (x : Kept Row) × (look k ≡ Some x) × (x.parent ≡ up)
  pub gone : (n : ℕ) → is_among n ks ≡ true → look' n ≡ None
  pub parent : (p : ℕ) → up ≡ Some p → is_among p ks ≡ false → (x : Kept Row) → look p ≡ Some x → look' p ≡ Some (without_child k x)
  pub none : (n : ℕ) → look n ≡ None → look' n ≡ None
  pub others : (n : ℕ) → is_among n ks ≡ false → up ≢ Some n → look' n ≡ look n

module _ (look look' : ℕ → Option (Kept Row)) (k : ℕ) (up : Option ℕ) (ks : List ℕ) (w : Takes look look' k up ks) where
  -- every cell that stays lists k no more
  pub stays : (f : Forest (Node Row)) → Holds look f → (n : ℕ) → 1 ≤ count (is_key n) f → is_among n ks ≡ false → (x : Kept Row) → look n ≡ Some x → look' n ≡ Some (without_child k x)
  stays f h n l out x e = at up refl
    where
      kept_as_is : (up ≡ Some n → ⊥) → look' n ≡ Some (without_child k x)
      kept_as_is apart =
          w.others n out apart ∙ (e ∙ ap (λ (l : List ℕ). Some (record x { children = l }))
          (sym (filter_none k x.children (λ m z s. (let y = child_parent look None f h.nodes n l x e m z in
          let same : Some y.0 ≡ Some w.there.0 = sym y.1 ∙ (ap look s ∙ w.there.1) in
          let yw : y.0 ≡ w.there.0 = cc in
          apart (sym w.there.2 ∙ (ap (λ (z : Kept Row). z.parent) (sym yw) ∙ y.2)))))))

      at : (o : Option ℕ) → up ≡ o → look' n ≡ Some (without_child k x)
      at None eo = kept_as_is (λ z. let y : None ≡ Some n = sym eo ∙ z in cc)
      at (Some p) eo = by (p == n) refl
        where
          by : (b : Bool) → (p == n) ≡ b → look' n ≡ Some (without_child k x)
          by true eb = w.parent n (eo ∙ ap Some (eqb-true p n eb)) out x e
          by false eb = kept_as_is (λ z. let y : Some p ≡ Some n = sym eo ∙ z in let same : p ≡ n = cc in let t = eq-eqb p n same in cc)

  pub holds_less : (f : Forest (Node Row)) → Holds look f → IsSubtree k f ks → Holds look' (take_out (is_key k) f)
  holds_less f h sub = record {
    nodes = holds-take_out look look' k None f (λ n l x e. stays f h n (let p = count-parts (is_key n) (is_key k) f in omega arith) (out n l) x e) h.nodes;
    once = λ n. (let p = count-parts (is_key n) (is_key k) f in let z = h.once n in omega arith);
    only = λ n z. absent n z (times n ks) refl;
  }
    where
      out : (n : ℕ) → 1 ≤ count (is_key n) (take_out (is_key k) f) → is_among n ks ≡ false
      out n l = among-times n ks (let p = count-parts (is_key n) (is_key k) f in let z = h.once n in let s = sub n in omega arith)

      absent : (n : ℕ) → count (is_key n) (take_out (is_key k) f) ≡ 0 → (i : ℕ) → times n ks ≡ i → look' n ≡ None
      absent n z (suc i) e = w.gone n (times-among n ks (omega arith))
      absent n z zero e =
          let p = count-parts (is_key n) (is_key k) f in
          let s = sub n in
          w.none n (h.only n (omega arith))

-- the row of a key in a forest that a table has
path_at : (look : ℕ → Option (Kept Row)) (q : List ℕ) (k : ℕ) (g : Forest (Node Row)) → HoldsAny look g → 1 ≤ count (is_key k) g → has_path q (look k) ≡ true → 1 ≤ count (is_at q) g
path_at look q k nil h l z = absurd (omega arith)
path_at look q k (tree a c r) h l z =
    at (a.key == k) refl (count (is_key k) c) refl l (λ l. path_at look q k c h.1 l z) (λ l. path_at look q k r h.2 l z)
  where
    at : (b : Bool) → (a.key == k) ≡ b → (i : ℕ) → count (is_key k) c ≡ i → 1 ≤ cond b 1 0 + (count (is_key k) c + count (is_key k) r)
        → (1 ≤ count (is_key k) c → 1 ≤ count (is_at q) c) → (1 ≤ count (is_key k) r → 1 ≤ count (is_at q) r) → 1 ≤ count (is_at q) (tree a c r)
    at true eb i ei l hc hr =
        let same : is_at q a ≡ true = sym (ap (has_path q) h.0.1) ∙ (ap (λ n. has_path q (look n)) (eqb-true a.key k eb) ∙ z) in
        let t : cond {A = ℕ} (is_at q a) 1 0 ≡ 1 = ap (λ b. cond {A = ℕ} b 1 0) same in
        omega arith
    at false eb (suc i) ei l hc hr = let z = hc (omega arith) in omega arith
    at false eb zero ei l hc hr = let z = hr (omega arith) in omega arith

row_at : (look : ℕ → Option (Kept Row)) (q : List ℕ) (k : ℕ) (g : Forest (Node Row)) → HoldsAny look g → 1 ≤ count (is_row q k) g → has_path q (look k) ≡ true
row_at look q k nil h l = absurd (omega arith)
row_at look q k (tree a c r) h l =
    at (a.key == k) refl (is_at q a) refl (count (is_row q k) c) refl l (λ l. row_at look q k c h.1 l) (λ l. row_at look q k r h.2 l)
  where
    at : (b : Bool) → (a.key == k) ≡ b → (d : Bool) → is_at q a ≡ d → (i : ℕ) → count (is_row q k) c ≡ i → 1 ≤ cond (cond b d false) 1 0 + (count (is_row q k) c + count (is_row q k) r)
        → (1 ≤ count (is_row q k) c → has_path q (look k) ≡ true) → (1 ≤ count (is_row q k) r → has_path q (look k) ≡ true) → has_path q (look k) ≡ true
    at true eb true ed i ei l hc hr = ap (λ n. has_path q (look n)) (sym (eqb-true a.key k eb)) ∙ (ap (has_path q) h.0.1 ∙ ed)
    at b eb d ed (suc i) ei l hc hr = hc (omega arith)
    at true eb false ed zero ei l hc hr = hr (omega arith)
    at false eb d ed zero ei l hc hr = hr (omega arith)

among_path : (look : ℕ → Option (Kept Row)) (k : ℕ) (q : List ℕ) (ys : List ℕ) → 1 ≤ times k ys → has_path q (look k) ≡ true → path_among look q ys ≡ true
among_path look k q [] e h = absurd (omega arith)
among_path look k q (y ∷ ys) e h = at (y == k) refl (λ z. among_path look k q ys z h) e
  where
    at : (b : Bool) → (y == k) ≡ b → (1 ≤ times k ys → path_among look q ys ≡ true) → 1 ≤ cond b 1 0 + times k ys → cond (has_path q (look y)) true (path_among look q ys) ≡ true
    at true eb ih z = let t : has_path q (look y) ≡ true = ap (λ n. has_path q (look n)) (eqb-true y k eb) ∙ h in rw t refl
    at false eb ih z = rw (ih (omega arith)) (any (has_path q (look y)))
      where
        any : (b : Bool) → cond b true true ≡ true
        any true = refl
        any false = refl

-- a path among those of the keys is that of a row in the subtree
path_row : (look : ℕ → Option (Kept Row)) (q : List ℕ) (ks : List ℕ) (g : Forest (Node Row)) → HoldsAny look g → ((n : ℕ) → 1 ≤ times n ks → 1 ≤ count (is_key n) g)
    → path_among look q ks ≡ true → 1 ≤ count (is_at q) g
path_row look q [] g h sub e = cc
path_row look q (k ∷ ks) g h sub e =
    at (has_path q (look k)) refl (λ z. path_row look q ks g h (λ n l. sub n (omega arith)) z) e
  where
    at : (b : Bool) → has_path q (look k) ≡ b → (path_among look q ks ≡ true → 1 ≤ count (is_at q) g) → cond b true (path_among look q ks) ≡ true → 1 ≤ count (is_at q) g
    at true eb ih z = path_at look q k g h (sub k (let t : cond {A = ℕ} (k == k) 1 0 ≡ 1 = ap (λ b. cond {A = ℕ} b 1 0) (eq-eqb k k refl) in omega arith)) eb
    at false eb ih z = ih z

-- who has no parent is at the top
orphan : (look : ℕ → Option (Kept Row)) (u k : ℕ) (g : Forest (Node Row)) (x : Kept Row) → HoldsBelow look (Some u) g → 1 ≤ count (is_key k) g → look k ≡ Some x → x.parent ≡ None → ⊥
orphan look u k nil x h l e n = absurd (omega arith)
orphan look u k (tree a c r) x h l e n =
    at (a.key == k) refl (count (is_key k) c) refl l (λ l. orphan look a.key k c x h.1 l e n) (λ l. orphan look u k r x h.2 l e n)
  where
    at : (b : Bool) → (a.key == k) ≡ b → (i : ℕ) → count (is_key k) c ≡ i → 1 ≤ cond b 1 0 + (count (is_key k) c + count (is_key k) r) → (1 ≤ count (is_key k) c → ⊥) → (1 ≤ count (is_key k) r → ⊥) → ⊥
    at true eb i ei l hc hr = let w : Some x ≡ Some (record { row = a.row; children = keys c; parent = Some u }) = sym e ∙ (ap look (sym (eqb-true a.key k eb)) ∙ h.0) in let y : x.parent ≡ Some u = cc in cc
    at false eb (suc i) ei l hc hr = hc (omega arith)
    at false eb zero ei l hc hr = hr (omega arith)

pub at_top : (look : ℕ → Option (Kept Row)) (k : ℕ) (g : Forest (Node Row)) (x : Kept Row) → HoldsBelow look None g → 1 ≤ count (is_key k) g → look k ≡ Some x → x.parent ≡ None → is_among k (keys g) ≡ true
at_top look k nil x h l e n = absurd (omega arith)
at_top look k (tree a c r) x h l e n =
    at (a.key == k) (count (is_key k) c) refl l (λ l. orphan look a.key k c x h.1 l e n) (λ l. at_top look k r x h.2 l e n)
  where
    at : (b : Bool) → (i : ℕ) → count (is_key k) c ≡ i → 1 ≤ cond b 1 0 + (count (is_key k) c + count (is_key k) r) → (1 ≤ count (is_key k) c → ⊥) → (1 ≤ count (is_key k) r → is_among k (keys r) ≡ true)
        → cond b true (is_among k (keys r)) ≡ true
    at true i ei l hc hr = refl
    at false (suc i) ei l hc hr = absurd (hc (omega arith))
    at false zero ei l hc hr = hr (omega arith)

module _ (look look' : ℕ → Option (Kept Row)) (k : ℕ) (up : Option ℕ) (ks : List ℕ) (w : Takes look look' k up ks) where
  pub top_less : (f : Forest (Node Row)) → HoldsBelow look None f → 1 ≤ count (is_key k) f → (root : Option ℕ) → keys f ≡ option_to_list root
      → (o : Option ℕ) → up ≡ o → filter (λ n. not (n == k)) (keys f) ≡ option_to_list (root_after o root)
  top_less f h l root e (Some p) eo =
      filter_none k (keys f) (λ m z s. (let y = top_parent look None f h m z in
      let same : Some y.0 ≡ Some w.there.0 = sym y.1 ∙ (ap look s ∙ w.there.1) in
      let yw : y.0 ≡ w.there.0 = cc in
      let t : None ≡ Some p = sym y.2 ∙ (ap (λ (z : Kept Row). z.parent) yw ∙ (w.there.2 ∙ eo)) in cc)) ∙ e
  top_less f h l root e None eo = rw e (by root (subst (λ l. is_among k l ≡ true) e (at_top look k f w.there.0 h l w.there.1 (w.there.2 ∙ eo))))
    where
      by : (root : Option ℕ) → is_among k (option_to_list root) ≡ true → filter (λ n. not (n == k)) (option_to_list root) ≡ []
      by None z = cc
      by (Some r) z = at (r == k) z
        where
          at : (b : Bool) → cond b true false ≡ true → cond (not b) (r ∷ []) [] ≡ []
          at true z = refl
          at false z = cc

  pub index_less : (paths paths' : Paths) (f : Forest (Node Row)) → IsIndexed paths f → HoldsBelow look None f → 1 ≤ count (is_key k) f → IsSubtree k f ks → paths'.root ≡ root_after up paths.root
      → ((q : List ℕ) → get_by_text paths'.index q ≡ cond (path_among look q ks) None (get_by_text paths.index q)) → IsIndexed paths' (take_out (is_key k) f)
  index_less paths paths' f a h l sub root ix = record {
    root = keys-take_out k f ∙ (top_less f h l paths.root a.root up refl ∙ ap option_to_list (sym root));
    index = λ q m. exact q m (path_among look q ks) refl;
    once = λ q. (let p = count-parts (is_at q) (is_key k) f in let z = a.once q in omega arith);
  }
    where
      any : HoldsAny look (pick (is_key k) f)
      any = any_pick look (is_key k) f (holds_any look None f h)

      exact : (q : List ℕ) (m : ℕ) (b : Bool) → path_among look q ks ≡ b → (get_by_text paths'.index q ≡ Some m) ↔ (1 ≤ count (is_row q m) (take_out (is_key k) f))
      exact q m true e =
          let g : get_by_text paths'.index q ≡ None = ix q ∙ ap (λ b. cond b None (get_by_text paths.index q)) e in
          let p = count-parts (is_at q) (is_key k) f in
          let z = a.once q in
          let y = path_row look q ks (pick (is_key k) f) any (λ n l. (let s = sub n in omega arith)) e in
          let r = (row_le q m (take_out (is_key k) f)).1 in
          ((λ x. let t : None ≡ Some m = sym g ∙ x in cc), (λ x. absurd (omega arith)))
      exact q m false e =
          let g : get_by_text paths'.index q ≡ get_by_text paths.index q = ix q ∙ ap (λ b. cond b None (get_by_text paths.index q)) e in
          let p = count-parts (is_row q m) (is_key k) f in
          let o = a.index q m in
          ((λ x. left (count (is_row q m) (pick (is_key k) f)) refl (o.0 (sym g ∙ x))), (λ x. g ∙ o.1 (omega arith)))
        where
          left : (i : ℕ) → count (is_row q m) (pick (is_key k) f) ≡ i → 1 ≤ count (is_row q m) f → 1 ≤ count (is_row q m) (take_out (is_key k) f)
          left zero ei y = let p = count-parts (is_row q m) (is_key k) f in omega arith
          left (suc i) ei y =
              let r = (row_le q m (pick (is_key k) f)).0 in
              let s = sub m in
              let t = among_path look m q ks (omega arith) (row_at look q m (pick (is_key k) f) any (omega arith)) in cc

pub removed : (s s' : Slab Cell) (paths paths' : Paths) (v : Forest Row) (path : List ℕ) (k : ℕ) (up : Option ℕ) (ks : List ℕ)
    → (c : IsArena s paths) → rows_of s paths ≡ v → get_by_text paths.index path ≡ Some k
    → Takes (look_in s) (look_in s') k up ks → IsSubtree k c.forest ks
    → paths'.root ≡ root_after up paths.root → ((q : List ℕ) → get_by_text paths'.index q ≡ cond (path_among (look_in s) q ks) None (get_by_text paths.index q))
    → Becomes s' paths' (take_out (is_path path) v)
removed s s' paths paths' v path k up ks c view known w sub root ix =
    becomes s' paths' (take_out (is_key k) c.forest) (take_out (is_path path) v) after refl
    (ap rows (take_out-alike (is_key k) (is_at path) c.forest (one_test s paths path k c known))
    ∙ (sym (relabel-take_out (λ n. n.row) (is_path path) (is_at path) (λ a. refl) c.forest)
    ∙ ap (take_out (is_path path)) (sym (seen s paths c) ∙ view)))
  where
    after : IsArena s' paths'
    after = record {
      forest = take_out (is_key k) c.forest;
      held = holds_less (look_in s) (look_in s') k up ks w c.forest c.held sub;
      indexed = index_less (look_in s) (look_in s') k up ks w paths paths' c.forest c.indexed c.held.nodes (let z = key_once s paths path k c known in omega arith) sub root ix;
    }

-- what was there, after the call
pub there_is : (s : Slab Cell) (k : ℕ) → IsSome (look_in s k) → (x : Kept Row) × (look_in s k ≡ Some x) × (x.parent ≡ parent_in (look_in s k))
there_is s k h = by (look_in s k) refl h
  where
    by : (o : Option (Kept Row)) → look_in s k ≡ o → IsSome o → (x : Kept Row) × (look_in s k ≡ Some x) × (x.parent ≡ parent_in (look_in s k))
    by None e h = cc
    by (Some x) e h = (x, e, sym (ap parent_in e))
