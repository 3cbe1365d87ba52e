-- In the view of any items, and after any news, nothing but the root stands at the top.
use Rattle.std.proofs.Common.{◌≡◌, ℕ, ◌+◌, ◌≤◌, Bool, true, false, cond, Option, Some, None, List, [], ◌∷◌, refl, sym, ap, ◌∙◌, arith}
use Rattle.std.specs.Prelude.{ℤ, pos, negsuc, length, filter, bytes_eq}
use Rattle.std.proofs.lemmas.Slice.Eq.{bytes_eq-Decides}
use Rattle.atspi_tree_model.specs.declared.view.Row.{Row}
use Rattle.atspi_tree_model.specs.declared.news.Item.{Item}
use Rattle.atspi_tree_model.specs.declared.news.News.{News}
use Rattle.atspi_tree_model.specs.declared.news.News.TheVariants.{Removed, ChildAdded, ChildRemoved, Name, Description, Role, State, Inserted, Deleted, Caret, TextIs, CaretIs, ColumnsIs, Nothing, Item as NewItem}
use Rattle.atspi_tree_model.specs.Forest.{Forest, nil, tree, has, put_in, take_out, pick, relabel, change, graft, grow}
use Rattle.atspi_tree_model.specs.News.{is_path, names, spot, renewed, fresh, moved, added, item_effect, is_seat_at, seat_in, effect, children_in, own_items, load}
use Rattle.atspi_tree_model.specs.Laws.{RootAlone, IsView}
use Rattle.atspi_tree_model.proofs.Once.{many, of_object, firsts_once, load_once}
use Rattle.atspi_tree_model.proofs.NewsKept.{once_after}

module _ (root : List ℕ) where
  -- the empty view, and one with a row of the root at its top
  nil_alone : RootAlone root nil
  nil_alone = record { paths = tt; alone = omega arith }

  one_alone : (row : Row) (c : Forest Row) → row.path ≡ root → RootAlone root (tree row c nil)
  one_alone row c e = record { paths = (e, tt); alone = omega arith }

  -- by its shape: what keeps the empty view and such a view keeps all
  cases_alone : (P : Forest Row → Type 0) → P nil
      → ((row : Row) (c : Forest Row) → row.path ≡ root → P (tree row c nil)) → (v : Forest Row) → RootAlone root v
      → P v
  cases_alone P n o nil h = n
  cases_alone P n o (tree row c nil) h = o row c h.paths.0
  cases_alone P n o (tree row c (tree row' c' r)) h = absurd (let l = h.alone in omega arith)

  alone_change : (q : Row → Bool) (h : Row → Row) → ((row : Row) → (h row).path ≡ row.path) → (v : Forest Row)
      → RootAlone root v → RootAlone root (change q h v)
  alone_change q h same = cases_alone (λ v. RootAlone root (change q h v)) nil_alone (λ row c e. one_alone (cond (q row) (h row) row) (change q h c) (at row (q row) ∙ e))
    where
      at : (row : Row) (b : Bool) → (cond b (h row) row).path ≡ row.path
      at row true = same row
      at row false = refl

  alone_put_in : (q : Row → Bool) (i : Option ℕ) (g v : Forest Row) → RootAlone root v
      → RootAlone root (put_in q i g v)
  alone_put_in q i g = cases_alone (λ v. RootAlone root (put_in q i g v)) nil_alone (λ row c e. one_alone row _ e)

  -- what is not the root's is taken out below it
  alone_take_out : (path : List ℕ) → (path ≡ root → ⊥) → (v : Forest Row) → RootAlone root v
      → RootAlone root (take_out (is_path path) v)
  alone_take_out path ne = cases_alone (λ v. RootAlone root (take_out (is_path path) v)) nil_alone (λ row c e. at row c e (bytes_eq row.path path) refl)
    where
      at : (row : Row) (c : Forest Row) → row.path ≡ root → (b : Bool) → bytes_eq row.path path ≡ b
          → RootAlone root (cond b nil (tree row (take_out (is_path path) c) nil))
      at row c e true k = absurd (ne (sym ((bytes_eq-Decides row.path path).0 k) ∙ e))
      at row c e false k = one_alone row (take_out (is_path path) c) e

  differs : (path : List ℕ) → bytes_eq path root ≡ false → path ≡ root → ⊥
  differs path h e = let k = (bytes_eq-Decides path root).1 e in cc

  alone_if : (b : Bool) (v w : Forest Row) → RootAlone root v → RootAlone root w → RootAlone root (cond b v w)
  alone_if true v w h k = h
  alone_if false v w h k = k

  alone_item : (bus : List ℕ) (item : Item) (v : Forest Row) → RootAlone root v
      → RootAlone root (item_effect root bus item v)
  alone_item bus item v h = at (bytes_eq item.object.bus bus) (bytes_eq item.object.path root) (has (is_path item.object.path) v) refl
    where
      at : (b d e : Bool) → bytes_eq item.object.path root ≡ d
          → RootAlone root (cond b (cond d (change (is_path root) (renewed item) v)
          (cond e (moved (is_path item.object.path) (names bus item.parent) item v) (added (names bus item.parent) item v))) v)
      at true true e k = alone_change (is_path root) (renewed item) (λ row. refl) v h
      at true false true k =
          alone_if (has (names bus item.parent) (take_out (is_path item.object.path) v)) _ v
          (alone_change (is_path item.object.path) (renewed item) (λ row. refl) _
          (alone_put_in (names bus item.parent) (spot item.index) (pick (is_path item.object.path) v) (take_out (is_path item.object.path) v) (alone_take_out item.object.path (differs item.object.path k) v h))) h
      at true false false k = alone_if (has (names bus item.parent) v) _ v (alone_put_in (names bus item.parent) (spot item.index) _ v h) h
      at false d e k = h

  alone_removed : (path : List ℕ) (v : Forest Row) → RootAlone root v
      → RootAlone root (cond (bytes_eq path root) v (take_out (is_path path) v))
  alone_removed path v h = at (bytes_eq path root) refl
    where
      at : (b : Bool) → bytes_eq path root ≡ b → RootAlone root (cond b v (take_out (is_path path) v))
      at true k = h
      at false k = alone_take_out path (differs path k) v h

  -- the row at the top has no seat below a parent
  alone_child : (p : List ℕ) (i : ℤ) (child : List ℕ) (v : Forest Row) → RootAlone root v
      → RootAlone root (cond (is_seat_at p i (seat_in child v)) (take_out (is_path child) v) v)
  alone_child p i child = cases_alone (λ v. RootAlone root (cond (is_seat_at p i (seat_in child v)) (take_out (is_path child) v) v)) (alone_if (is_seat_at p i None) nil nil nil_alone nil_alone)
      (λ row c e. at i row c e (bytes_eq row.path child) _)
    where
      at : (i : ℤ) (row : Row) (c : Forest Row) → row.path ≡ root → (b : Bool) (o : Option (Option (List ℕ) × ℕ))
          → RootAlone root (cond (is_seat_at p i (cond b (Some (None, 0)) o)) (cond b nil (tree row (take_out (is_path child) c) nil)) (tree row c nil))
      at (pos i) row c e true o = one_alone row c e
      at (negsuc i) row c e true o = one_alone row c e
      at i row c e false o = alone_if (is_seat_at p i o) (tree row (take_out (is_path child) c) nil) (tree row c nil) (one_alone row _ e) (one_alone row c e)

  alone_after : (bus : List ℕ) (v : Forest Row) (news : News) → RootAlone root v
      → RootAlone root (effect root bus v news)
  alone_after bus v (NewItem item) h = alone_item bus item v h
  alone_after bus v (Removed p) h = alone_removed p v h
  alone_after bus v (ChildAdded p) h = h
  alone_after bus v (ChildRemoved p i child) h = alone_child p i child v h
  alone_after bus v (Name p x) h = alone_change (is_path p) _ (λ row. refl) v h
  alone_after bus v (Description p x) h = alone_change (is_path p) _ (λ row. refl) v h
  alone_after bus v (Role p x) h = alone_change (is_path p) _ (λ row. refl) v h
  alone_after bus v (State p s on) h = alone_change (is_path p) _ (λ row. refl) v h
  alone_after bus v (Inserted p i x) h = alone_change (is_path p) _ (λ row. refl) v h
  alone_after bus v (Deleted p i n x) h = alone_change (is_path p) _ (λ row. refl) v h
  alone_after bus v (Caret p i) h = alone_change (is_path p) _ (λ row. refl) v h
  alone_after bus v (TextIs p x) h = alone_change (is_path p) _ (λ row. refl) v h
  alone_after bus v (CaretIs p i) h = alone_change (is_path p) _ (λ row. refl) v h
  alone_after bus v (ColumnsIs p n) h = alone_change (is_path p) _ (λ row. refl) v h
  alone_after bus v Nothing h = h

  -- the items that a load begins with are of the root
  top_items : (below : Item → Forest Item) (xs : List Item) → many (of_object root) (filter (of_object root) xs) ≤ 1
      → RootAlone root (relabel fresh (graft below (filter (of_object root) xs)))
  top_items below [] l = nil_alone
  top_items below (x ∷ xs) l = at (of_object root x) refl l (top_items below xs)
    where
      none : (ys : List Item) → many (of_object root) (filter (of_object root) ys) ≤ 0
          → filter (of_object root) ys ≡ []
      none [] l = refl
      none (y ∷ ys) l = none_at (of_object root y) refl l (none ys)
        where
          none_at : (b : Bool) → of_object root y ≡ b
              → many (of_object root) (cond b (y ∷ filter (of_object root) ys) (filter (of_object root) ys)) ≤ 0
              → (many (of_object root) (filter (of_object root) ys) ≤ 0 → filter (of_object root) ys ≡ [])
              → cond b (y ∷ filter (of_object root) ys) (filter (of_object root) ys) ≡ []
          none_at true e l ih = let w : cond {A = ℕ} (of_object root y) 1 0 ≡ 1 = ap (λ b. cond {A = ℕ} b 1 0) e in absurd (omega arith)
          none_at false e l ih = ih l

      at : (b : Bool) → of_object root x ≡ b
          → many (of_object root) (cond b (x ∷ filter (of_object root) xs) (filter (of_object root) xs)) ≤ 1
          → (many (of_object root) (filter (of_object root) xs) ≤ 1 → RootAlone root (relabel fresh (graft below (filter (of_object root) xs))))
          → RootAlone root (relabel fresh (graft below (cond b (x ∷ filter (of_object root) xs) (filter (of_object root) xs))))
      at true e l ih =
          let w : cond {A = ℕ} (of_object root x) 1 0 ≡ 1 = ap (λ b. cond {A = ℕ} b 1 0) e in
          rw (none xs (omega arith)) (one_alone (fresh x) (relabel fresh (below x)) ((bytes_eq-Decides x.object.path root).0 e))
      at false e l ih = ih l

  many-filter : (xs : List Item) → many (of_object root) (filter (of_object root) xs) ≡ many (of_object root) xs
  many-filter [] = refl
  many-filter (x ∷ xs) = at (of_object root x) refl (many-filter xs)
    where
      at : (b : Bool) → of_object root x ≡ b
          → many (of_object root) (filter (of_object root) xs) ≡ many (of_object root) xs
          → many (of_object root) (cond b (x ∷ filter (of_object root) xs) (filter (of_object root) xs)) ≡ cond b 1 0 + many (of_object root) xs
      at true e h = rw (e, h) refl
      at false e h = omega arith

  alone_load : (bus : List ℕ) (items : List Item) → RootAlone root (load root bus items)
  alone_load bus items =
      top_items (λ x. grow (length items) (children_in root bus (own_items bus items)) (children_in root bus (own_items bus items) x)) (own_items bus items)
      (let a = many-filter (own_items bus items) in let b = firsts_once root (filter (λ (it : Item). bytes_eq it.object.bus bus) items) in omega arith)

  pub load_is_view : (bus : List ℕ) (items : List Item) → IsView root (load root bus items)
  load_is_view bus items = record { once = load_once root bus items; rooted = alone_load bus items }

  pub news_keep_view : (bus : List ℕ) (v : Forest Row) (news : News) → IsView root v
      → IsView root (effect root bus v news)
  news_keep_view bus v news h = record { once = once_after root bus v news h.once; rooted = alone_after bus v news h.rooted }
