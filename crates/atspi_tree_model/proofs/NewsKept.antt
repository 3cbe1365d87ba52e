-- Any news, a stranger's too, leaves each path of a view once.
use Rattle.std.proofs.Common.{◌≡◌, ℕ, zero, suc, ◌+◌, ◌≤◌, Bool, true, false, cond, refl, ap, subst, arith}
use Rattle.std.specs.Prelude.{List}
use Rattle.std.specs.Str.{bytes_eq}
use Rattle.std.proofs.Math.Nat.{mul-le-mul_right}
use Rattle.std.proofs.lemmas.Slice.Eq.{bytes_eq-Decides}
use Rattle.atspi_tree_model.specs.declared.view.Row.{Row}
use Rattle.atspi_tree_model.specs.declared.news.Reference.{Reference}
use Rattle.atspi_tree_model.specs.declared.news.Item.{Item}
use Rattle.atspi_tree_model.specs.declared.news.News.{News}
use Rattle.atspi_tree_model.specs.declared.news.News.TheVariants.{Removed, ChildAdded, ChildRemoved, Name, Description, Role, State, Inserted, Deleted, Caret, TextIs, CaretIs, ColumnsIs, Nothing, Item as NewItem}
use Rattle.atspi_tree_model.specs.Forest.{Forest, nil, tree, count, has, put_in, take_out, pick, change}
use Rattle.atspi_tree_model.specs.News.{is_path, names, spot, renewed, fresh, moved, added, item_effect, is_seat_at, seat_in, effect}
use Rattle.atspi_tree_model.specs.Laws.{EachPathOnce}
use Rattle.atspi_tree_model.proofs.Counts.{count-parts, count-put_in}
use Rattle.atspi_tree_model.proofs.Relabel.{count-relabel}
use Rattle.atspi_tree_model.proofs.Found.{has-count}
use Rattle.atspi_tree_model.proofs.Once.{count-le}

count-change : (q : Row → Bool) (h : Row → Row) → ((row : Row) → (h row).path ≡ row.path)
    → (v : Forest Row) (p : List ℕ) → count (is_path p) (change q h v) ≡ count (is_path p) v
count-change q h e v p = count-relabel (λ row. cond (q row) (h row) row) (is_path p) (is_path p) (λ row. at row (q row)) v
  where
    at : (row : Row) (b : Bool) → is_path p (cond b (h row) row) ≡ is_path p row
    at row true = ap (λ x. bytes_eq x p) (e row)
    at row false = refl

once_change : (q : Row → Bool) (h : Row → Row) → ((row : Row) → (h row).path ≡ row.path) → (v : Forest Row)
    → EachPathOnce v → EachPathOnce (change q h v)
once_change q h e v o p = let c = count-change q h e v p in let l = o p in omega arith

once_take_out : (q : Row → Bool) (v : Forest Row) → EachPathOnce v → EachPathOnce (take_out q v)
once_take_out q v o p = let c = count-parts (is_path p) q v in let l = o p in omega arith

-- a reference names one row at most
names_once : (bus : List ℕ) (r : Reference) (v : Forest Row) → EachPathOnce v → count (names bus r) v ≤ 1
names_once bus r v o =
    let l = count-le (names bus r) (is_path r.path) (λ row. at (bytes_eq r.bus bus) (is_path r.path row)) v in
    let k = o r.path in
    omega arith
  where
    at : (b d : Bool) → cond b d false ≡ true → d ≡ true
    at true d e = e
    at false d e = cc

once_moved : (q : Row → Bool) (bus : List ℕ) (it : Item) (v : Forest Row) → EachPathOnce v
    → EachPathOnce (moved q (names bus it.parent) it v)
once_moved q bus it v o = at (has (names bus it.parent) (take_out q v))
  where
    placed : EachPathOnce (put_in (names bus it.parent) (spot it.index) (pick q v) (take_out q v))
    placed p =
        let a = count-put_in (is_path p) (names bus it.parent) (spot it.index) (pick q v) (take_out q v) in
        let b = mul-le-mul_right (count (is_path p) (pick q v)) (names_once bus it.parent (take_out q v) (once_take_out q v o)) in
        let c = count-parts (is_path p) q v in
        let l = o p in
        omega arith

    at : (b : Bool)
        → EachPathOnce (cond b (change q (renewed it) (put_in (names bus it.parent) (spot it.index) (pick q v) (take_out q v))) v)
    at true = once_change q (renewed it) (λ row. refl) _ placed
    at false = o

once_added : (bus : List ℕ) (it : Item) (v : Forest Row) → EachPathOnce v → has (is_path it.object.path) v ≡ false
    → EachPathOnce (added (names bus it.parent) it v)
once_added bus it v o new = at (has (names bus it.parent) v)
  where
    none : count (is_path it.object.path) v ≡ 0
    none = zero_at (count (is_path it.object.path) v) refl
      where
        zero_at : (k : ℕ) → count (is_path it.object.path) v ≡ k → count (is_path it.object.path) v ≡ 0
        zero_at zero e = e
        zero_at (suc k) e = let t = has-count (is_path it.object.path) v (omega arith) in cc

    one_at : (p : List ℕ) (b : Bool) → is_path p (fresh it) ≡ b → count (is_path p) v + (cond b 1 0 + 0) ≤ 1
    one_at p true e = let z : count (is_path p) v ≡ 0 = subst (λ x. count (is_path x) v ≡ 0) ((bytes_eq-Decides it.object.path p).0 e) none in omega arith
    one_at p false e = let l = o p in omega arith

    placed : EachPathOnce (put_in (names bus it.parent) (spot it.index) (tree (fresh it) nil nil) v)
    placed p =
        let a = count-put_in (is_path p) (names bus it.parent) (spot it.index) (tree (fresh it) nil nil) v in
        let b = mul-le-mul_right (count (is_path p) (tree (fresh it) nil nil)) (names_once bus it.parent v o) in
        let c = one_at p (is_path p (fresh it)) refl in
        omega arith

    at : (b : Bool)
        → EachPathOnce (cond b (put_in (names bus it.parent) (spot it.index) (tree (fresh it) nil nil) v) v)
    at true = placed
    at false = o

once_item : (root bus : List ℕ) (it : Item) (v : Forest Row) → EachPathOnce v
    → EachPathOnce (item_effect root bus it v)
once_item root bus it v o = at (bytes_eq it.object.bus bus) (bytes_eq it.object.path root) (has (is_path it.object.path) v) refl
  where
    at : (b d h : Bool) → has (is_path it.object.path) v ≡ h
        → EachPathOnce (cond b (cond d (change (is_path root) (renewed it) v) (cond h (moved (is_path it.object.path) (names bus it.parent) it v) (added (names bus it.parent) it v))) v)
    at true true h e = once_change (is_path root) (renewed it) (λ row. refl) v o
    at true false true e = once_moved (is_path it.object.path) bus it v o
    at true false false e = once_added bus it v o e
    at false d h e = o

once_if : (b : Bool) (v w : Forest Row) → EachPathOnce v → EachPathOnce w → EachPathOnce (cond b v w)
once_if true v w o p = o
once_if false v w o p = p

pub once_after : (root bus : List ℕ) (v : Forest Row) (n : News) → EachPathOnce v → EachPathOnce (effect root bus v n)
once_after root bus v (NewItem it) o = once_item root bus it v o
once_after root bus v (Removed p) o = once_if (bytes_eq p root) v _ o (once_take_out (is_path p) v o)
once_after root bus v (ChildAdded p) o = o
once_after root bus v (ChildRemoved p i q) o = once_if (is_seat_at p i (seat_in q v)) _ v (once_take_out (is_path q) v o) o
once_after root bus v (Name p x) o = once_change (is_path p) _ (λ row. refl) v o
once_after root bus v (Description p x) o = once_change (is_path p) _ (λ row. refl) v o
once_after root bus v (Role p x) o = once_change (is_path p) _ (λ row. refl) v o
once_after root bus v (State p s on) o = once_change (is_path p) _ (λ row. refl) v o
once_after root bus v (Inserted p i x) o = once_change (is_path p) _ (λ row. refl) v o
once_after root bus v (Deleted p i n x) o = once_change (is_path p) _ (λ row. refl) v o
once_after root bus v (Caret p i) o = once_change (is_path p) _ (λ row. refl) v o
once_after root bus v (TextIs p x) o = once_change (is_path p) _ (λ row. refl) v o
once_after root bus v (CaretIs p i) o = once_change (is_path p) _ (λ row. refl) v o
once_after root bus v (ColumnsIs p n) o = once_change (is_path p) _ (λ row. refl) v o
once_after root bus v Nothing o = o
