-- The effects of items and of edits of a text, from what was looked up.
use Rattle.std.proofs.Common.{◌≡◌, ℕ, zero, suc, ◌+◌, ◌<◌, ◌≤◌, Bool, true, false, cond, Option, Some, None, List, refl, sym, ap, ◌∙◌, arith}
use Rattle.std.specs.Prelude.{ℤ, pos, negsuc, bytes_eq, is_some, length, nat_le}
use Rattle.std.specs.Option.{option_copied}
use Rattle.std.proofs.lemmas.Bool.{le-leb, leb-true}
use denote.Ref.{Bor}
use Rattle.atspi_tree_model.specs.declared.view.Row.{Row}
use Rattle.atspi_tree_model.specs.declared.news.Item.{Item}
use Rattle.atspi_tree_model.specs.Forest.{Forest, nil, tree, count, has, put_in, take_out, pick, change, find, first_of}
use Rattle.atspi_tree_model.specs.News.{is_path, known_text_with, names, spot, renewed, fresh, added, moved}
use Rattle.atspi_tree_model.specs.Row.{delete_there, insert_there, with_delete, with_insert}
use Rattle.atspi_tree_model.specs.declared.view.Part.{Part}
use Rattle.atspi_tree_model.specs.declared.view.Part.TheVariants.{Absent, Unknown, Known}
use Rattle.atspi_tree_model.proofs.Found.{has-count, not_there, find-none, find-passes}
use Rattle.atspi_tree_model.proofs.Seats.{put_in-none}

none_has : (f : Forest Row) → has (λ row. false) f ≡ false
none_has nil = refl
none_has (tree a c r) = rw (none_has c, none_has r) refl

-- a count of nodes, where none has
no_node : (p : Row → Bool) (f : Forest Row) → has p f ≡ false → count p f ≡ 0
no_node p f h = at (count p f) refl
  where
    at : (n : ℕ) → count p f ≡ n → count p f ≡ 0
    at zero e = e
    at (suc n) e = let k = has-count p f (omega arith) in cc

module _ (bus : List ℕ) (item : Item) (v : Forest Row) where
  own : bytes_eq item.parent.bus bus ≡ true → names bus item.parent ≡ is_path item.parent.path
  own e = ap {B = Row → Bool} (λ (b : Bool) (row : Row). cond b (is_path item.parent.path row) false) e

  foreign : bytes_eq item.parent.bus bus ≡ false → names bus item.parent ≡ (λ (row : Row). false)
  foreign e = ap {B = Row → Bool} (λ (b : Bool) (row : Row). cond b (is_path item.parent.path row) false) e

  pub added_foreign : bytes_eq item.parent.bus bus ≡ false → v ≡ added (names bus item.parent) item v
  added_foreign e =
      sym (ap (λ (up : Row → Bool). added up item v) (foreign e)
      ∙ ap (λ b. cond b (put_in (λ row. false) (spot item.index) (tree (fresh item) nil nil) v) v) (none_has v))

  pub added_own : bytes_eq item.parent.bus bus ≡ true
      → put_in (is_path item.parent.path) (spot item.index) (tree (fresh item) nil nil) v ≡ added (names bus item.parent) item v
  added_own e = at (has (is_path item.parent.path) v) refl ∙ sym (ap (λ (up : Row → Bool). added up item v) (own e))
    where
      at : (b : Bool) → has (is_path item.parent.path) v ≡ b
          → put_in (is_path item.parent.path) (spot item.index) (tree (fresh item) nil nil) v
          ≡ cond b (put_in (is_path item.parent.path) (spot item.index) (tree (fresh item) nil nil) v) v
      at true h = refl
      at false h = put_in-none (is_path item.parent.path) (spot item.index) (tree (fresh item) nil nil) v (no_node (is_path item.parent.path) v h)

  module _ (is : Row → Bool) where
    pub moved_foreign : bytes_eq item.parent.bus bus ≡ false → v ≡ moved is (names bus item.parent) item v
    moved_foreign e =
        sym (ap (λ (up : Row → Bool). moved is up item v) (foreign e)
        ∙ ap (λ b. cond b (change is (renewed item) (put_in (λ row. false) (spot item.index) (pick is v) (take_out is v))) v) (none_has (take_out is v)))

    pub moved_nowhere : bytes_eq item.parent.bus bus ≡ true → has (is_path item.parent.path) (take_out is v) ≡ false → v ≡ moved is (names bus item.parent) item v
    moved_nowhere e h =
        sym (ap (λ (up : Row → Bool). moved is up item v) (own e)
        ∙ ap (λ b. cond b (change is (renewed item) (put_in (is_path item.parent.path) (spot item.index) (pick is v) (take_out is v))) v) h)

    pub moved_own : bytes_eq item.parent.bus bus ≡ true → has (is_path item.parent.path) (take_out is v) ≡ true
        → change is (renewed item) (put_in (is_path item.parent.path) (spot item.index) (pick is v) (take_out is v)) ≡ moved is (names bus item.parent) item v
    moved_own e h =
        sym (ap (λ (up : Row → Bool). moved is up item v) (own e)
        ∙ ap (λ b. cond b (change is (renewed item) (put_in (is_path item.parent.path) (spot item.index) (pick is v) (take_out is v))) v) h)

-- some row is found where one is
pub found_has : (p : Row → Bool) (f : Forest Row) → is_some (find p f) ≡ has p f
found_has p f = at (find p f) refl
  where
    at : (o : Option Row) → find p f ≡ o → is_some o ≡ has p f
    at None e = sym (not_there p f (find-none p f e))
    at (Some x) e = sym (has-count p f (find-passes p f x e).1)

-- where nothing passes, nothing changes
pub change_none : (p : Row → Bool) (h : Row → Row) (f : Forest Row) → count p f ≡ 0 → change p h f ≡ f
change_none p h nil z = refl
change_none p h (tree a c r) z = at (p a) z (change_none p h c (omega arith)) (change_none p h r (omega arith))
  where
    at : (b : Bool) → cond b 1 0 + (count p c + count p r) ≡ 0 → change p h c ≡ c → change p h r ≡ r
        → tree (cond b (h a) a) (change p h c) (change p h r) ≡ tree a c r
    at true z x y = absurd (omega arith)
    at false z x y = rw (x, y) refl

-- where one row passes, only that row counts
pub change_found : (p : Row → Bool) (h k : Row → Row) (f : Forest Row) (x : Row) → count p f ≤ 1 → find p f ≡ Some x → h x ≡ k x → change p h f ≡ change p k f
change_found p h k nil x l e s = refl
change_found p h k (tree a c r) x l e s =
    at (p a) l (find p c) refl e (λ l e. change_found p h k c x l e s) (λ l e. change_found p h k r x l e s)
  where
    at : (b : Bool) → cond b 1 0 + (count p c + count p r) ≤ 1 → (o : Option Row) → find p c ≡ o → cond b (Some a) (first_of o (find p r)) ≡ Some x
        → (count p c ≤ 1 → find p c ≡ Some x → change p h c ≡ change p k c)
        → (count p r ≤ 1 → find p r ≡ Some x → change p h r ≡ change p k r)
        → tree (cond b (h a) a) (change p h c) (change p h r) ≡ tree (cond b (k a) a) (change p k c) (change p k r)
    at true l o eo e hc hr =
        let same : a ≡ x = cc in
        rw (change_none p h c (omega arith), change_none p k c (omega arith), change_none p h r (omega arith), change_none p k r (omega arith))
        (ap (λ (y : Row). tree y c r) (ap h same ∙ (s ∙ ap k (sym same))))
    at false l (Some y) eo e hc hr =
        let there = (find-passes p c y eo).1 in
        let z : change p h r ≡ change p k r = change_none p h r (omega arith) ∙ sym (change_none p k r (omega arith)) in
        rw (hc (omega arith) (eo ∙ e), z) refl
    at false l None eo e hc hr =
        let z : change p h c ≡ change p k c = change_none p h c (find-none p c eo) ∙ sym (change_none p k c (find-none p c eo)) in
        rw (hr (omega arith) e, z) refl

pub change_nothing : (p : Row → Bool) (f : Forest Row) → change p (λ row. row) f ≡ f
change_nothing p nil = refl
change_nothing p (tree a c r) = rw (change_nothing p c, change_nothing p r) (at (p a))
  where
    at : (b : Bool) → tree (cond b a a) c r ≡ tree a c r
    at true = refl
    at false = refl

-- a change that leaves the row that is found as it is changes nothing
pub change_same : (p : Row → Bool) (h : Row → Row) (f : Forest Row) (x : Row) → count p f ≤ 1 → find p f ≡ Some x → h x ≡ x → change p h f ≡ f
change_same p h f x l e s = change_found p h (λ row. row) f x l e s ∙ change_nothing p f

pub change_unknown : (p : Row → Bool) (h : Row → Row) (f : Forest Row) → find p f ≡ None → change p h f ≡ f
change_unknown p h f e = change_none p h f (find-none p f e)

pub copied_some : (o : Option (Bor Row)) → is_some o ≡ is_some (option_copied o)
copied_some None = refl
copied_some (Some x) = refl

lt-leb : (m n : ℕ) → n < m → nat_le m n ≡ false
lt-leb m n l = at (nat_le m n) refl
  where
    at : (b : Bool) → nat_le m n ≡ b → nat_le m n ≡ false
    at false e = e
    at true e = let z = leb-true m n e in absurd (omega arith)

-- edits at signed places
pub insert_in : (z : ℤ) (n : ℕ) (x t : List ℕ) → pos n ≡ z → n ≤ length t → with_insert n x t ≡ insert_there z x t
insert_in z n x t e l = sym (ap (λ y. insert_there y x t) (sym e) ∙ ap (λ b. cond b (with_insert n x t) t) (le-leb n (length t) l))

pub insert_out : (z : ℤ) (n : ℕ) (x t : List ℕ) → pos n ≡ z → length t < n → t ≡ insert_there z x t
insert_out z n x t e l = sym (ap (λ y. insert_there y x t) (sym e) ∙ ap (λ b. cond b (with_insert n x t) t) (lt-leb n (length t) l))

pub insert_below : (z : ℤ) (x t : List ℕ) → spot z ≡ None → t ≡ insert_there z x t
insert_below (pos n) x t e = cc
insert_below (negsuc n) x t e = refl

pub delete_in : (z y : ℤ) (n m : ℕ) (t : List ℕ) → pos n ≡ z → pos m ≡ y → n + m ≤ length t → with_delete n m t ≡ delete_there z y t
delete_in z y n m t e f l = sym (ap (λ w. delete_there w y t) (sym e) ∙ (ap (λ w. delete_there (pos n) w t) (sym f) ∙ ap (λ b. cond b (with_delete n m t) t) (le-leb (n + m) (length t) l)))

pub delete_out : (z y : ℤ) (n m : ℕ) (t : List ℕ) → pos n ≡ z → pos m ≡ y → length t < n + m → t ≡ delete_there z y t
delete_out z y n m t e f l = sym (ap (λ w. delete_there w y t) (sym e) ∙ (ap (λ w. delete_there (pos n) w t) (sym f) ∙ ap (λ b. cond b (with_delete n m t) t) (lt-leb (n + m) (length t) l)))

pub delete_below : (z y : ℤ) (t : List ℕ) → spot z ≡ None → t ≡ delete_there z y t
delete_below (pos n) y t e = cc
delete_below (negsuc n) y t e = refl

pub delete_none : (z y : ℤ) (t : List ℕ) → spot y ≡ None → t ≡ delete_there z y t
delete_none (pos n) (pos m) t e = cc
delete_none (pos n) (negsuc m) t e = refl
delete_none (negsuc n) y t e = refl

-- what is known of a text part is changed, and else nothing
pub known_changed : (f : List ℕ → List ℕ) (path new old : List ℕ) (v : Forest Row) (x : Row) → count (is_path path) v ≤ 1 → find (is_path path) v ≡ Some x
    → x.text ≡ Known old → new ≡ f old
    → change (is_path path) (λ row. record row { text = Known new }) v ≡ change (is_path path) (λ row. record row { text = known_text_with f row.text }) v
known_changed f path new old v x l e t n =
    change_found (is_path path) (λ row. record row { text = Known new }) (λ row. record row { text = known_text_with f row.text }) v x l e
    (ap (λ (p : Part). record x { text = p }) (ap (λ (w : List ℕ). Known w) n ∙ sym (ap (known_text_with f) t)))

pub not_known_same : (f : List ℕ → List ℕ) (path : List ℕ) (v : Forest Row) (x : Row) → count (is_path path) v ≤ 1 → find (is_path path) v ≡ Some x
    → ((w : List ℕ) → x.text ≡ Known w → ⊥)
    → v ≡ change (is_path path) (λ row. record row { text = known_text_with f row.text }) v
not_known_same f path v x l e other =
    sym (change_same (is_path path) (λ row. record row { text = known_text_with f row.text }) v x l e
    (ap (λ (p : Part). record x { text = p }) (at x.text refl)))
  where
    at : (p : Part) → x.text ≡ p → known_text_with f p ≡ p
    at Absent e = refl
    at Unknown e = refl
    at (Known w) e = absurd (other w e)
