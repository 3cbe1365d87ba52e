-- Items that are put in one after another, in preorder, each behind the other children of its parent, are the view that they
-- load as.
use Rattle.std.proofs.Common.{◌≡◌, ℕ, zero, suc, ◌+◌, ◌*◌, ◌≤◌, Bool, true, false, cond, Option, Some, None, List, [], ◌∷◌, ◌++◌, length, refl, sym, ap, ◌∙◌, subst, arith}
use Rattle.std.specs.Prelude.{filter, bytes_eq}
use Rattle.std.proofs.lemmas.List.{append-nil}
use Rattle.std.proofs.lemmas.Slice.Eq.{bytes_eq-Decides}
use Rattle.atspi_tree_model.specs.declared.view.Row.{Row}
use Rattle.atspi_tree_model.specs.declared.news.Item.{Item}
use Rattle.atspi_tree_model.specs.Forest.{Forest, nil, tree, count, has, join, labels, put_if, put_in, relabel, tops, width, EachNode}
use Rattle.atspi_tree_model.specs.Row.{Each}
use Rattle.atspi_tree_model.specs.News.{by_index, children_in, fresh, is_child, is_path, load, own_items, reached, sorted_in, at_most}
use Rattle.atspi_tree_model.specs.Laws.{IsComplete, IsView}
use Rattle.atspi_tree_model.proofs.Counts.{count-put_in}
use Rattle.atspi_tree_model.proofs.Deep.{load_complete}
use Rattle.atspi_tree_model.proofs.Found.{not_there}
use Rattle.atspi_tree_model.proofs.Lookup.{width-relabel}
use Rattle.atspi_tree_model.proofs.Once.{load_once, many, of_object}
use Rattle.atspi_tree_model.proofs.Relabel.{count-relabel}
use Rattle.atspi_tree_model.proofs.RootAlone.{load_is_view}
use Rattle.atspi_tree_model.proofs.Seats.{join-nil, put_in-none}

-- an item put behind the other children of its parent
abbrev pub put_last : Item → Forest Row → Forest Row
put_last item v = put_in (is_path item.parent.path) None (tree (fresh item) nil nil) v

abbrev pub put_all : List Item → Forest Row → Forest Row
put_all [] v = v
put_all (x ∷ xs) v = put_all xs (put_last x v)

put_all-append : (xs ys : List Item) (v : Forest Row) → put_all (xs ++ ys) v ≡ put_all ys (put_all xs v)
put_all-append [] ys v = refl
put_all-append (x ∷ xs) ys v = put_all-append xs ys (put_last x v)

module _ {A : Type 0} where
  put_in-nil : (q : A → Bool) (v : Forest A) → put_in q None nil v ≡ v
  put_in-nil q nil = refl
  put_in-nil q (tree a b r) = rw (put_in-nil q b, put_in-nil q r) (at (q a))
    where
      at : (d : Bool) → tree a (put_if d None nil b) r ≡ tree a b r
      at true = ap (λ g. tree a g r) (join-nil b)
      at false = refl

  put_in-join : (q : A → Bool) (g f h : Forest A) → put_in q None g (join f h) ≡ join (put_in q None g f) (put_in q None g h)
  put_in-join q g nil h = refl
  put_in-join q g (tree a b r) h = ap (tree a (put_if (q a) None g (put_in q None g b))) (put_in-join q g r h)

  join-assoc : (f g h : Forest A) → join (join f g) h ≡ join f (join g h)
  join-assoc nil g h = refl
  join-assoc (tree a b r) g h = ap (tree a b) (join-assoc r g h)

  -- what is put below a node that was put in
  put_below : (p q : A → Bool) (x : A) (c v : Forest A) → p x ≡ true → count p v ≡ 0
      → put_in p None c (put_in q None (tree x nil nil) v) ≡ put_in q None (tree x c nil) v
  put_below p q x c nil e z = refl
  put_below p q x c (tree a b r) e z =
      ap (λ g. tree a g (put_in p None c (put_in q None (tree x nil nil) r))) (at (p a) refl z (q a) (put_below p q x c b e (omega arith)))
      ∙ ap (tree a (put_if (q a) None (tree x c nil) (put_in q None (tree x c nil) b))) (put_below p q x c r e (omega arith))
    where
      under : put_in p None c (tree x nil nil) ≡ tree x c nil
      under = ap (λ d. tree x (put_if d None c nil) nil) e

      at : (d : Bool) → p a ≡ d → cond d 1 0 + (count p b + count p r) ≡ 0 → (f : Bool)
          → put_in p None c (put_in q None (tree x nil nil) b) ≡ put_in q None (tree x c nil) b
          → put_if (p a) None c (put_in p None c (put_if f None (tree x nil nil) (put_in q None (tree x nil nil) b)))
          ≡ put_if f None (tree x c nil) (put_in q None (tree x c nil) b)
      at true g z f beside = absurd (omega arith)
      at false g z true beside =
          ap (λ d. put_if d None c (put_in p None c (join (put_in q None (tree x nil nil) b) (tree x nil nil)))) g
          ∙ put_in-join p c (put_in q None (tree x nil nil) b) (tree x nil nil)
          ∙ ap (λ h. join h (put_in p None c (tree x nil nil))) beside ∙ ap (join (put_in q None (tree x c nil) b)) under
      at false g z false beside = ap (λ d. put_if d None c (put_in p None c (put_in q None (tree x nil nil) b))) g ∙ beside

  -- what is put behind what was put in
  put_beside : (q : A → Bool) (t r v : Forest A) → count q t ≡ 0
      → put_in q None r (put_in q None t v) ≡ put_in q None (join t r) v
  put_beside q t r nil z = refl
  put_beside q t r (tree a b s) z =
      ap (λ g. tree a g (put_in q None r (put_in q None t s))) (at (q a) (put_beside q t r b z))
      ∙ ap (tree a (put_if (q a) None (join t r) (put_in q None (join t r) b))) (put_beside q t r s z)
    where
      at : (d : Bool) → put_in q None r (put_in q None t b) ≡ put_in q None (join t r) b
          → put_if d None r (put_in q None r (put_if d None t (put_in q None t b))) ≡ put_if d None (join t r) (put_in q None (join t r) b)
      at true beside =
          ap (λ g. join g r) (put_in-join q r (put_in q None t b) t ∙ ap (join (put_in q None r (put_in q None t b))) (put_in-none q None r t z))
          ∙ join-assoc (put_in q None r (put_in q None t b)) t r ∙ ap (λ g. join g (join t r)) beside
      at false beside = beside

-- each item is below the object that it names as its parent
abbrev pub NamesParent : List ℕ → Item → Type 0
NamesParent path x = x.parent.path ≡ path

abbrev pub NameParents : Forest Item → Type 0
NameParents f = EachNode (λ (x : Item) below. Each (NamesParent x.object.path) (tops below)) f

at_most_one : (m n : ℕ) → m ≤ 1 → m * n ≤ n
at_most_one zero n l = omega arith
at_most_one (suc zero) n l = omega arith
at_most_one (suc (suc m)) n l = absurd (omega arith)

-- no path stands twice, in the view and the items together
abbrev pub AreApart : Forest Item → Forest Row → Type 0
AreApart f v = (p : List ℕ) → count (of_object p) f + count (is_path p) v ≤ 1

rows_count : (p : List ℕ) (f : Forest Item) → count (is_path p) (relabel fresh f) ≡ count (of_object p) f
rows_count p f = count-relabel fresh (is_path p) (of_object p) (λ x. refl) f

self : (path : List ℕ) → bytes_eq path path ≡ true
self path = (bytes_eq-Decides path path).1 refl

-- a forest of items that is put in below a path, one after another, is put in as a whole
filled : (f : Forest Item) (up : List ℕ) (v : Forest Row) → Each (NamesParent up) (tops f) → NameParents f → AreApart f v
    → count (of_object up) f ≡ 0 → put_all (labels f) v ≡ put_in (is_path up) None (relabel fresh f) v
filled nil up v n m a z = sym (put_in-nil (is_path up) v)
filled (tree x c r) up v n m a z =
    put_all-append (labels c) (labels r) (put_last x v)
    ∙ ap (put_all (labels r))
    (ap (put_all (labels c)) first
    ∙ filled c x.object.path (put_in (is_path up) None (tree (fresh x) nil nil) v) m.0 m.1 apart_c no_c
    ∙ put_below (is_path x.object.path) (is_path up) (fresh x) (relabel fresh c) v (self x.object.path) no_x)
    ∙ filled r up (put_in (is_path up) None (tree (fresh x) (relabel fresh c) nil) v) n.1 m.2 apart_r (omega arith)
    ∙ put_beside (is_path up) (tree (fresh x) (relabel fresh c) nil) (relabel fresh r) v none
  where
    first : put_last x v ≡ put_in (is_path up) None (tree (fresh x) nil nil) v
    first = ap (λ (path : List ℕ). put_in (is_path path) None (tree (fresh x) nil nil) v) n.0

    here : cond {A = ℕ} (of_object x.object.path x) 1 0 ≡ 1
    here = ap (λ b. cond {A = ℕ} b 1 0) (self x.object.path)

    no_x : count (is_path x.object.path) v ≡ 0
    no_x = let l = a x.object.path in let h = here in omega arith

    no_c : count (of_object x.object.path) c ≡ 0
    no_c = let l = a x.object.path in let h = here in omega arith

    times_up : (n : ℕ) → count (is_path up) v * n ≤ n
    times_up n = at_most_one (count (is_path up) v) n (let l = a up in omega arith)

    apart_c : AreApart c (put_in (is_path up) None (tree (fresh x) nil nil) v)
    apart_c p =
        let l = a p in
        let k = count-put_in (is_path p) (is_path up) None (tree (fresh x) nil nil) v in
        let t = times_up (count (is_path p) (tree (fresh x) nil nil)) in
        omega arith

    apart_r : AreApart r (put_in (is_path up) None (tree (fresh x) (relabel fresh c) nil) v)
    apart_r p =
        let l = a p in
        let k = count-put_in (is_path p) (is_path up) None (tree (fresh x) (relabel fresh c) nil) v in
        let t = times_up (count (is_path p) (tree (fresh x) (relabel fresh c) nil)) in
        let s = rows_count p c in
        omega arith

    none : count (is_path up) (tree (fresh x) (relabel fresh c) nil) ≡ 0
    none = let s = rows_count up c in omega arith

-- how often an object stands in the labels
many-append : (p : List ℕ) (xs ys : List Item) → many (of_object p) (xs ++ ys) ≡ many (of_object p) xs + many (of_object p) ys
many-append p [] ys = omega arith
many-append p (x ∷ xs) ys = omega (arith, many-append p xs ys)

many-labels : (p : List ℕ) (f : Forest Item) → many (of_object p) (labels f) ≡ count (of_object p) f
many-labels p nil = refl
many-labels p (tree x c r) = omega (arith, many-append p (labels c) (labels r), many-labels p c, many-labels p r)

-- what is still to be put in, given what is there
pub record IsLeft (rows : Forest Row) (left : List Item) (whole : Forest Row) : Type 0 where
  pub apart : (p : List ℕ) → many (of_object p) left + count (is_path p) rows ≤ 1
  pub makes : put_all left rows ≡ whole

-- the first of what is left is not there
pub is_new : (rows whole : Forest Row) (x : Item) (left : List Item) → IsLeft rows (x ∷ left) whole → has (is_path x.object.path) rows ≡ false
is_new rows whole x left l = not_there (is_path x.object.path) rows (let a = l.apart x.object.path in let h = ap (λ b. cond {A = ℕ} b 1 0) (self x.object.path) in omega arith)

-- and when it is put in, less is left
pub put_one : (rows whole : Forest Row) (x : Item) (left : List Item) → IsLeft rows (x ∷ left) whole → IsLeft (put_last x rows) left whole
put_one rows whole x left l = record {
  apart = λ p.
      let a = l.apart p in
      let b = l.apart x.parent.path in
      let k = count-put_in (is_path p) (is_path x.parent.path) None (tree (fresh x) nil nil) rows in
      let t = at_most_one (count (is_path x.parent.path) rows) (count (is_path p) (tree (fresh x) nil nil)) (omega arith) in
      omega arith;
  makes = l.makes;
}

each_in : (P : Item → Type 0) (x : Item) (ys : List Item) → P x → Each P ys → Each P (sorted_in x ys)
each_in P x [] h e = (h, tt)
each_in P x (y ∷ ys) h e = at (at_most x.index y.index) (each_in P x ys h e.1)
  where
    at : (b : Bool) → Each P (sorted_in x ys) → Each P (cond b (x ∷ y ∷ ys) (y ∷ sorted_in x ys))
    at true k = (h, (e.0, e.1))
    at false k = (e.0, k)

each_by_index : (P : Item → Type 0) (xs : List Item) → Each P xs → Each P (by_index xs)
each_by_index P [] e = tt
each_by_index P (x ∷ xs) e = each_in P x (by_index xs) e.0 (each_by_index P xs e.1)

-- each child names its parent
children_name : (root bus : List ℕ) (y : Item) (xs : List Item) → Each (NamesParent y.object.path) (filter (is_child root bus y) xs)
children_name root bus y [] = tt
children_name root bus y (x ∷ xs) = at (bytes_eq x.object.path root) (bytes_eq x.parent.bus bus) (bytes_eq x.parent.path y.object.path) refl (children_name root bus y xs)
  where
    at : (a b c : Bool) → bytes_eq x.parent.path y.object.path ≡ c → Each (NamesParent y.object.path) (filter (is_child root bus y) xs)
        → Each (NamesParent y.object.path) (cond (cond a false (cond b c false)) (x ∷ filter (is_child root bus y) xs) (filter (is_child root bus y) xs))
    at true b c e h = h
    at false false c e h = h
    at false true true e h = ((bytes_eq-Decides x.parent.path y.object.path).0 e, h)
    at false true false e h = h

names_parents : (root bus : List ℕ) (its : List Item) (f : Forest Item) → IsComplete (children_in root bus its) f → NameParents f
names_parents root bus its nil c = tt
names_parents root bus its (tree x b r) c = (
  subst (Each (NamesParent x.object.path)) (sym c.0) (each_by_index (NamesParent x.object.path) (filter (is_child root bus x) its) (children_name root bus x its)),
  names_parents root bus its b c.1,
  names_parents root bus its r c.2,
)

-- the first item of a load is its root, and the others are left
pub begin_load : (root bus : List ℕ) (items : List Item) (x : Item) (left : List Item) → labels (reached root bus items) ≡ x ∷ left
    → IsLeft (tree (fresh x) nil nil) left (load root bus items)
begin_load root bus items x left e =
    at (reached root bus items) (subst (λ n. n ≤ 1) (width-relabel fresh (reached root bus items)) (load_is_view root bus items).rooted.alone)
    (names_parents root bus (own_items bus items) (reached root bus items) (load_complete root bus items))
    (λ p. subst (λ n. n ≤ 1) (rows_count p (reached root bus items)) (load_once root bus items p)) e
  where
    at : (f : Forest Item) → width f ≤ 1 → NameParents f → ((p : List ℕ) → count (of_object p) f ≤ 1) → labels f ≡ x ∷ left
        → IsLeft (tree (fresh x) nil nil) left (relabel fresh f)
    at nil w n o e = absurd cc
    at (tree y c (tree z d r)) w n o e = absurd (omega arith)
    at (tree y c nil) w n o e =
        let same : y ≡ x = cc in
        let others : labels c ≡ left = sym (append-nil (labels c)) ∙ cc in
        subst (λ (x : Item). IsLeft (tree (fresh x) nil nil) left (relabel fresh (tree y c nil))) same
        (subst (λ l. IsLeft (tree (fresh y) nil nil) l (relabel fresh (tree y c nil))) others (record {
          apart = λ p. let k = o p in let m = many-labels p c in omega arith;
          makes =
              filled c y.object.path (tree (fresh y) nil nil) n.0 n.1 (λ p. let k = o p in omega arith)
              (let k = o y.object.path in let h = ap (λ b. cond {A = ℕ} b 1 0) (self y.object.path) in omega arith)
              ∙ ap (λ b. tree (fresh y) (put_if b None (relabel fresh c) nil) nil) (self y.object.path);
        }))

-- where nothing is reached, the view is empty
pub empty_load : (root bus : List ℕ) (items : List Item) → labels (reached root bus items) ≡ [] → load root bus items ≡ nil
empty_load root bus items e = at (reached root bus items) e
  where
    at : (f : Forest Item) → labels f ≡ [] → relabel fresh f ≡ nil
    at nil e = refl
    at (tree x c r) e = absurd cc
