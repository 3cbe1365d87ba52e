-- In the view of any list of items each path stands once.
use Rattle.std.proofs.Common.{◌≡◌, ℕ, zero, suc, ◌+◌, ◌≤◌, Bool, true, false, cond, not, refl, sym, ap, ◌∙◌, arith}
use Rattle.std.specs.Prelude.{List, [], ◌∷◌, length, filter}
use Rattle.std.specs.Str.{bytes_eq}
use Rattle.std.proofs.lemmas.Slice.Eq.{bytes_eq-Decides}
use Rattle.atspi_tree_model.specs.declared.news.Item.{Item}
use Rattle.atspi_tree_model.specs.Forest.{Forest, nil, tree, count, graft, grow}
use Rattle.atspi_tree_model.specs.News.{fresh, is_path, is_same_object, firsts, at_most, sorted_in, by_index, is_child, children_in, own_items, load}
use Rattle.atspi_tree_model.proofs.Relabel.{count-relabel}

-- how many elements pass
abbrev pub many : {X : Type 0} → (X → Bool) → List X → ℕ
many p [] = 0
many p (x ∷ xs) = cond (p x) 1 0 + many p xs

-- a forest that grew by one level: those at the top, and the children of those that were there
module _ {X : Type 0} (kids : X → List X) (q up : X → Bool) (e : (y : X) → many q (kids y) ≡ cond (up y) 1 0) where
  level : (n : ℕ) → ((ys : List X) → count q (grow (suc n) kids ys) ≡ many q ys + count up (grow n kids ys))
      → (xs : List X)
      → count q (graft (λ x. grow (suc n) kids (kids x)) xs) ≡ many q xs + count up (graft (λ x. grow n kids (kids x)) xs)
  level n ih [] = refl
  level n ih (x ∷ xs) = omega (arith, ih (kids x), level n ih xs, e x)

  level_zero : (xs : List X) → count q (graft (λ x. nil) xs) ≡ many q xs + 0
  level_zero [] = refl
  level_zero (x ∷ xs) = omega (arith, level_zero xs)

  pub count-grow : (n : ℕ) (xs : List X) → count q (grow (suc n) kids xs) ≡ many q xs + count up (grow n kids xs)
  count-grow zero xs = level_zero xs
  count-grow (suc n) xs = level n (count-grow n) xs

pub count-le : {X : Type 0} (p q : X → Bool) → ((x : X) → p x ≡ true → q x ≡ true) → (f : Forest X)
    → count p f ≤ count q f
count-le p q w nil = omega arith
count-le p q w (tree a c r) = at (p a) (q a) (w a) (count-le p q w c) (count-le p q w r)
  where
    at : (b d : Bool) → (b ≡ true → d ≡ true) → count p c ≤ count q c → count p r ≤ count q r
        → cond b 1 0 + (count p c + count p r) ≤ cond d 1 0 + (count q c + count q r)
    at true true h l m = omega arith
    at true false h l m = let k : false ≡ true = h refl in cc
    at false true h l m = omega arith
    at false false h l m = omega arith

count-never : {X : Type 0} (f : Forest X) → count (λ x. false) f ≡ 0
count-never nil = refl
count-never (tree a c r) = omega (arith, count-never c, count-never r)

many-sorted_in : (q : Item → Bool) (x : Item) (ys : List Item) → many q (sorted_in x ys) ≡ cond (q x) 1 0 + many q ys
many-sorted_in q x [] = refl
many-sorted_in q x (y ∷ ys) = at (at_most x.index y.index) (many-sorted_in q x ys)
  where
    at : (b : Bool) → many q (sorted_in x ys) ≡ cond (q x) 1 0 + many q ys
        → many q (cond b (x ∷ y ∷ ys) (y ∷ sorted_in x ys)) ≡ cond (q x) 1 0 + (cond (q y) 1 0 + many q ys)
    at true h = refl
    at false h = omega arith

many-by_index : (q : Item → Bool) (xs : List Item) → many q (by_index xs) ≡ many q xs
many-by_index q [] = refl
many-by_index q (x ∷ xs) = omega (arith, many-sorted_in q x (by_index xs), many-by_index q xs)

many-filter_le : {X : Type 0} (q p : X → Bool) (xs : List X) → many q (filter p xs) ≤ many q xs
many-filter_le q p [] = omega arith
many-filter_le q p (x ∷ xs) = at (p x) (many-filter_le q p xs)
  where
    at : (b : Bool) → many q (filter p xs) ≤ many q xs
        → many q (cond b (x ∷ filter p xs) (filter p xs)) ≤ cond (q x) 1 0 + many q xs
    at true h = omega arith
    at false h = omega arith

-- none of what is kept passes, where none passes both
many-filter_none : {X : Type 0} (q p : X → Bool) → ((x : X) → q x ≡ true → p x ≡ false) → (xs : List X)
    → many q (filter p xs) ≡ 0
many-filter_none q p w [] = refl
many-filter_none q p w (x ∷ xs) = at (q x) (p x) refl (w x) (many-filter_none q p w xs)
  where
    at : (b d : Bool) → q x ≡ b → (b ≡ true → d ≡ false) → many q (filter p xs) ≡ 0
        → many q (cond d (x ∷ filter p xs) (filter p xs)) ≡ 0
    at true true e h k = let z : true ≡ false = h refl in cc
    at true false e h k = k
    at false true e h k = rw e (omega arith)
    at false false e h k = k

same-trans : (x y z : List ℕ) → bytes_eq x z ≡ true → bytes_eq y z ≡ true → bytes_eq x y ≡ true
same-trans x y z h k = (bytes_eq-Decides x y).1 ((bytes_eq-Decides x z).0 h ∙ sym ((bytes_eq-Decides y z).0 k))

-- the items of an object
abbrev pub of_object : List ℕ → Item → Bool
of_object p it = bytes_eq it.object.path p

pub firsts_once : (p : List ℕ) (xs : List Item) → many (of_object p) (firsts xs) ≤ 1
firsts_once p [] = omega arith
firsts_once p (x ∷ xs) = at (of_object p x) refl (firsts_once p xs)
  where
    at : (b : Bool) → of_object p x ≡ b → many (of_object p) (firsts xs) ≤ 1
        → cond b 1 0 + many (of_object p) (filter (λ y. not (is_same_object y x)) (firsts xs)) ≤ 1
    at true e ih = let z = many-filter_none (of_object p) (λ y. not (is_same_object y x)) (λ y k. rw (same-trans y.object.path x.object.path p k e) refl) (firsts xs) in omega arith
    at false e ih = let l = many-filter_le (of_object p) (λ y. not (is_same_object y x)) (firsts xs) in omega arith

filter-comm : {X : Type 0} (p q : X → Bool) (xs : List X) → filter p (filter q xs) ≡ filter q (filter p xs)
filter-comm p q [] = refl
filter-comm {X = X} p q (x ∷ xs) = at (p x) (q x) refl refl (filter-comm p q xs)
  where
    at : (b d : Bool) → p x ≡ b → q x ≡ d → filter p (filter q xs) ≡ filter q (filter p xs)
        → filter p (cond d (x ∷ filter q xs) (filter q xs)) ≡ filter q (cond b (x ∷ filter p xs) (filter p xs))
    at true true e k h = rw (e, k) (ap (λ l. x ∷ l) h)
    at true false e k h = rw k h
    at false true e k h = rw e h
    at false false e k h = h

many-length : {X : Type 0} (q : X → Bool) (xs : List X) → many q xs ≡ length (filter q xs)
many-length q [] = refl
many-length q (x ∷ xs) = at (q x) (many-length q xs)
  where
    at : (b : Bool) → many q xs ≡ length (filter q xs)
        → cond b 1 0 + many q xs ≡ length (cond b (x ∷ filter q xs) (filter q xs))
    at true h = omega arith
    at false h = omega arith

-- where one element passes, what is kept of those that pass is that one or none
many-one : {X : Type 0} (q p : X → Bool) (x : X) (xs : List X) → filter q xs ≡ x ∷ []
    → many q (filter p xs) ≡ cond (p x) 1 0
many-one q p x xs e = many-length q (filter p xs) ∙ ap (λ l. length l) (filter-comm q p xs ∙ ap (filter p) e) ∙ at (p x)
  where
    at : (b : Bool) → length (cond b (x ∷ []) []) ≡ cond b 1 0
    at true = refl
    at false = refl

many-none : {X : Type 0} (q p : X → Bool) (xs : List X) → filter q xs ≡ [] → many q (filter p xs) ≡ 0
many-none q p xs e = many-length q (filter p xs) ∙ ap (λ l. length l) (filter-comm q p xs ∙ ap (filter p) e)

module _ (root bus : List ℕ) (its : List Item) (distinct : (p : List ℕ) → many (of_object p) its ≤ 1) where
  -- a child is no root, and has its parent's path
  child_says : (y x : Item) → is_child root bus y x ≡ true
      → (bytes_eq x.object.path root ≡ false) × (bytes_eq y.object.path x.parent.path ≡ true)
  child_says y x = at (bytes_eq x.object.path root) (bytes_eq x.parent.bus bus)
    where
      at : (b d : Bool) → cond b false (cond d (bytes_eq x.parent.path y.object.path) false) ≡ true
          → (b ≡ false) × (bytes_eq y.object.path x.parent.path ≡ true)
      at true d e = cc
      at false true e = (refl, (bytes_eq-Decides y.object.path x.parent.path).1 (sym ((bytes_eq-Decides x.parent.path y.object.path).0 e)))
      at false false e = cc

  -- the one item of a path: it is the root's, or it stands below where its parent stands
  once_at : (n : ℕ) (p : List ℕ)
      → ((p : List ℕ) → count (of_object p) (grow n (children_in root bus its) (filter (of_object root) its)) ≤ 1)
      → (l : List Item) → filter (of_object p) its ≡ l
      → count (of_object p) (grow (suc n) (children_in root bus its) (filter (of_object root) its)) ≤ 1
  once_at n p ih [] e =
      let c = count-grow (children_in root bus its) (of_object p) (λ y. false) (λ y. many-by_index (of_object p) _ ∙ many-none (of_object p) (is_child root bus y) its e) n (filter (of_object root) its) in
      let z = many-none (of_object p) (of_object root) its e in
      let f = count-never (grow n (children_in root bus its) (filter (of_object root) its)) in
      omega arith
  once_at n p ih (x ∷ []) e =
      let c = count-grow (children_in root bus its) (of_object p) (λ y. is_child root bus y x) (λ y. many-by_index (of_object p) _ ∙ many-one (of_object p) (is_child root bus y) x its e) n (filter (of_object root) its) in
      let m = many-one (of_object p) (of_object root) x its e in
      at (bytes_eq x.object.path root) refl c m
    where
      G : Forest Item
      G = grow n (children_in root bus its) (filter (of_object root) its)

      at : (b : Bool) → bytes_eq x.object.path root ≡ b → {k : ℕ}
          → k ≡ many (of_object p) (filter (of_object root) its) + count (λ y. is_child root bus y x) G
          → many (of_object p) (filter (of_object root) its) ≡ cond b 1 0 → k ≤ 1
      at true r c m =
          let l = count-le (λ y. is_child root bus y x) (λ y. false) (λ y k. let s = (child_says y x k).0 in cc) G in
          let z = count-never G in
          omega arith
      at false r c m =
          let l = count-le (λ y. is_child root bus y x) (of_object x.parent.path) (λ y k. (child_says y x k).1) G in
          let i = ih x.parent.path in
          omega arith
  once_at n p ih (x ∷ y ∷ l) e = let d = distinct p in let m = many-length (of_object p) its ∙ ap (λ l. length l) e in absurd (omega arith)

  pub grown_once : (n : ℕ) (p : List ℕ)
      → count (of_object p) (grow n (children_in root bus its) (filter (of_object root) its)) ≤ 1
  grown_once zero p = omega arith
  grown_once (suc n) p = once_at n p (grown_once n) (filter (of_object p) its) refl

-- whatever the items, each path stands once in their view
pub load_once : (root bus : List ℕ) (items : List Item) (p : List ℕ) → count (is_path p) (load root bus items) ≤ 1
load_once root bus items p =
    let g = grown_once root bus (own_items bus items) (λ p. firsts_once p (filter (λ (it : Item). bytes_eq it.object.bus bus) items)) (suc (length items)) p in
    let c = count-relabel fresh (is_path p) (of_object p) (λ it. refl) (grow (suc (length items)) (children_in root bus (own_items bus items)) (filter (of_object root) (own_items bus items))) in
    omega arith
