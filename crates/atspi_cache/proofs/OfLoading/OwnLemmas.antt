-- The first item of each object, one item after another.
use Rattle.std.proofs.Common.{◌≡◌, ℕ, Bool, true, false, cond, not, List, [], ◌∷◌, ◌++◌, refl, sym, ap, ◌∙◌, subst}
use Rattle.std.specs.Prelude.{filter}
use Rattle.std.specs.Str.{bytes_eq}
use Rattle.std.proofs.lemmas.Slice.Eq.{bytes_eq-Decides}
use Rattle.std.proofs.lemmas.List.Elements.{filter-append}
use Rattle.std.proofs.lemmas.List.{append-nil}
use Rattle.atspi_tree_model.specs.declared.news.Item.{Item}
use Rattle.atspi_tree_model.specs.News.{is_same_object, firsts, own_items}
use Rattle.atspi_cache.specs.loading.inner.Own.{has_object, with_new, with_own}

-- what is left out by another's object has none of an object that differs
has-filter : (x : Item) (path : List ℕ) (xs : List Item) → bytes_eq x.object.path path ≡ false
    → has_object path (filter (λ z. not (is_same_object z x)) xs) ≡ has_object path xs
has-filter x path [] e = refl
has-filter x path (z ∷ zs) e = at (is_same_object z x) (bytes_eq z.object.path path) refl refl (has-filter x path zs e)
  where
    at : (b c : Bool) → is_same_object z x ≡ b → bytes_eq z.object.path path ≡ c
        → has_object path (filter (λ z. not (is_same_object z x)) zs) ≡ has_object path zs
        → has_object path (cond (not b) (z ∷ filter (λ z. not (is_same_object z x)) zs) (filter (λ z. not (is_same_object z x)) zs))
        ≡ cond c true (has_object path zs)
    at true true f g h =
        let is : z.object.path ≡ x.object.path = (bytes_eq-Decides z.object.path x.object.path).0 f in
        let k : bytes_eq x.object.path path ≡ true = subst (λ p. bytes_eq p path ≡ true) is g in
        absurd cc
    at true false f g h = h
    at false c f g h = ap (λ d. cond d true (has_object path (filter (λ z. not (is_same_object z x)) zs))) g ∙ ap (λ d. cond c true d) h

pub firsts-snoc : (xs : List Item) (y : Item) → firsts (xs ++ y ∷ []) ≡ with_new (firsts xs) y
firsts-snoc [] y = refl
firsts-snoc (x ∷ xs) y =
    ap (λ l. x ∷ filter (λ z. not (is_same_object z x)) l) (firsts-snoc xs y)
    ∙ at (bytes_eq x.object.path y.object.path) refl (has_object y.object.path (firsts xs)) refl
  where
    turned : (b : Bool) → bytes_eq x.object.path y.object.path ≡ b → is_same_object y x ≡ b
    turned true e =
        let is : x.object.path ≡ y.object.path = (bytes_eq-Decides x.object.path y.object.path).0 e in
        (bytes_eq-Decides y.object.path x.object.path).1 (sym is)
    turned false e = no (is_same_object y x) refl
      where
        no : (c : Bool) → is_same_object y x ≡ c → is_same_object y x ≡ false
        no true k =
            let is : y.object.path ≡ x.object.path = (bytes_eq-Decides y.object.path x.object.path).0 k in
            let z : bytes_eq x.object.path y.object.path ≡ true = (bytes_eq-Decides x.object.path y.object.path).1 (sym is) in
            absurd cc
        no false k = k

    at : (b : Bool) → bytes_eq x.object.path y.object.path ≡ b → (c : Bool) → has_object y.object.path (firsts xs) ≡ c
        → x ∷ filter (λ z. not (is_same_object z x)) (with_new (firsts xs) y) ≡ with_new (firsts (x ∷ xs)) y
    at true e true f = rw (e, f) refl
    at true e false f =
        rw (e, f)
        (ap (λ l. x ∷ l) (filter-append (λ z. not (is_same_object z x)) (firsts xs) (y ∷ []) ∙ rw (turned true e) (append-nil (filter (λ z. not (is_same_object z x)) (firsts xs)))))
    at false e true f = rw (e, f, has-filter x y.object.path (firsts xs) e, f) refl
    at false e false f =
        rw (e, f, has-filter x y.object.path (firsts xs) e, f)
        (ap (λ l. x ∷ l) (filter-append (λ z. not (is_same_object z x)) (firsts xs) (y ∷ []) ∙ rw (turned false e) refl))

added : (b : Bool) (kept : List Item) (y : Item) → firsts (kept ++ cond b (y ∷ []) []) ≡ cond b (with_new (firsts kept) y) (firsts kept)
added true kept y = firsts-snoc kept y
added false kept y = ap firsts (append-nil kept)

-- one more item of a list
pub own-snoc : (bus : List ℕ) (xs : List Item) (y : Item) → own_items bus (xs ++ y ∷ []) ≡ with_own bus (own_items bus xs) y
own-snoc bus xs y =
    ap firsts (filter-append (λ (item : Item). bytes_eq item.object.bus bus) xs (y ∷ []))
    ∙ added (bytes_eq y.object.bus bus) (filter (λ (item : Item). bytes_eq item.object.bus bus) xs) y

has-append : (path : List ℕ) (xs ys : List Item) → has_object path (xs ++ ys) ≡ cond (has_object path xs) true (has_object path ys)
has-append path [] ys = refl
has-append path (x ∷ xs) ys = at (bytes_eq x.object.path path) (has-append path xs ys)
  where
    at : (b : Bool) → has_object path (xs ++ ys) ≡ cond (has_object path xs) true (has_object path ys)
        → cond b true (has_object path (xs ++ ys)) ≡ cond (cond b true (has_object path xs)) true (has_object path ys)
    at true e = refl
    at false e = e

-- an object that is there is there once more
pub has-snoc : (path : List ℕ) (xs : List Item) (y : Item) → has_object path (xs ++ y ∷ []) ≡ cond (bytes_eq y.object.path path) true (has_object path xs)
has-snoc path xs y = has-append path xs (y ∷ []) ∙ at (has_object path xs) (bytes_eq y.object.path path)
  where
    at : (a b : Bool) → cond a true (cond b true false) ≡ cond b true a
    at true true = refl
    at true false = refl
    at false true = refl
    at false false = refl
