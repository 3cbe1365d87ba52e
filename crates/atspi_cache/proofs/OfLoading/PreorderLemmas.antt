-- The walk over the items that the root reaches: a list of what waits, its first at its end.
use Rattle.std.proofs.Common.{◌≡◌, ℕ, suc, ◌+◌, ◌-◌, ◌<◌, ◌≤◌, Bool, true, false, cond, List, [], ◌∷◌, ◌++◌, length, refl, sym, ap, ◌∙◌, subst, arith}
use Rattle.std.specs.Prelude.{filter, bytes_eq, reverse}
use Rattle.std.proofs.lemmas.List.{length-append, reverse-append, reverse-reverse}
use Rattle.std.specs.Cmp.Lexicographic.{nat_list_eq_equiv}
use Rattle.atspi_tree_model.specs.declared.news.Item.{Item}
use Rattle.atspi_tree_model.specs.Forest.{Forest, graft, grow, tops}
use Rattle.atspi_tree_model.specs.News.{by_index, children_in, is_child, own_items, reached}
use Rattle.atspi_tree_model.proofs.Deep.{load_complete}
use Rattle.atspi_cache.specs.loading.Shared.{is_below, reached_items}
use Rattle.atspi_cache.proofs.OfLoading.RisingLemmas.{filter-by_index}
use Rattle.atspi_cache.proofs.OfLoading.SharedLemmas.{filter-reverse}
use Rattle.atspi_cache.proofs.OfLoading.WalkLemmas.{Walked, begun, step}

tops-graft : {A : Type 0} (below : A → Forest A) (xs : List A) → tops (graft below xs) ≡ xs
tops-graft below [] = refl
tops-graft below (x ∷ xs) = ap (λ l. x ∷ l) (tops-graft below xs)

abbrev top_items : List ℕ → List ℕ → List Item → List Item
top_items root bus items = filter (λ (item : Item). bytes_eq item.object.path root) (own_items bus items)

-- at first nothing is done, and the items of the root wait
pub begin_walk : (root bus : List ℕ) (items done waiting : List Item) → done ≡ [] → waiting ≡ top_items root bus items
    → Walked (children_in root bus (own_items bus items)) (reached_items root bus items) done waiting
begin_walk root bus items done waiting d w =
    let kids = children_in root bus (own_items bus items) in
    let first = begun kids (reached root bus items) (load_complete root bus items) in
    let tops_are = tops-graft (λ x. grow (length items) kids (kids x)) (top_items root bus items) in
    subst (λ l. Walked kids (reached_items root bus items) l waiting) (sym d)
    (subst (λ l. Walked kids (reached_items root bus items) [] l) (tops_are ∙ sym w) first)

-- the last that waits is done, and its children wait behind the others, the first of them last
pub walk_on : (kids : Item → List Item) (whole done done' before rest new : List Item) (x : Item) → Walked kids whole done (reverse before)
    → before ≡ rest ++ x ∷ [] → new ≡ rest ++ reverse (kids x) → done' ≡ done ++ x ∷ [] → Walked kids whole done' (reverse new)
walk_on kids whole done done' before rest new x w b n d =
    let first : reverse before ≡ x ∷ reverse rest = ap reverse b ∙ reverse-append rest (x ∷ []) in
    let on = step kids whole done (reverse rest) x (subst (λ l. Walked kids whole done l) first w) in
    let left : reverse new ≡ kids x ++ reverse rest =
    ap reverse n ∙ reverse-append rest (reverse (kids x)) ∙ ap (λ l. l ++ reverse rest) (reverse-reverse (kids x)) in
    subst (λ l. Walked kids whole l (reverse new)) (sym d) (subst (λ l. Walked kids whole (done ++ x ∷ []) l) (sym left) on)

-- less is left
pub less_left : (whole done done' : List Item) (x : Item) → done' ≡ done ++ x ∷ [] → length done + 1 ≤ length whole
    → length whole - length done' < length whole - length done
less_left whole done done' x e l =
    let n : length done' ≡ length (done ++ x ∷ []) = ap length e in
    omega (arith, length-append done (x ∷ []))

filter-same : (p q : Item → Bool) → ((y : Item) → p y ≡ q y) → (ys : List Item) → filter p ys ≡ filter q ys
filter-same p q e [] = refl
filter-same p q e (y ∷ ys) = ap (λ b. cond b (y ∷ filter p ys) (filter p ys)) (e y) ∙ ap (λ l. cond (q y) (y ∷ l) l) (filter-same p q e ys)

is_same : (root bus : List ℕ) (y x : Item) → is_below root bus y.object.path x ≡ is_child root bus y x
is_same root bus y x =
    ap (λ b. cond (bytes_eq x.object.path root) false (cond (bytes_eq x.parent.bus bus) b false)) (nat_list_eq_equiv.symm y.object.path x.parent.path)

-- the group of an item has its children, the first of them last
pub group_is : (root bus : List ℕ) (items own : List Item) → own ≡ reverse (by_index items) → (y : Item)
    → filter (is_below root bus y.object.path) own ≡ reverse (children_in root bus items y)
group_is root bus items own e y =
    ap (filter (is_below root bus y.object.path)) e ∙ filter-reverse (is_below root bus y.object.path) (by_index items)
    ∙ ap reverse (filter-by_index (is_below root bus y.object.path) items ∙ ap by_index (filter-same _ _ (is_same root bus y) items))
