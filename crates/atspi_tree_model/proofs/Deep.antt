-- The view of any list of items is grown to its end: no node lacks a child for want of levels.
use Rattle.std.proofs.Common.{◌≡◌, ℕ, zero, suc, ◌+◌, ◌≤◌, Bool, true, false, cond, not, refl, ap, arith}
use Rattle.std.specs.Prelude.{List, [], ◌∷◌, length, filter, max}
use Rattle.std.specs.Str.{bytes_eq}
use Rattle.std.proofs.lemmas.Slice.Eq.{bytes_eq-Decides}
use Rattle.atspi_tree_model.specs.declared.news.Item.{Item}
use Rattle.atspi_tree_model.specs.Forest.{Forest, nil, tree, count, tops, graft, grow, EachLabel}
use Rattle.atspi_tree_model.specs.Row.{Each}
use Rattle.atspi_tree_model.specs.News.{is_same_object, firsts, at_most, sorted_in, by_index, is_child, children_in, own_items}
use Rattle.atspi_tree_model.specs.Laws.{IsComplete}
use Rattle.atspi_tree_model.proofs.Once.{of_object, grown_once, firsts_once}
use Rattle.atspi_tree_model.proofs.Labels.{each_weaker}

abbrev pub depth : {A : Type 0} → Forest A → ℕ
depth nil = 0
depth (tree a c r) = max (suc (depth c)) (depth r)

pub depth_le : {A : Type 0} (f : Forest A) → depth f ≤ count (λ a. true) f
depth_le nil = omega arith
depth_le (tree a c r) = let x = depth_le c in let y = depth_le r in omega arith

tops-graft : {A : Type 0} (below : A → Forest A) (xs : List A) → tops (graft below xs) ≡ xs
tops-graft below [] = refl
tops-graft below (x ∷ xs) = ap (λ l. x ∷ l) (tops-graft below xs)

complete_graft : {A : Type 0} (kids : A → List A) (n : ℕ)
    → ((ys : List A) → depth (grow (suc n) kids ys) ≤ n → IsComplete kids (grow (suc n) kids ys))
    → (xs : List A) → depth (graft (λ x. grow (suc n) kids (kids x)) xs) ≤ suc n
    → IsComplete kids (graft (λ x. grow (suc n) kids (kids x)) xs)
complete_graft kids n ih [] l = tt
complete_graft kids n ih (x ∷ xs) l =
    (tops-graft (λ y. grow n kids (kids y)) (kids x), ih (kids x) (omega arith), complete_graft kids n ih xs (omega arith))

pub complete : {A : Type 0} (kids : A → List A) (n : ℕ) (xs : List A) → depth (grow (suc n) kids xs) ≤ n
    → IsComplete kids (grow (suc n) kids xs)
complete kids zero [] l = tt
complete kids zero (x ∷ xs) l = absurd (omega arith)
complete kids (suc n) xs l = complete_graft kids n (complete kids n) xs l

-- how many of the nodes are of the objects of a list, one item after another
abbrev total : Forest Item → List Item → ℕ
total f [] = 0
total f (x ∷ xs) = count (of_object x.object.path) f + total f xs

total_le : (f : Forest Item) → ((p : List ℕ) → count (of_object p) f ≤ 1) → (xs : List Item) → total f xs ≤ length xs
total_le f o [] = omega arith
total_le f o (x ∷ xs) = let a = total_le f o xs in let b = o x.object.path in omega arith

abbrev met : Item → List Item → ℕ
met a [] = 0
met a (x ∷ xs) = cond (of_object x.object.path a) 1 0 + met a xs

total_tree : (a : Item) (c r : Forest Item) (xs : List Item)
    → total (tree a c r) xs ≡ met a xs + (total c xs + total r xs)
total_tree a c r [] = refl
total_tree a c r (x ∷ xs) = omega (arith, total_tree a c r xs)

all_met : (f : Forest Item) (xs : List Item) → EachLabel (λ a. 1 ≤ met a xs) f → count (λ a. true) f ≤ total f xs
all_met nil xs e = omega arith
all_met (tree a c r) xs e = let t = total_tree a c r xs in let x = all_met c xs e.1 in let y = all_met r xs e.2 in let h : 1 ≤ met a xs = e.0 in omega arith

each_filter : (P : Item → Type 0) (p : Item → Bool) (xs : List Item) → Each P xs → Each P (filter p xs)
each_filter P p [] e = tt
each_filter P p (x ∷ xs) e = at (p x) (each_filter P p xs e.1)
  where
    at : (b : Bool) → Each P (filter p xs) → Each P (cond b (x ∷ filter p xs) (filter p xs))
    at true h = (e.0, h)
    at false h = h

each_sorted_in : (P : Item → Type 0) (x : Item) (ys : List Item) → P x → Each P ys → Each P (sorted_in x ys)
each_sorted_in P x [] h e = (h, tt)
each_sorted_in P x (y ∷ ys) h e = at (at_most x.index y.index) (each_sorted_in P x ys h e.1)
  where
    at : (b : Bool) → Each P (sorted_in x ys) → Each P (cond b (x ∷ y ∷ ys) (y ∷ sorted_in x ys))
    at true k = (h, (e.0, e.1))
    at false k = (e.0, k)

each_by_index : (P : Item → Type 0) (xs : List Item) → Each P xs → Each P (by_index xs)
each_by_index P [] e = tt
each_by_index P (x ∷ xs) e = each_sorted_in P x (by_index xs) e.0 (each_by_index P xs e.1)

each_graft : (P : Item → Type 0) (below : Item → Forest Item) → ((x : Item) → EachLabel P (below x))
    → (xs : List Item) → Each P xs → EachLabel P (graft below xs)
each_graft P below h [] e = tt
each_graft P below h (x ∷ xs) e = (e.0, h x, each_graft P below h xs e.1)

each_grow : (P : Item → Type 0) (kids : Item → List Item) → ((x : Item) → Each P (kids x))
    → (n : ℕ) (xs : List Item) → Each P xs → EachLabel P (grow n kids xs)
each_grow P kids h zero xs e = tt
each_grow P kids h (suc n) xs e = each_graft P (λ x. grow n kids (kids x)) (λ x. each_grow P kids h n (kids x) (h x)) xs e

met_more : (a x : Item) (xs : List Item) → met a xs ≤ met a (x ∷ xs)
met_more a x xs = omega arith

each_met : (xs : List Item) → Each (λ a. 1 ≤ met a xs) xs
each_met [] = tt
each_met (x ∷ xs) = (
  at (of_object x.object.path x) ((bytes_eq-Decides x.object.path x.object.path).1 refl),
  each_weaker (λ a. 1 ≤ met a xs) (λ a. 1 ≤ met a (x ∷ xs)) (λ a k. let m = met_more a x xs in omega arith) xs (each_met xs),
)
  where
    at : (b : Bool) → b ≡ true → 1 ≤ cond b 1 0 + met x xs
    at true e = omega arith
    at false e = cc

length-filter_le : (p : Item → Bool) (xs : List Item) → length (filter p xs) ≤ length xs
length-filter_le p [] = omega arith
length-filter_le p (x ∷ xs) = at (p x) (length-filter_le p xs)
  where
    at : (b : Bool) → length (filter p xs) ≤ length xs
        → length (cond b (x ∷ filter p xs) (filter p xs)) ≤ suc (length xs)
    at true h = omega arith
    at false h = omega arith

length-firsts : (xs : List Item) → length (firsts xs) ≤ length xs
length-firsts [] = omega arith
length-firsts (x ∷ xs) = let a = length-firsts xs in let b = length-filter_le (λ y. not (is_same_object y x)) (firsts xs) in omega arith

pub load_complete : (root bus : List ℕ) (items : List Item) →
    IsComplete (children_in root bus (own_items bus items)) (grow (suc (length items)) (children_in root bus (own_items bus items)) (filter (of_object root) (own_items bus items)))
load_complete root bus items =
    complete kids (length items) roots (omega (arith, deep, enough, few, short, filtered))
  where
    its : List Item
    its = own_items bus items

    kids : Item → List Item
    kids = children_in root bus (own_items bus items)

    roots : List Item
    roots = filter (of_object root) (own_items bus items)

    deep : depth (grow (suc (length items)) (children_in root bus (own_items bus items)) (filter (of_object root) (own_items bus items))) ≤ count (λ a. true) (grow (suc (length items)) (children_in root bus (own_items bus items)) (filter (of_object root) (own_items bus items)))
    deep = depth_le _

    enough : count (λ a. true) (grow (suc (length items)) (children_in root bus (own_items bus items)) (filter (of_object root) (own_items bus items))) ≤ total (grow (suc (length items)) (children_in root bus (own_items bus items)) (filter (of_object root) (own_items bus items))) (own_items bus items)
    enough = all_met _ (own_items bus items) (each_grow (λ a. 1 ≤ met a (own_items bus items)) kids (λ x. each_by_index _ _ (each_filter _ (is_child root bus x) (own_items bus items) (each_met (own_items bus items)))) (suc (length items)) roots (each_filter _ (of_object root) (own_items bus items) (each_met (own_items bus items))))

    few : total (grow (suc (length items)) (children_in root bus (own_items bus items)) (filter (of_object root) (own_items bus items))) (own_items bus items) ≤ length (own_items bus items)
    few = total_le _ (grown_once root bus (own_items bus items) (λ p. firsts_once p (filter (λ (it : Item). bytes_eq it.object.bus bus) items)) (suc (length items))) (own_items bus items)

    short : length (own_items bus items) ≤ length (filter (λ (it : Item). bytes_eq it.object.bus bus) items)
    short = length-firsts (filter (λ (it : Item). bytes_eq it.object.bus bus) items)

    filtered : length (filter (λ (it : Item). bytes_eq it.object.bus bus) items) ≤ length items
    filtered = length-filter_le (λ (it : Item). bytes_eq it.object.bus bus) items
