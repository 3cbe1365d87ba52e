-- A `BTreeMap` as a finite map.
use Rattle.std.proofs.Common.{◌≡◌, List, [], ◌∷◌, Bool, true, false, cond, refl, sym, ap, ◌∙◌, subst, T, ◌&&◌}
use Rattle.std.specs.Prelude.{Option, Some, None}
use Rattle.std.specs.Ordering.{eq_by_cmp, is_eq, is_lt}
use Rattle.std.specs.declared.cmp.Ordering.{Ordering}
use Rattle.std.specs.declared.cmp.Ordering.TheVariants.{Less, Equal, Greater}
use Rattle.std.specs.Cmp.{IsTotalOrder, eq_by_cmp_equiv}
use Rattle.std.specs.Map.{lookup, keys_of}
use Rattle.std.specs.List.{AllByRecursion}
use Rattle.std.specs.List.Sorted.{IsStrictlySortedBy}
use Rattle.std.specs.BTreeMap as tree
use Rattle.std.specs.BTreeMap.{BTreeMap, is_at}
use Rattle.std.specs.FinMap as finmap
use Rattle.std.specs.FinMap.Entries.{below_all, same_entries}
use Rattle.std.specs.FinMap.{find, is_sorted, entries_sorted, get-entries, IsAntisymmetric, get-from_entries, get-insert, get-remove, same_map, from_entries}

pub find-lookup : {K X : Type 0} (R : K → K → Ordering) (q : K) (es : List (K × X)) → find R q es ≡ lookup (is_at (R q)) es
find-lookup R q [] = refl
find-lookup R q (e ∷ es) = ap (cond (is_at (R q) e.0) (Some e.1)) (find-lookup R q es)

-- n has w at the key, and what m has at all others
abbrev pub SetsAt : {K X : Type 0} (R : K → K → Ordering) → BTreeMap K X → BTreeMap K X → K → Option X → Type 0
SetsAt {K} R m n k w = (q : K) → tree.get R n q ≡ cond (is_at (R k) q) w (tree.get R m q)

-- the later of two writes at a place counts
pub later : {A : Type 0} (b : Bool) (w v x : A) → cond b w (cond b v x) ≡ cond b w x
later true w v x = refl
later false w v x = refl

-- a write of what stands there
pub same_write : {A : Type 0} (b : Bool) (v x : A) → (b ≡ true → x ≡ v) → cond b v x ≡ x
same_write true v x h = sym (h refl)
same_write false v x h = refl

-- a test that holds says that its comparison gave Equal
pub equal_of_tie : (r : Ordering) → is_eq r ≡ true → r ≡ Equal
equal_of_tie Less e = cc
equal_of_tie Equal e = refl
equal_of_tie Greater e = cc

below_all-from : {K X : Type 0} (R : K → K → Ordering) (x : K) (es : List (K × X)) → AllByRecursion (λ y. R x y ≡ Less) (keys_of es) → T (below_all R x es)
below_all-from R x [] h = tt
below_all-from R x (e ∷ es) h = both (is_lt (R x e.0)) (below_all R x es) (subst (λ r. T (is_lt r)) (sym h.0) tt) (below_all-from R x es h.1)
  where
    both : (a b : Bool) → T a → T b → T (a && b)
    both true b p q = q
    both false b p q = p

pub is_sorted-from : {K X : Type 0} (R : K → K → Ordering) (es : List (K × X)) → IsStrictlySortedBy R (keys_of es) → T (is_sorted R es)
unfolding IsStrictlySortedBy
is_sorted-from R [] h = tt
is_sorted-from R (e ∷ es) h = both (below_all R e.0 es) (is_sorted R es) (below_all-from R e.0 es h.0) (is_sorted-from R es h.1)
  where
    both : (a b : Bool) → T a → T b → T (a && b)
    both true b p q = q
    both false b p q = p

module _ {K X : Type 0} {R : K → K → Ordering} (o : IsTotalOrder R) where
  -- the map finds what the tree does
  pub get-map : (m : BTreeMap K X) (q : K) → finmap.get (from_entries {R = R} m.entries) q ≡ tree.get R m q
  get-map m q = get-from_entries o m.entries q ∙ find-lookup R q m.entries

  module _ (same : IsAntisymmetric R) where
    -- the tree has a value more, or another one
    pub map-insert : (m n : BTreeMap K X) (k : K) (w : X) → SetsAt R m n k (Some w) → from_entries n.entries ≡ finmap.insert (from_entries {R = R} m.entries) k w
    map-insert m n k w u = same_map o same _ _ (λ q. get-map n q ∙ u q ∙ ap (λ b. cond b (Some w) (tree.get R m q)) ((eq_by_cmp_equiv o).symm k q)
        ∙ sym (get-insert o _ k w q ∙ ap (cond (eq_by_cmp R q k) (Some w)) (get-map m q)))

    -- the tree has no value there any more
    pub map-remove : (m n : BTreeMap K X) (k : K) → SetsAt R m n k None → from_entries n.entries ≡ finmap.remove (from_entries {R = R} m.entries) k
    map-remove m n k u = same_map o same _ _ (λ q. get-map n q ∙ u q ∙ ap (λ b. cond b None (tree.get R m q)) ((eq_by_cmp_equiv o).symm k q)
        ∙ sym (get-remove o _ k q ∙ ap (cond (eq_by_cmp R q k) None) (get-map m q)))

    -- a value that is written and taken out again where there was none
    pub map-undone : (m n p : BTreeMap K X) (k : K) (w : X) → tree.get R m k ≡ None → SetsAt R m n k (Some w) → SetsAt R n p k None
        → from_entries {R = R} p.entries ≡ from_entries m.entries
    map-undone m n p k w none first second = same_map o same _ _ (λ q. get-map p q ∙ second q ∙ ap (cond (is_at (R k) q) None) (first q)
        ∙ later (is_at (R k) q) None (Some w) (tree.get R m q)
        ∙ same_write (is_at (R k) q) None (tree.get R m q) (λ tied. ap (tree.get R m) (sym (same k q (equal_of_tie _ tied))) ∙ none)
        ∙ sym (get-map m q))

    -- in the order of the keys, which strictly rise
    pub entries-map : (es : List (K × X)) → IsStrictlySortedBy R (keys_of es) → finmap.entries (from_entries {R = R} es) ≡ es
    entries-map es rises = same_entries R o same (finmap.entries (from_entries {R = R} es)) es (entries_sorted (from_entries {R = R} es)) (is_sorted-from R es rises)
        (λ q. sym (get-entries (from_entries {R = R} es) q) ∙ get-from_entries o es q)
