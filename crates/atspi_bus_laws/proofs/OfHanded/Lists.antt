-- Facts of all elements of lists and of finite maps.
use Rattle.std.proofs.Common.{◌≡◌, Bool, true, false, cond, List, [], ◌∷◌, ◌++◌, map, Some, refl, ap, ◌∙◌}
use Rattle.std.specs.Prelude.{◌&&◌, T, filter, if◌then◌else◌}
use Rattle.std.specs.List.{AllByRecursion}
use Rattle.std.specs.Ordering.{is_lt, is_eq, eq_by_cmp}
use Rattle.std.specs.Cmp.{IsTotalOrder, eq_by_cmp_equiv}
use Rattle.std.specs.declared.cmp.Ordering.{Ordering}
use Rattle.std.specs.declared.cmp.Ordering.TheVariants.{Less, Equal, Greater}
use Rattle.std.specs.FinMap as finmap
use Rattle.std.specs.FinMap.{FinMap, find, is_sorted, entries_sorted, get-entries}
use Rattle.std.specs.FinMap.Entries.{below_all}

pub all_append : {A : Type 0} (P : A → Type 0) (xs ys : List A) → AllByRecursion P xs → AllByRecursion P ys → AllByRecursion P (xs ++ ys)
all_append P [] ys a b = b
all_append P (x ∷ xs) ys a b = (a.0, all_append P xs ys a.1 b)

pub all_filter : {A : Type 0} (P : A → Type 0) (p : A → Bool) (xs : List A) → AllByRecursion P xs → AllByRecursion P (filter p xs)
all_filter P p [] a = tt
all_filter P p (x ∷ xs) a = by (p x) (all_filter P p xs a.1)
  where
    by : (b : Bool) → AllByRecursion P (filter p xs) → AllByRecursion P (if b then x ∷ filter p xs else filter p xs)
    by true rest = (a.0, rest)
    by false rest = rest

pub all_map : {A B : Type 0} (P : A → Type 0) (Q : B → Type 0) (f : A → B) → ((x : A) → P x → Q (f x)) → (xs : List A) → AllByRecursion P xs → AllByRecursion Q (map f xs)
all_map P Q f g [] a = tt
all_map P Q f g (x ∷ xs) a = (g x a.0, all_map P Q f g xs a.1)

pub all_weaker : {A : Type 0} (P Q : A → Type 0) → ((x : A) → P x → Q x) → (xs : List A) → AllByRecursion P xs → AllByRecursion Q xs
all_weaker P Q g [] a = tt
all_weaker P Q g (x ∷ xs) a = (g x a.0, all_weaker P Q g xs a.1)

left : (a b : Bool) → T (a && b) → T a
left true b p = tt
left false b p = p

right : (a b : Bool) → T (a && b) → T b
right true b p = p
right false b p = absurd p

not_tied : (r : Ordering) → T (is_lt r) → is_eq r ≡ false
not_tied Less h = refl
not_tied Equal h = absurd h
not_tied Greater h = refl

-- each entry of a finite map is found by its key
module _ {K X : Type 0} {R : K → K → Ordering} (o : IsTotalOrder R) where
  later : (e : K × X) (es ys : List (K × X)) → T (below_all R e.0 ys) → AllByRecursion (λ y. find R y.0 es ≡ Some y.1) ys → AllByRecursion (λ y. find R y.0 (e ∷ es) ≡ Some y.1) ys
  later e es [] b a = tt
  later e es (y ∷ ys) b a =
      let differ : eq_by_cmp R y.0 e.0 ≡ false = (eq_by_cmp_equiv o).symm y.0 e.0 ∙ not_tied (R e.0 y.0) (left (is_lt (R e.0 y.0)) (below_all R e.0 ys) b) in
      (ap (λ t. cond t (Some e.1) (find R y.0 es)) differ ∙ a.0, later e es ys (right (is_lt (R e.0 y.0)) (below_all R e.0 ys) b) a.1)

  found : (es : List (K × X)) → T (is_sorted R es) → AllByRecursion (λ e. find R e.0 es ≡ Some e.1) es
  found [] h = tt
  found (e ∷ es) h = (
    ap (λ t. cond t (Some e.1) (find R e.0 es)) ((eq_by_cmp_equiv o).refl e.0),
    later e es es (left (below_all R e.0 es) (is_sorted R es) h) (found es (right (below_all R e.0 es) (is_sorted R es) h)),
  )

  pub all_entries : (m : FinMap R X) → AllByRecursion (λ (e : K × X). finmap.get m e.0 ≡ Some e.1) (finmap.entries m)
  all_entries m =
      all_weaker (λ (e : K × X). find R e.0 (finmap.entries m) ≡ Some e.1) (λ (e : K × X). finmap.get m e.0 ≡ Some e.1) (λ e h. get-entries m e.0 ∙ h) (finmap.entries m)
      (found (finmap.entries m) (entries_sorted m))
