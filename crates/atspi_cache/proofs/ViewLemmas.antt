-- Entries of a map as views.
use Rattle.std.proofs.Common.{◌≡◌, ℕ, Bool, cond, true, false, List, [], ◌∷◌, map, Option, None, Some, IsSome, refl, sym, ap, subst, ◌∙◌}
use Rattle.std.specs.Option.{option_map}
use Rattle.std.specs.Ordering.{nat_cmp, eq_by_cmp, is_eq}
use Rattle.std.specs.declared.cmp.Ordering.{Ordering}
use Rattle.std.specs.declared.cmp.Ordering.TheVariants.{Less, Equal, Greater}
use Rattle.std.proofs.lemmas.Bool.{false≢true}
use Rattle.std.specs.Cmp.{nat_cmp_total, eq_by_cmp_equiv}
use Rattle.std.specs.Map.{lookup}
use Rattle.std.specs.BTreeMap.{BTreeMap, is_at}
use Rattle.std.specs.FinMap.{get, insert, remove, find, get-from_entries, get-insert, get-remove, same_map, nat_cmp-IsAntisymmetric}
use Rattle.std.proofs.lemmas.Map.Made.{lookup-map_values}
use Rattle.atspi_cache.specs.declared.cache.Held.{Held}
use Rattle.atspi_tree_model.specs.declared.news.News.{News}
use Rattle.atspi_cache.specs.Cache.{View, Views, folded, told, with_view}
use Rattle.atspi_cache.specs.Held.{as_views, view_of}

find_lookup : {X : Type 0} (es : List (ℕ × X)) (q : ℕ) → find nat_cmp q es ≡ lookup (is_at (nat_cmp q)) es
find_lookup [] q = refl
find_lookup (e ∷ es) q = ap (cond (is_at (nat_cmp q) e.0) (Some e.1)) (find_lookup es q)

cond_map : {X Y : Type 0} (g : X → Y) (b : Bool) (x y : Option X) → option_map g (cond b x y) ≡ cond b (option_map g x) (option_map g y)
cond_map g true x y = refl
cond_map g false x y = refl

-- the view of an application
pub get_views : (m : BTreeMap ℕ Held) (q : ℕ) → get (as_views m) q ≡ option_map view_of (lookup (is_at (nat_cmp q)) m.entries)
get_views m q =
    get-from_entries nat_cmp_total (map (λ (e : ℕ × Held). (e.0, view_of e.1)) m.entries) q
    ∙ find_lookup (map (λ (e : ℕ × Held). (e.0, view_of e.1)) m.entries) q
    ∙ lookup-map_values view_of (is_at (nat_cmp q)) m.entries

-- a map that changes at one application
pub put_views : (m n : BTreeMap ℕ Held) (k : ℕ) (v : Held) → ((q : ℕ) → lookup (is_at (nat_cmp q)) n.entries ≡ cond (is_at (nat_cmp k) q) (Some v) (lookup (is_at (nat_cmp q)) m.entries))
    → as_views n ≡ insert (as_views m) k (view_of v)
put_views m n k v h = same_map nat_cmp_total nat_cmp-IsAntisymmetric _ _ (λ q.
    get_views n q ∙ ap (option_map view_of) (h q) ∙ cond_map view_of (is_at (nat_cmp k) q) (Some v) (lookup (is_at (nat_cmp q)) m.entries)
    ∙ ap (λ b. cond b (Some (view_of v)) (option_map view_of (lookup (is_at (nat_cmp q)) m.entries))) ((eq_by_cmp_equiv nat_cmp_total).symm k q)
    ∙ sym (get-insert nat_cmp_total (as_views m) k (view_of v) q ∙ ap (cond (is_at (nat_cmp q) k) (Some (view_of v))) (get_views m q)))

-- a map that loses one
pub drop_views : (m n : BTreeMap ℕ Held) (k : ℕ) → ((q : ℕ) → lookup (is_at (nat_cmp q)) n.entries ≡ cond (is_at (nat_cmp k) q) None (lookup (is_at (nat_cmp q)) m.entries))
    → as_views n ≡ remove (as_views m) k
drop_views m n k h = same_map nat_cmp_total nat_cmp-IsAntisymmetric _ _ (λ q.
    get_views n q ∙ ap (option_map view_of) (h q) ∙ cond_map view_of (is_at (nat_cmp k) q) None (lookup (is_at (nat_cmp q)) m.entries)
    ∙ ap (λ b. cond b None (option_map view_of (lookup (is_at (nat_cmp q)) m.entries))) ((eq_by_cmp_equiv nat_cmp_total).symm k q)
    ∙ sym (get-remove nat_cmp_total (as_views m) k q ∙ ap (cond (is_at (nat_cmp q) k) None) (get_views m q)))

-- a map whose entries are as before
pub same_views : (m n : BTreeMap ℕ Held) → ((q : ℕ) → lookup (is_at (nat_cmp q)) n.entries ≡ lookup (is_at (nat_cmp q)) m.entries) → as_views n ≡ as_views m
same_views m n h = same_map nat_cmp_total nat_cmp-IsAntisymmetric _ _ (λ q. get_views n q ∙ ap (option_map view_of) (h q) ∙ sym (get_views m q))

equal : (r : Ordering) → is_eq r ≡ true → r ≡ Equal
equal Less p = absurd (false≢true p)
equal Equal p = refl
equal Greater p = absurd (false≢true p)

same_at : (b : Bool) (o : Option View) (v : View) → (b ≡ true → o ≡ Some v) → cond b (Some v) o ≡ o
same_at true o v h = sym (h refl)
same_at false o v h = refl

-- to set what is there already changes nothing
pub put_same : (m : Views) (k : ℕ) (v : View) → get m k ≡ Some v → insert m k v ≡ m
put_same m k v e = same_map nat_cmp_total nat_cmp-IsAntisymmetric _ _ (λ q.
    get-insert nat_cmp_total m k v q
    ∙ same_at (eq_by_cmp nat_cmp q k) (get m q) v (λ t. ap (get m) (nat_cmp-IsAntisymmetric q k (equal (nat_cmp q k) t)) ∙ e))

pub some_at : {X : Type 0} {o : Option X} {x : X} → o ≡ Some x → IsSome o
some_at e = rw e refl

-- what is found of an application
pub get_found : (m : BTreeMap ℕ Held) (views : Views) (k : ℕ) (h : Held) → as_views m ≡ views → lookup (is_at (nat_cmp k)) m.entries ≡ Some h
    → get views k ≡ Some (view_of h)
get_found m views k h v e = ap (λ w. get w k) (sym v) ∙ get_views m k ∙ ap (option_map view_of) e

pub get_missed : (m : BTreeMap ℕ Held) (views : Views) (k : ℕ) → as_views m ≡ views → lookup (is_at (nat_cmp k)) m.entries ≡ None → get views k ≡ None
get_missed m views k v e = ap (λ w. get w k) (sym v) ∙ get_views m k ∙ ap (option_map view_of) e

-- one that is held is found
pub not_missed : (o : Option View) → o ≡ None → IsSome o → ⊥
not_missed o e h = let z : IsSome {T = View} None = subst (λ (o : Option View). IsSome o) e h in cc

-- the views after a news of an application that is held
pub folded_is : (views : Views) (k : ℕ) (news : News) (v : View) → get views k ≡ Some v → folded k news views ≡ insert views k (told news v)
folded_is views k news v e = ap (λ o. with_view k (option_map (told news) o) views) e
