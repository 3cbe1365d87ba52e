-- The first world: its registry has its names, and the bus handed on nothing yet.
use Rattle.std.proofs.Common.{◌≡◌, ℕ, zero, suc, ◌+◌, ◌<◌, ◌≤◌, ◌^◌, Bool, true, false, cond, List, [], ◌∷◌, Option, None, Some, refl, sym, ap, ◌∙◌, subst, arith}
use Rattle.std.specs.Prelude.{◌==◌, codes, unwrap_or}
use Rattle.std.specs.Fmt.{digits}
use Rattle.std.specs.List.{AllByRecursion}
use Rattle.std.specs.Ordering.{nat_cmp, eq_by_cmp}
use Rattle.std.specs.Cmp.Lexicographic.{slice_cmp}
use Rattle.std.specs.FinMap as finmap
use Rattle.std.specs.FinMap.{get-from_sorted}
use Rattle.std.proofs.lemmas.Option.{same_Some}
use Rattle.atspi_base.specs.valid_names.Elements.{parts_of, are_elements, are_two_or_more}
use Rattle.atspi_base.specs.valid_names.Names.{is_bus_name}
use Rattle.atspi_names.specs.Owners.{list_of, unique_name, HasNoEmptyList}
use Rattle.atspi_names.specs.Queue.{owner_in}
use Rattle.atspi_names.proofs.BookLemmas.{same_conn, same_name}
use Rattle.atspi_names.proofs.UniqueLemmas.{is_bus_name-unique_name, unique_name-injective}
use Rattle.atspi_bus_laws.specs.owners.Orderly.{times, IsOrderly}
use Rattle.atspi_protocol.specs.ends.Places.{registry}
use Rattle.atspi_match.specs.routing.BusState.{unique_of}
use Rattle.atspi_trace.specs.World.{End, first_unique, first_lists, first_owners, first_bus, first_registry}
use Rattle.atspi_trace.specs.Ends.{end_at}
use Rattle.atspi_bus_laws.specs.handed.Handing.{HandsLetters}
use Rattle.atspi_bus_laws.specs.handed.Naming.{IsSigned, IsNamed, AreNamed}
use Rattle.atspi_bus_laws.proofs.OfHanded.Uniques.{ties_not}

first_is : unique_name 0 ≡ codes ":1.0"
unfolding digits
first_is = refl

none_some : {A : Type 0} (x : A) → None ≡ Some x → ⊥
none_some x h = cc

true_false : true ≡ false → ⊥
true_false h = cc

-- the two names that the registry has
abbrev tie : List ℕ → List ℕ → Bool
tie q k = eq_by_cmp (slice_cmp nat_cmp) q k

abbrev found_by : Bool → Bool → Option (List (ℕ × ℕ))
found_by a b = cond a (Some ((0, 0) ∷ [])) (cond b (Some ((0, 4) ∷ [])) None)

abbrev list_by : Bool → Bool → List (ℕ × ℕ)
list_by a b = unwrap_or (found_by a b) []

found_is : (name : List ℕ) → finmap.get first_owners.lists name ≡ found_by (tie name (codes ":1.0")) (tie name registry)
found_is name = get-from_sorted (slice_cmp nat_cmp) first_lists name tt

list_is : (name : List ℕ) → list_of first_owners.lists name ≡ list_by (tie name (codes ":1.0")) (tie name registry)
list_is name = ap (λ o. unwrap_or o []) (found_is name)

unique_is : (conn : ℕ) → unique_of first_owners conn ≡ cond (eq_by_cmp nat_cmp conn 0) (Some (codes ":1.0")) None
unique_is conn = get-from_sorted nat_cmp first_unique conn tt

-- no other unique name is known
other_list : (n : ℕ) → 1 ≤ n → n < 2 ^ 32 → list_of first_owners.lists (unique_name n) ≡ []
other_list n from below = list_is (unique_name n) ∙ by (tie (unique_name n) (codes ":1.0")) (tie (unique_name n) registry) refl refl
  where
    by : (a b : Bool) → tie (unique_name n) (codes ":1.0") ≡ a → tie (unique_name n) registry ≡ b → list_by a b ≡ []
    by true b e f =
        let same : unique_name 0 ≡ unique_name n = first_is ∙ same_name (unique_name n) (codes ":1.0") e in
        let zero_ : 0 ≡ n = unique_name-injective 0 n (omega arith) below same in
        absurd (omega (arith, zero_, from))
    by false true e f = absurd (true_false (sym f))
    by false false e f = refl

first_orderly : IsOrderly first_owners
first_orderly = record {
  once = λ name conn. subst (λ l. times conn l ≤ 1) (sym (list_is name)) (once conn (tie name (codes ":1.0")) (tie name registry));
  given_before = λ conn name h. given conn name (eq_by_cmp nat_cmp conn 0) (sym (unique_is conn) ∙ h);
  alone = λ conn name h. alone conn name (eq_by_cmp nat_cmp conn 0) refl (sym (unique_is conn) ∙ h);
  has_it = λ conn n below h. has conn n (tie (unique_name n) (codes ":1.0")) (tie (unique_name n) registry) refl refl (sym (ap owner_in (list_is (unique_name n))) ∙ h);
  none_early = λ n from below. other_list n from below;
  few = omega arith;
}
  where
    one : (t : Bool) → cond t 1 0 + 0 ≤ 1
    one true = omega arith
    one false = omega arith

    once : (conn : ℕ) (a b : Bool) → times conn (list_by a b) ≤ 1
    once conn true b = one (0 == conn)
    once conn false true = one (0 == conn)
    once conn false false = omega arith

    given : (conn : ℕ) (name : List ℕ) (t : Bool) → cond t (Some (codes ":1.0")) None ≡ Some name → (n : ℕ) × (n < 1) × (name ≡ unique_name n)
    given conn name true h = (0, omega arith, sym (same_Some (codes ":1.0") name h) ∙ sym first_is)
    given conn name false h = absurd (none_some name h)

    alone : (conn : ℕ) (name : List ℕ) (t : Bool) → eq_by_cmp nat_cmp conn 0 ≡ t → cond t (Some (codes ":1.0")) None ≡ Some name → list_of first_owners.lists name ≡ (conn, 0) ∷ []
    alone conn name true e h =
        ap (list_of first_owners.lists) (sym (same_Some (codes ":1.0") name h)) ∙ list_is (codes ":1.0") ∙ ap (λ c. (c, 0) ∷ []) (same_conn conn 0 e)
    alone conn name false e h = absurd (none_some name h)

    has : (conn n : ℕ) (a b : Bool) → tie (unique_name n) (codes ":1.0") ≡ a → tie (unique_name n) registry ≡ b → owner_in (list_by a b) ≡ Some conn → unique_of first_owners conn ≡ Some (unique_name n)
    has conn n true b e f h = ap (unique_of first_owners) (sym (same_Some 0 conn h)) ∙ unique_is 0 ∙ ap Some (same_name (unique_name n) (codes ":1.0") e)
    has conn n false true e f h = absurd (true_false (sym f))
    has conn n false false e f h = absurd (none_some conn h)

registry_test : is_bus_name registry ≡ true
unfolding is_bus_name are_two_or_more are_elements parts_of
registry_test = refl

first_test : is_bus_name (codes ":1.0") ≡ true
first_test = ap is_bus_name (sym first_is) ∙ is_bus_name-unique_name 0 (omega arith)

first_only : (name : List ℕ) → is_bus_name name ≡ false → list_of first_owners.lists name ≡ []
first_only name other = list_is name ∙ by (tie name (codes ":1.0")) (tie name registry) refl refl
  where
    by : (a b : Bool) → tie name (codes ":1.0") ≡ a → tie name registry ≡ b → list_by a b ≡ []
    by true b e f = absurd (true_false (sym first_test ∙ ap is_bus_name (same_name name (codes ":1.0") e) ∙ other))
    by false true e f = absurd (true_false (sym registry_test ∙ ap is_bus_name (same_name name registry f) ∙ other))
    by false false e f = refl

first_full : HasNoEmptyList first_owners.lists
first_full name h = by (tie name (codes ":1.0")) (tie name registry) (sym (found_is name) ∙ h)
  where
    by : (a b : Bool) → found_by a b ≡ Some [] → ⊥
    by true b h = cc
    by false true h = cc
    by false false h = none_some [] h

pub first_hands : (quota : ℕ) → quota ≤ 67108864 → HandsLetters (record { bus = first_bus quota; ends = first_registry ∷ [] })
first_hands quota few = record {
  quota = few;
  known = record { orderly = first_orderly; named = first_only; no_empty = first_full; serials = tt; first = omega arith; given = omega arith };
  letters = (tt, tt);
}

pub first_named : AreNamed first_owners (first_registry ∷ [])
first_named = record { each = each; others = others; differ = differ; signed = signed }
  where
    registry_named : IsNamed first_owners 0 first_registry
    registry_named = record {
      given = λ name h. (0, omega arith, sym (same_Some (codes ":1.0") name h) ∙ sym first_is);
      known = λ stays. sym (unique_is 0);
      gone = λ left. absurd left;
    }

    each : (conn : ℕ) (e : End) → end_at (first_registry ∷ []) conn ≡ Some e → IsNamed first_owners conn e
    each zero e h = subst (IsNamed first_owners 0) (same_Some first_registry e h) registry_named
    each (suc conn) e h = absurd (none_some e h)

    others : (conn : ℕ) → end_at (first_registry ∷ []) conn ≡ None → unique_of first_owners conn ≡ None
    others zero h = absurd (none_some first_registry (sym h))
    others (suc conn) h = unique_is (suc conn) ∙ ap (λ b. cond b (Some (codes ":1.0")) None) (ties_not (suc conn) 0 (λ q. omega (arith, q)))

    differ : (j k : ℕ) (d e : End) (name : List ℕ) → end_at (first_registry ∷ []) j ≡ Some d → end_at (first_registry ∷ []) k ≡ Some e → d.unique ≡ Some name → e.unique ≡ Some name → j ≡ k
    differ zero zero d e name a b c u = refl
    differ zero (suc k) d e name a b c u = absurd (none_some e b)
    differ (suc j) k d e name a b c u = absurd (none_some d a)

    signed : (conn : ℕ) (e : End) → end_at (first_registry ∷ []) conn ≡ Some e → AllByRecursion (IsSigned (first_registry ∷ [])) e.down
    signed zero e h = subst (λ (x : End). AllByRecursion (IsSigned (first_registry ∷ [])) x.down) (same_Some first_registry e h) tt
    signed (suc conn) e h = absurd (none_some e h)
