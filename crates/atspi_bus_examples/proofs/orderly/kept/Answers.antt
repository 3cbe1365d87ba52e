use Rattle.std.proofs.Common.{◌≡◌, ◌≢◌, ◌≤◌, ◌<◌, ◌+◌, ◌^◌, ◌==◌, ℕ, List, [], ◌∷◌, Bool, true, false, cond, refl, sym, ap, ◌∙◌, arith}
use Rattle.std.specs.Prelude.{codes, drop, unwrap_or, Some, None}
use Rattle.std.specs.Fmt.{digits}
use Rattle.std.proofs.lemmas.Fmt.{decimal_injective}
use Rattle.std.specs.Ordering.{nat_cmp}
use Rattle.std.specs.Cmp.Lexicographic.{slice_cmp}
use Rattle.std.specs.BTreeMap.{is_at}
use Rattle.std.specs.FinMap as finmap
use Rattle.std.specs.FinMap.{get-empty, gets}
use Rattle.atspi_names.specs.Queue.{owner_in}
use Rattle.atspi_names.specs.Owners.{list_of, unique_name, nobody, after_hello, after_request}
use Rattle.atspi_names.proofs.OwnersLemmas.{list_elsewhere}
use Rattle.atspi_names.proofs.BookLemmas.{list_of-with_list}
use Rattle.atspi_bus_laws.specs.owners.Orderly.{IsOrderly, times}
use Rattle.atspi_bus_laws.proofs.OfOwners.Steps.{orderly-nobody, orderly-hello, orderly-request, orderly-release, orderly-gone}
use Rattle.atspi_bus_examples.specs.Keepings.{one_name}
use Rattle.atspi_bus_examples.proofs.orderly.kept.Goals as goal

-- one connection, and two
alone : IsOrderly (after_hello nobody 5)
alone = orderly-hello nobody 5 orderly-nobody (simp gets refl) (omega arith)

both : IsOrderly (after_hello (after_hello nobody 5) 6)
both = orderly-hello (after_hello nobody 5) 6 alone (simp gets refl) (omega arith)

waits : IsOrderly (after_request (after_request (after_hello (after_hello nobody 5) 6) 5 (codes "a.b") 0) 6 (codes "a.b") 0)
waits =
    orderly-request (after_request (after_hello (after_hello nobody 5) 6) 5 (codes "a.b") 0) 6 (codes "a.b") 0
    (orderly-request (after_hello (after_hello nobody 5) 6) 5 (codes "a.b") 0 both refl) refl

pub returns-clause-nobody : goal.returns-clause-nobody
returns-clause-nobody c = orderly-nobody

pub returns-clause-waiting : goal.returns-clause-waiting
returns-clause-waiting c = waits

pub returns-clause-released : goal.returns-clause-released
returns-clause-released c =
    orderly-release (after_request (after_hello nobody 5) 5 (codes "a.b") 0) 5 (codes "a.b")
    (orderly-request (after_hello nobody 5) 5 (codes "a.b") 0 alone refl) refl

pub returns-clause-gone : goal.returns-clause-gone
returns-clause-gone c =
    orderly-gone (after_request (after_request (after_hello (after_hello nobody 5) 6) 5 (codes "a.b") 0) 6 (codes "a.b") 0) 5
    waits

-- a name past the last unique one
abbrev past_name : List ℕ
past_name = codes ":1.4294967296"

past : unique_name 4294967296 ≡ past_name
unfolding digits
past = refl

not_past : (n : ℕ) → n < 2 ^ 32 → unique_name n ≢ past_name
not_past n below e =
    let same : n ≡ 4294967296 = decimal_injective n 4294967296 (omega (arith, below)) (omega arith) (ap (λ name. drop 3 name) (e ∙ sym past)) in
    omega (arith, same, below)

elsewhere : (q : List ℕ) → q ≢ past_name → list_of (one_name past_name) q ≡ []
elsewhere q other =
    list_elsewhere finmap.empty past_name ((5, 0) ∷ []) q other ∙ ap (λ o. unwrap_or o []) (get-empty (slice_cmp nat_cmp) q)

one_time : (b : Bool) → cond b 1 0 + 0 ≤ 1
one_time true = omega arith
one_time false = omega arith

once_of : (b : Bool) (conn : ℕ) → times conn (cond b ((5, 0) ∷ []) []) ≤ 1
once_of true conn = one_time (5 == conn)
once_of false conn = omega arith

at_most_once : (name : List ℕ) (conn : ℕ) → times conn (list_of (one_name past_name) name) ≤ 1
at_most_once name conn =
    let b : Bool = is_at (slice_cmp nat_cmp past_name) name in
    let same : list_of (one_name past_name) name ≡ cond b ((5, 0) ∷ []) [] =
    list_of-with_list finmap.empty past_name ((5, 0) ∷ []) name
    ∙ ap (λ o. cond b ((5, 0) ∷ []) (unwrap_or o [])) (get-empty (slice_cmp nat_cmp) name)
    in
    rw same (once_of b conn)

pub returns-clause-past_all : goal.returns-clause-past_all
returns-clause-past_all c = record {
  once = at_most_once;
  given_before = λ conn name has. let none : None ≡ Some name = sym (get-empty nat_cmp conn) ∙ has in absurd cc;
  alone = λ conn name has. let none : None ≡ Some name = sym (get-empty nat_cmp conn) ∙ has in absurd cc;
  has_it = λ conn n below owner.
      let none : owner_in [] ≡ Some conn = sym (ap owner_in (elsewhere (unique_name n) (not_past n below))) ∙ owner in
      absurd cc;
  none_early = λ n from below. elsewhere (unique_name n) (not_past n below);
  few = omega arith;
}
