use Rattle.std.proofs.Common.{◌≡◌, ◌≢◌, ℕ, ◌<◌, List, [], ◌∷◌, length, refl, sym, ap, ◌∙◌, arith}
use Rattle.std.specs.Prelude.{codes, unwrap_or, drop}
use Rattle.std.specs.Fmt.{digits}
use Rattle.std.proofs.lemmas.Fmt.{decimal_injective}
use Rattle.std.specs.Ordering.{nat_cmp}
use Rattle.std.specs.Cmp.Lexicographic.{slice_cmp}
use Rattle.std.specs.FinMap as finmap
use Rattle.std.specs.FinMap.{get-empty, gets}
use Rattle.atspi_names.specs.Owners.{list_of, unique_name}
use Rattle.atspi_names.proofs.OwnersLemmas.{list_elsewhere}
use Rattle.atspi_bus_examples.specs.Keepings.{one_name}
use Rattle.atspi_bus_examples.proofs.owners.not_yet.Goals as goal

-- another name has no list
elsewhere : (name q : List ℕ) → q ≢ name → list_of (one_name name) q ≡ []
elsewhere name q other =
    list_elsewhere finmap.empty name ((5, 0) ∷ []) q other ∙ ap (λ o. unwrap_or o []) (get-empty (slice_cmp nat_cmp) q)

first : unique_name 0 ≡ codes ":1.0"
unfolding digits
first = refl

last : unique_name 4294967295 ≡ codes ":1.4294967295"
unfolding digits
last = refl

past : unique_name 4294967296 ≡ codes ":1.4294967296"
unfolding digits
past = refl

same_number : (m n : ℕ) → m < 4294967296 → n < 4294967297 → unique_name m ≡ unique_name n → m ≡ n
same_number m n below small e = decimal_injective m n (omega arith) (omega arith) (ap (λ name. drop 3 name) e)

pub returns-clause-next : goal.returns-clause-next
returns-clause-next c = λ early.
    let list : list_of (one_name (codes ":1.0")) (unique_name 0) ≡ (5, 0) ∷ [] = rw first (simp gets refl) in
    let none : list_of (one_name (codes ":1.0")) (unique_name 0) ≡ [] = early 0 (omega arith) (omega arith) in
    let e : 1 ≡ 0 = ap length (sym list ∙ none) in
    omega (arith, e)

pub returns-clause-given : goal.returns-clause-given
returns-clause-given c = λ n from below.
    elsewhere (codes ":1.0") (unique_name n) (λ e. let same : n ≡ 0 = same_number n 0 (omega (arith, below)) (omega arith) (e ∙ sym first) in absurd (omega (arith, same, from)))

pub returns-clause-last : goal.returns-clause-last
returns-clause-last c = λ early.
    let list : list_of (one_name (codes ":1.4294967295")) (unique_name 4294967295) ≡ (5, 0) ∷ [] = rw last (simp gets refl) in
    let none : list_of (one_name (codes ":1.4294967295")) (unique_name 4294967295) ≡ [] = early 4294967295 (omega arith) (omega arith) in
    let e : 1 ≡ 0 = ap length (sym list ∙ none) in
    omega (arith, e)

pub returns-clause-past_all : goal.returns-clause-past_all
returns-clause-past_all c = λ n from below.
    elsewhere (codes ":1.4294967296") (unique_name n)
    (λ e. let same : n ≡ 4294967296 = same_number n 4294967296 (omega (arith, below)) (omega arith) (e ∙ sym past) in absurd (omega (arith, same, below)))
