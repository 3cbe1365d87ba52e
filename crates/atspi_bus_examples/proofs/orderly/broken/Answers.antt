use Rattle.std.proofs.Common.{◌≡◌, ℕ, false, true, List, [], ◌∷◌, refl, sym, ap, ◌∙◌, arith}
use Rattle.std.specs.Prelude.{codes, Some, None}
use Rattle.std.specs.Fmt.{digits}
use Rattle.std.specs.FinMap.{get, gets}
use Rattle.atspi_base.specs.valid_names.Names.{is_unique_name}
use Rattle.atspi_names.specs.Queue.{owner_in}
use Rattle.atspi_names.specs.Owners.{list_of, unique_name}
use Rattle.atspi_bus_laws.specs.owners.Orderly.{times}
use Rattle.atspi_bus_examples.specs.Keepings.{one_list, one_caller}
use Rattle.atspi_bus_examples.proofs.orderly.broken.Goals as goal

-- what is kept, looked up
has : (name : List ℕ) (list : List (ℕ × ℕ)) → get (one_caller 1 5 name list).unique 5 ≡ Some name
has name list = simp gets refl

first_name : unique_name 0 ≡ codes ":1.0"
unfolding digits
first_name = refl

pub returns-clause-twice : goal.returns-clause-twice
returns-clause-twice c = λ orderly.
    let list : list_of (one_list 0 (codes "a.b") ((1, 0) ∷ (2, 0) ∷ (1, 4) ∷ [])).lists (codes "a.b") ≡ (1, 0) ∷ (2, 0) ∷ (1, 4) ∷ [] = simp gets refl in
    omega (arith, orderly.once (codes "a.b") 1, ap (λ l. times 1 l) list)

pub returns-clause-not_given : goal.returns-clause-not_given
returns-clause-not_given c = λ orderly.
    let was = orderly.given_before 5 (codes "a.b") (has (codes "a.b") ((5, 0) ∷ [])) in
    let e : false ≡ true = ap is_unique_name was.2 in
    absurd cc

pub returns-clause-not_alone : goal.returns-clause-not_alone
returns-clause-not_alone c = λ orderly.
    let list : list_of (one_caller 1 5 (codes ":1.0") ((5, 0) ∷ (6, 0) ∷ [])).lists (codes ":1.0") ≡ (5, 0) ∷ (6, 0) ∷ [] = simp gets refl in
    let alone : list_of (one_caller 1 5 (codes ":1.0") ((5, 0) ∷ (6, 0) ∷ [])).lists (codes ":1.0") ≡ (5, 0) ∷ [] =
    orderly.alone 5 (codes ":1.0") (has (codes ":1.0") ((5, 0) ∷ (6, 0) ∷ [])) in
    let e : times 6 ((5, 0) ∷ (6, 0) ∷ []) ≡ times 6 ((5, 0) ∷ []) = ap (λ l. times 6 l) (sym list ∙ alone) in
    omega (arith, e)

pub returns-clause-not_its_owner : goal.returns-clause-not_its_owner
returns-clause-not_its_owner c = λ orderly.
    let list : list_of (one_caller 1 5 (codes ":1.0") ((6, 0) ∷ [])).lists (codes ":1.0") ≡ (6, 0) ∷ [] = simp gets refl in
    let alone : list_of (one_caller 1 5 (codes ":1.0") ((6, 0) ∷ [])).lists (codes ":1.0") ≡ (5, 0) ∷ [] =
    orderly.alone 5 (codes ":1.0") (has (codes ":1.0") ((6, 0) ∷ [])) in
    let e : times 6 ((6, 0) ∷ []) ≡ times 6 ((5, 0) ∷ []) = ap (λ l. times 6 l) (sym list ∙ alone) in
    omega (arith, e)

pub returns-clause-has_not : goal.returns-clause-has_not
returns-clause-has_not c = λ orderly.
    let owner : owner_in (list_of (one_list 1 (codes ":1.0") ((5, 0) ∷ [])).lists (unique_name 0)) ≡ Some 5 = rw first_name (simp gets refl) in
    let is : get (one_list 1 (codes ":1.0") ((5, 0) ∷ [])).unique 5 ≡ Some (unique_name 0) = orderly.has_it 5 0 (omega arith) owner in
    let none : get (one_list 1 (codes ":1.0") ((5, 0) ∷ [])).unique 5 ≡ None = simp gets refl in
    let e : None ≡ Some (unique_name 0) = sym none ∙ is in
    absurd cc

pub returns-clause-early : goal.returns-clause-early
returns-clause-early c = λ orderly.
    let list : list_of (one_list 0 (codes ":1.0") ((5, 0) ∷ [])).lists (unique_name 0) ≡ (5, 0) ∷ [] = rw first_name (simp gets refl) in
    let none : list_of (one_list 0 (codes ":1.0") ((5, 0) ∷ [])).lists (unique_name 0) ≡ [] = orderly.none_early 0 (omega arith) (omega arith) in
    let e : times 5 ((5, 0) ∷ []) ≡ times 5 [] = ap (λ l. times 5 l) (sym list ∙ none) in
    omega (arith, e)

pub returns-clause-many : goal.returns-clause-many
returns-clause-many c = λ orderly. omega (arith, orderly.few)
