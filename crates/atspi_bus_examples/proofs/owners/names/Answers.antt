use Rattle.std.proofs.Common.{◌≡◌, ℕ, List, [], ◌∷◌, ◌++◌, map, not, refl, ap, ◌∙◌}
use Rattle.std.specs.Prelude.{codes, filter, unwrap_or}
use Rattle.std.specs.Ordering.{nat_cmp}
use Rattle.std.specs.Cmp.Lexicographic.{slice_cmp}
use Rattle.std.specs.FinMap as finmap
use Rattle.std.specs.FinMap.{entries-from_sorted, get-from_sorted}
use Rattle.atspi_base.specs.valid_names.Names.{is_unique_name}
use Rattle.atspi_names.specs.Queue.{owns}
use Rattle.atspi_names.specs.Owners.{list_of, own_name, well_known}
use Rattle.atspi_bus_examples.specs.Keepings.{three_lists, two_names, some_lists, two_callers}
use Rattle.atspi_bus_examples.proofs.owners.names.Goals as goal

known : well_known some_lists ≡ codes "a.b" ∷ codes "a.c" ∷ []
known =
    ap (λ (es : List (List ℕ × List (ℕ × ℕ))). filter (λ name. not (is_unique_name name)) (map (λ e. e.0) es))
    (entries-from_sorted (slice_cmp nat_cmp) three_lists tt)

of_b : list_of some_lists (codes "a.b") ≡ (5, 0) ∷ (6, 0) ∷ []
of_b = ap (λ o. unwrap_or o []) (get-from_sorted (slice_cmp nat_cmp) three_lists (codes "a.b") tt)

of_c : list_of some_lists (codes "a.c") ≡ (6, 1) ∷ (5, 0) ∷ []
of_c = ap (λ o. unwrap_or o []) (get-from_sorted (slice_cmp nat_cmp) three_lists (codes "a.c") tt)

callers : finmap.values two_callers.unique ≡ codes ":1.1" ∷ codes ":1.0" ∷ []
callers = ap (λ (es : List (ℕ × List ℕ)). map (λ e. e.1) es) (entries-from_sorted nat_cmp two_names tt)

pub returns-clause-own : goal.returns-clause-own
returns-clause-own c = refl

pub returns-clause-well_known : goal.returns-clause-well_known
returns-clause-well_known c = known

pub returns-clause-owned : goal.returns-clause-owned
returns-clause-owned c =
    ap (λ names. filter (λ name. owns 6 (list_of some_lists name)) names) known ∙ rw (of_b, of_c) refl

pub returns-clause-listed : goal.returns-clause-listed
returns-clause-listed c =
    ap (λ names. own_name ∷ (names ++ well_known some_lists)) callers
    ∙ ap (λ names. own_name ∷ (codes ":1.1" ∷ codes ":1.0" ∷ names)) known
