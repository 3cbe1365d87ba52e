-- What a small bus keeps of names, for the worked cases.
use Rattle.std.specs.Prelude.{ℕ, List, [], ◌∷◌, codes}
use Rattle.std.specs.FinMap.{empty, from_sorted, insert}
use Rattle.atspi_names.specs.Owners.{Lists, Owners}

-- so many unique names were given; no connection has one, and one name has a list
abbrev pub one_list : ℕ → List ℕ → List (ℕ × ℕ) → Owners
one_list given name list = record { given = given; unique = empty; lists = insert empty name list }

-- so many unique names were given; one connection has one, and that name has a list
abbrev pub one_caller : ℕ → ℕ → List ℕ → List (ℕ × ℕ) → Owners
one_caller given conn name list =
    record { given = given; unique = insert empty conn name; lists = insert empty name list }

-- one name has a list
abbrev pub one_name : List ℕ → Lists
one_name name = insert empty name ((5, 0) ∷ [])

-- a unique name, and two well-known ones, one with somebody who waits
abbrev pub three_lists : List (List ℕ × List (ℕ × ℕ))
three_lists =
    (codes ":1.0", (6, 0) ∷ []) ∷ (codes "a.b", (5, 0) ∷ (6, 0) ∷ []) ∷ (codes "a.c", (6, 1) ∷ (5, 0) ∷ []) ∷ []

abbrev pub some_lists : Lists
some_lists = from_sorted three_lists

-- two connections, of which the second has the first name
abbrev pub two_names : List (ℕ × List ℕ)
two_names = (5, codes ":1.1") ∷ (6, codes ":1.0") ∷ []

abbrev pub two_callers : Owners
two_callers = record { given = 2; unique = from_sorted two_names; lists = some_lists }
