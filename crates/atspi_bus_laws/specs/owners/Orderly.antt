-- What holds of the owners of a bus's names at any time (D-Bus Specification, "Message Bus Names").
use Rattle.std.specs.Prelude.{◌≡◌, ℕ, ◌+◌, ◌^◌, ◌<◌, ◌≤◌, ◌==◌, cond, List, [], ◌∷◌, Some}
use Rattle.std.specs.FinMap.{get}
use Rattle.atspi_names.specs.Queue.{owner_in}
use Rattle.atspi_names.specs.Owners.{Owners, list_of, unique_name, NoneTooEarly}

-- how often the connection stands in the list of a name
abbrev pub times : ℕ → List (ℕ × ℕ) → ℕ
times conn [] = 0
times conn (entry ∷ entries) = cond (entry.0 == conn) 1 0 + times conn entries

-- A connection stands at most once in a list. A connection's unique name was given, and its list is the connection
-- alone; a unique name that somebody owns is that connection's. The unique names that were not given yet are nobody's.
pub record IsOrderly (owners : Owners) : Type 0 where
  pub once : (name : List ℕ) (conn : ℕ) → times conn (list_of owners.lists name) ≤ 1
  pub given_before : (conn : ℕ) (name : List ℕ) → get owners.unique conn ≡ Some name
      → (n : ℕ) × (n < owners.given) × (name ≡ unique_name n)
  pub alone : (conn : ℕ) (name : List ℕ) → get owners.unique conn ≡ Some name
      → list_of owners.lists name ≡ (conn, 0) ∷ []
  pub has_it : (conn n : ℕ) → n < 2 ^ 32 → owner_in (list_of owners.lists (unique_name n)) ≡ Some conn
      → get owners.unique conn ≡ Some (unique_name n)
  pub none_early : NoneTooEarly owners.given owners.lists
  pub few : owners.given < 4294967296
