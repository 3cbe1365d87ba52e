-- What holds of the owners of a bus's names at any time (D-Bus Specification, "Message Bus Names").
use Rattle.std.specs.Prelude.{◌≡◌, ℕ, true, List, [], ◌∷◌, Some}
use Rattle.std.specs.FinMap.{get}
use Rattle.atspi_base.specs.valid_names.Names.{is_unique_name}
use Rattle.atspi_names.specs.Owners.{Owners, list_of, NoneTooEarly}

-- the unique name of a connection is one, and its list is the connection alone; those that were not given yet are
-- nobody's
pub record IsExclusive (owners : Owners) : Type 0 where
  pub named : (conn : ℕ) (name : List ℕ) → get owners.unique conn ≡ Some name → is_unique_name name ≡ true
  pub alone : (conn : ℕ) (name : List ℕ) → get owners.unique conn ≡ Some name
      → list_of owners.lists name ≡ (conn, 0) ∷ []
  pub early : NoneTooEarly owners.given owners.lists
