-- What holds of a bus's names and open calls at any time, so that each message of its own can be written.
use Rattle.std.specs.Prelude.{◌≡◌, ◌≢◌, ◌<◌, ◌≤◌, ◌^◌, ℕ, false, List, []}
use Rattle.std.specs.List.{AllByRecursion}
use Rattle.atspi_base.specs.valid_names.Names.{is_bus_name}
use Rattle.atspi_names.specs.Owners.{Owners, list_of, HasNoEmptyList}
use Rattle.atspi_bus_laws.specs.owners.Orderly.{IsOrderly}
use Rattle.atspi_match.specs.routing.BusState.{OpenCall, BusState}

-- a serial of a message
abbrev pub IsSerial : ℕ → Type 0
IsSerial n = (n ≢ 0) × (n < 2 ^ 32)

-- owners are orderly, only bus names have any, no list is empty; open calls have serials; and fewer unique names were
-- given than messages said
pub record AreKnown (owners : Owners) (calls : List OpenCall) (next : ℕ) : Type 0 where
  pub orderly : IsOrderly owners
  pub named : (name : List ℕ) → is_bus_name name ≡ false → list_of owners.lists name ≡ []
  pub no_empty : HasNoEmptyList owners.lists
  pub serials : AllByRecursion (λ (c : OpenCall). IsSerial c.serial) calls
  pub first : 1 ≤ next
  pub given : owners.given < next

abbrev pub IsKnown : BusState → Type 0
IsKnown s = AreKnown s.owners s.calls s.next
