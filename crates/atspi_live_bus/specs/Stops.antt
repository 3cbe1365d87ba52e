-- Why the bus stops, and the counts of the host.
use Rattle.std.specs.Prelude.{◌≡◌, ◌≤◌, ◌⊎◌, ℕ, ⊤}
use Rattle.atspi_base.specs.Outside.{Rose}
use Rattle.atspi_live_bus.specs.declared.stop.Stop.{Stop}
use Rattle.atspi_live_bus.specs.declared.stop.Stop.TheVariants as stops

-- for which no call of the host is to blame
abbrev pub IsFree : Stop → Type 0
IsFree stops.HostFailed = ⊥
IsFree stops.Spent = ⊤
IsFree stops.NoMemory = ⊤

-- memory was wanting
abbrev pub IsWant : Stop → Type 0
IsWant stops.HostFailed = ⊥
IsWant stops.Spent = ⊥
IsWant stops.NoMemory = ⊤

-- the count of failed calls rose where one failed, and else is the same
abbrev pub StopBlames : Stop → ℕ → ℕ → Type 0
StopBlames stops.HostFailed before after = (before ≤ after) × Rose before after
StopBlames stops.Spent before after = after ≡ before
StopBlames stops.NoMemory before after = after ≡ before

abbrev pub status_of : Stop → ℕ
status_of stops.HostFailed = 7
status_of stops.Spent = 13
status_of stops.NoMemory = 5

-- how a run of the bus ended, by its status
pub record Ends (status before after : ℕ) : Type 0 where
  pub status_is : (status ≡ 5) ⊎ ((status ≡ 7) ⊎ ((status ≡ 8) ⊎ (status ≡ 13)))
  pub by_host : status ≡ 7 → Rose before after
  pub no_host : (status ≡ 7) ⊎ (after ≡ before)
