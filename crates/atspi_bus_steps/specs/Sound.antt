-- What holds of a bus at any time.
use Rattle.std.specs.Prelude.{◌≢◌, ◌<◌, ◌≤◌, All}
use Rattle.std.specs.List.Sorted.{IsStrictlyIncreasing}
use Rattle.atspi_match.specs.routing.BusState.{OpenCall, BusState}
use Rattle.atspi_bus_answers.specs.Answered.{AreNamed}

-- connections stand in rising order, and the next serial is one, or the one behind the last
pub record IsReady (s : BusState) : Type 0 where
  pub rising : IsStrictlyIncreasing s.joined
  pub first : 1 ≤ s.next
  pub last : s.next ≤ 4294967296

-- Besides, fewer unique names were given than messages said, since each is told; only bus names have owners; and the
-- serial of a call is not 0.
pub record IsSound (s : BusState) : Type 0 where
  pub ready : IsReady s
  pub given : s.owners.given < s.next
  pub named : AreNamed s.owners.lists
  pub numbered : All (λ (c : OpenCall). c.serial ≢ 0) s.calls
