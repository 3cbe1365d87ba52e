-- What a registry did from its start on.
use Rattle.std.specs.Prelude.{◌≡◌, ◌<◌, ◌≤◌, List, [], ◌++◌, fold}
use Rattle.atspi_message.specs.Envelope.{Envelope}
use Rattle.atspi_protocol.specs.registering.Steps.{Registry, registry_takes, takes}
use Rattle.atspi_protocol.specs.registry_laws.Sends.{started}

-- From its start on it took these messages and handed out those: with the messages that it still has queued they are
-- all that it sends for those that it took. None of them has passed the last number.
pub record IsAfter (r : Registry) (took said : List Envelope) : Type 0 where
  pub whole : record { state = r.state; out = said ++ r.out } ≡ fold takes started took
  pub numbered : r.state.next ≤ 4294967296

-- it has no message left to hand out
abbrev pub IsEmpty : Registry → Type 0
IsEmpty r = r.out ≡ []

-- the messages that it sends for one more would pass number 4,294,967,295
abbrev pub IsSpent : Registry → Envelope → Type 0
IsSpent r e = 4294967296 < (registry_takes r.state e).state.next
