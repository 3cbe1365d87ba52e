-- What a launcher did from its start on.
use Rattle.std.specs.Prelude.{◌≡◌, ◌<◌, ◌≤◌, ℕ, List, [], ◌++◌, fold}
use Rattle.atspi_message.specs.Envelope.{Envelope}
use Rattle.atspi_launcher.specs.Launching.{Launcher, launcher_takes, started, takes}

-- From its start with this address on it took these messages and handed out those: with the messages that it still has
-- queued they are all that it sends for those that it took. None of them has passed the last number.
pub record IsAfter (address : List ℕ) (l : Launcher) (took said : List Envelope) : Type 0 where
  pub whole : record { state = l.state; out = said ++ l.out } ≡ fold takes (started address) took
  pub numbered : l.state.next ≤ 4294967296

-- it has no message left to hand out
abbrev pub IsEmpty : Launcher → Type 0
IsEmpty l = l.out ≡ []

-- the messages that it sends for one more would pass number 4,294,967,295
abbrev pub IsSpent : Launcher → Envelope → Type 0
IsSpent l e = 4294967296 < (launcher_takes l.state e).state.next
