-- What stands for the written form of a message.
use Rattle.std.specs.Prelude.{◌≡◌, ◌≢◌, ◌<◌, ◌^◌, ℕ, List, length}
use Rattle.atspi_message.specs.Envelope.{Envelope}
use Rattle.atspi_message.specs.Bytes.{IsMessage}
use Rattle.atspi_match.specs.routing.Queues.{told_length}
use Rattle.atspi_bus_steps.specs.declared.handing.Spelled.{Spelled}
use Rattle.atspi_bus_steps.specs.declared.handing.Spelled.TheVariants.{Bytes, TooLong}

-- bytes that pass each quota, of which only their number is known, as it is told
pub record IsLong (bytes : List ℕ) (len : ℕ) : Type 0 where
  pub more : 67108864 < length bytes
  pub told : len ≡ told_length bytes

-- it stands for these bytes: they are there, or there are so many
abbrev pub StandsFor : Spelled → List ℕ → Type 0
StandsFor (Bytes bytes) all = (bytes ≡ all) × (length all < 2 ^ 32)
StandsFor (TooLong len) all = IsLong all len

-- of a message of the bus's own the bytes are those of a message, or there are none, and it is no signal
abbrev pub IsOwn : Spelled → Envelope → Type 0
IsOwn (Bytes bytes) e = IsMessage e bytes
IsOwn (TooLong len) e = e.kind ≢ 4
