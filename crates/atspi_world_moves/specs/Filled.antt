-- Bytes of a queue that come down a link to an end.
use Rattle.std.specs.Prelude.{◌≡◌, ◌<◌, ◌≤◌, ◌+◌, ℕ, List, ◌++◌, length, take, drop, slice_get, slice_set, Some}
use Rattle.atspi_message.specs.Envelope.{Envelope}
use Rattle.atspi_message.specs.Bytes.{IsMessage, written}
use Rattle.atspi_bus_queues.specs.Change.{with_queue}
use Rattle.atspi_match.specs.routing.Queues.{Bus, queue_of}
use Rattle.atspi_stream.specs.Stream.{AwaitsMore}

-- the bytes that wait for a connection
abbrev pub waits_for : Bus → ℕ → List ℕ
waits_for b conn = queue_of b.waiting.queues conn

-- the bus after the first bytes of a queue were taken away
abbrev pub gave : Bus → ℕ → ℕ → Bus
gave b conn count =
    record b
    { waiting = record b.waiting { queues = with_queue b.waiting.queues conn (drop count (waits_for b conn)) } }

-- so many of the bytes that waited for a connection stand behind those that its end was given
pub record IsGiven (before after : Bus) (given given' : List ℕ) (conn count : ℕ) : Type 0 where
  pub there : count ≤ length (waits_for before conn)
  pub bus : after ≡ gave before conn count
  pub put : given' ≡ given ++ take count (waits_for before conn)

-- no byte behind a message that these bytes begin with
abbrev pub KeepsWithin : List ℕ → List ℕ → List ℕ → Type 0
KeepsWithin given waiting given' =
    (m : Envelope) (rest : List ℕ) → IsMessage m (written m) → given ++ waiting ≡ written m ++ rest
    → length given ≤ length (written m) → length given' ≤ length (written m)

-- at most so many; fewer only where none wait any more, or a message is whole or malformed
pub record IsFilled (before after : Bus) (given given' : List ℕ) (conn most count : ℕ) : Type 0 where
  pub gives : IsGiven before after given given' conn count
  pub within : KeepsWithin given (waits_for before conn) given'
  pub stops : count < most → 0 < length (waits_for after conn) → AwaitsMore given' → ⊥

-- the same of the end with a number, among all
pub record IsFilledAt (before after : Bus) (ends ends' : List (List ℕ)) (conn most count : ℕ) (given : List ℕ)
    : Type 0 where
  pub now : List ℕ
  pub ends_are : ends' ≡ slice_set ends conn now
  pub filled : IsFilled before after given now conn most count

abbrev pub FillsAt : Bus → Bus → List (List ℕ) → List (List ℕ) → ℕ → ℕ → ℕ → Type 0
FillsAt before after ends ends' conn most count = (given : List ℕ) → slice_get ends conn ≡ Some given
    → IsFilledAt before after ends ends' conn most count given

-- some of the bytes that waited for a connection came down to the end with its number, among all, and none is lost
pub record IsGivenAt (before after : Bus) (ends ends' : List (List ℕ)) (conn : ℕ) (given : List ℕ) : Type 0 where
  pub count : ℕ
  pub now : List ℕ
  pub ends_are : ends' ≡ slice_set ends conn now
  pub gives : IsGiven before after given now conn count

abbrev pub GivesAt : Bus → Bus → List (List ℕ) → List (List ℕ) → ℕ → Type 0
GivesAt before after ends ends' conn = (given : List ℕ) → slice_get ends conn ≡ Some given
    → IsGivenAt before after ends ends' conn given
