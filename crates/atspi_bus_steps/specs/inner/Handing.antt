-- A message that is handed to its receivers.
use Rattle.std.specs.Prelude.{◌≡◌, ℕ, false, List, Some}
use Rattle.std.specs.List.{fold}
use Rattle.atspi_message.specs.Envelope.{Envelope}
use Rattle.atspi_message.specs.Bytes.{written}
use Rattle.atspi_match.specs.routing.BusState.{OpenCall, BusState, unique_of}
use Rattle.atspi_match.specs.routing.Routing.{receivers}
use Rattle.atspi_match.specs.routing.Steps.{BusStep, handed, is_unowned, calls_after_all, passes_on}
use Rattle.atspi_match.specs.routing.Queues.{Bus, moved, stepped}
use Rattle.atspi_bus_queues.specs.Held.{Held}
pub use Rattle.atspi_bus_queues.specs.Each.{queued_each}

-- the bus after a message was handed to its receivers
abbrev pub handed_out : Bus → Envelope → Bus
handed_out b e = record b { waiting = fold (moved b.quota) b.waiting (handed b.state e) }

-- a message of a connection goes to its receivers
abbrev pub forwards : BusState → ℕ → Envelope → BusStep
forwards s conn e =
    record { state = record s { calls = calls_after_all s.calls conn e (receivers s e) }; moves = handed s e }

-- a message of a connection went to all its receivers, and is noted in the open calls. It has one where it has a
-- destination.
pub record WentToAll (s : BusState) (conn : ℕ) (e : Envelope) (calls noted : List OpenCall) (before after : Held)
    : Type 0 where
  pub owned : is_unowned e.destination (receivers s e) ≡ false
  pub noted_is : noted ≡ calls_after_all calls conn e (receivers s e)
  pub after_is : after ≡ record before { waiting = queued_each before.quota before.waiting (written e) (receivers s e) }

-- the same of one from a connection that has its name, with it as the sender
pub record WentSigned (s : BusState) (conn : ℕ) (e : Envelope) (calls noted : List OpenCall) (before after : Held)
    : Type 0 where
  pub name : List ℕ
  pub named : unique_of s.owners conn ≡ Some name
  pub went : WentToAll s conn (record e { sender = Some name }) calls noted before after

-- a message of a connection that has its name was passed on with it as the sender
pub record IsPassed (before after : Bus) (conn : ℕ) (e : Envelope) : Type 0 where
  pub name : List ℕ
  pub named : unique_of before.state.owners conn ≡ Some name
  pub after_is : after ≡ stepped before (passes_on before.state conn (record e { sender = Some name }))
