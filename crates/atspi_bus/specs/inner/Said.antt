-- A message of the bus's own that went to all of its receivers.
use Rattle.std.specs.Prelude.{◌≡◌, ◌+◌, ◌<◌, ◌^◌, ◌++◌, ◌∷◌, [], ℕ, List, length}
use Rattle.atspi_message.specs.Bytes.{written}
use Rattle.atspi_message.specs.Envelope.{Envelope}
use Rattle.atspi_bus_queues.specs.Each.{HaveRoom, queued_each}
use Rattle.atspi_match.specs.routing.Queues.{Bus}
use Rattle.atspi_match.specs.routing.Routing.{receivers}

-- its bytes wait for each receiver, which had room for them
pub record IsHanded (first after : Bus) (e : Envelope) (bytes conns : List ℕ) : Type 0 where
  pub is : after ≡ record first { waiting = queued_each first.quota first.waiting bytes conns }
  pub spelled : bytes ≡ written e
  pub short : length bytes < 2 ^ 32
  pub routed : conns ≡ receivers first.state e
  pub room : HaveRoom first.quota first.waiting bytes conns

-- it took the next number, and was noted
pub record IsSaid (first after : Bus) (e : Envelope) (bytes conns : List ℕ) : Type 0 where
  pub between : Bus
  pub handed : IsHanded first between (record e { serial = first.state.next }) bytes conns
  pub is : after ≡ record between {
    state = record first.state { next = first.state.next + 1 };
    own = first.own ++ record e { serial = first.state.next } ∷ [];
  }
