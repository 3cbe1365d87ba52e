-- Bytes that go to several connections, each of which has room for them.
use Rattle.std.specs.Prelude.{◌≡◌, ◌+◌, ◌≤◌, ℕ, List, [], ◌∷◌, length, IsSome}
use Rattle.std.specs.List.{fold}
use Rattle.std.specs.FinMap as finmap
use Rattle.atspi_match.specs.routing.Queues.{Waiting, queue_of, queued}
use Rattle.atspi_bus_queues.specs.Held.{Held}

-- what waits after bytes went to some connections, one after the other
abbrev pub queued_each : ℕ → Waiting → List ℕ → List ℕ → Waiting
queued_each quota w bytes conns = fold (λ (v : Waiting) (conn : ℕ). queued quota v conn bytes) w conns

-- a connection has a queue with room for so many bytes more, and nobody is to be closed
pub record HasRoom (h : Held) (conn len : ℕ) : Type 0 where
  pub queue : IsSome (finmap.get h.waiting.queues conn)
  pub room : length (queue_of h.waiting.queues conn) + len ≤ h.quota
  pub nobody : h.waiting.due ≡ []

-- each of some connections has room for the bytes when its turn comes
abbrev pub HaveRoom : ℕ → Waiting → List ℕ → List ℕ → Type 0
HaveRoom quota w bytes [] = Unit {0}
HaveRoom quota w bytes (conn ∷ conns) =
    HasRoom (record { quota = quota; waiting = w }) conn (length bytes)
    × HaveRoom quota (queued quota w conn bytes) bytes conns

-- bytes went to each of some connections, which had room for them
pub record WentToEach (quota : ℕ) (before after : Waiting) (bytes conns : List ℕ) : Type 0 where
  pub after_is : after ≡ queued_each quota before bytes conns
  pub had_room : HaveRoom quota before bytes conns
