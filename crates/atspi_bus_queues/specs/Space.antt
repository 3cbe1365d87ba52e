-- Room in the queue of one connection.
use Rattle.std.specs.Prelude.{ℕ, ◌+◌, ◌≤◌, List, length, IsSome}
use Rattle.std.specs.Ordering.{nat_cmp}
use Rattle.std.specs.FinMap as finmap
use Rattle.std.specs.FinMap.{FinMap}
use Rattle.atspi_match.specs.routing.Queues.{queue_of}

-- a connection has a queue, and with so many bytes more no more than the quota wait in it
pub record HasSpace (queues : FinMap nat_cmp (List ℕ)) (conn len quota : ℕ) : Type 0 where
  pub queue : IsSome (finmap.get queues conn)
  pub room : length (queue_of queues conn) + len ≤ quota
