-- Words that only the private contracts and proofs beside `Beginning` use.
use Rattle.std.specs.Prelude.{◌≡◌, ℕ, []}
use Rattle.atspi_match.specs.routing.Queues.{Bus}
use Rattle.atspi_world_moves.specs.Filled.{waits_for, gave}

-- all that waited for a connection is gone from the bus
pub record IsHeard (before after : Bus) (conn : ℕ) : Type 0 where
  pub count : ℕ
  pub gone : after ≡ gave before conn count
  pub none : waits_for after conn ≡ []
