-- Words that only the private contracts and proofs beside `Filled` use.
use Rattle.std.specs.Prelude.{◌<◌, ◌≤◌, ◌+◌, ℕ, List, length}
use Rattle.atspi_stream.specs.Stream.{stated}

-- no more than the next message awaits: what its first 16 bytes lack, and once these are there, what it lacks in whole
pub record IsAwaited (given : List ℕ) (count : ℕ) : Type 0 where
  pub front : length given < 16 → length given + count ≤ 16
  pub whole : 16 ≤ length given → 0 < count → length given + count ≤ stated given
