-- Queues after one of them changed.
use Rattle.std.specs.Prelude.{ℕ, List, is_some, if◌then◌else◌}
use Rattle.std.specs.Ordering.{nat_cmp}
use Rattle.std.specs.FinMap as finmap
use Rattle.std.specs.FinMap.{FinMap}

-- the queues where these bytes wait for a connection now, if it has a queue
abbrev pub with_queue : FinMap nat_cmp (List ℕ) → ℕ → List ℕ → FinMap nat_cmp (List ℕ)
with_queue queues conn bytes = if is_some (finmap.get queues conn) then finmap.insert queues conn bytes else queues
