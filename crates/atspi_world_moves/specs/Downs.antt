-- What waits for an end: the bytes of the messages on its down link, less those that were moved.
use Rattle.std.specs.Prelude.{◌≡◌, ◌<◌, ℕ, List, ◌∷◌, ◌++◌, length, drop, Some, []}
use Rattle.std.specs.FinMap.{FinMap}
use Rattle.std.specs.Ordering.{nat_cmp}
use Rattle.atspi_message.specs.Bytes.{written}
use Rattle.atspi_match.specs.routing.Queues.{queue_of}
use Rattle.atspi_trace.specs.World.{Letter, End}
use Rattle.atspi_trace.specs.Ends.{end_at}

abbrev pub bytes_down : List Letter → List ℕ
bytes_down [] = []
bytes_down (letter ∷ letters) = written letter.said.message ++ bytes_down letters

-- the mark of a down link stands within its first message
abbrev pub IsBegun : ℕ → List Letter → Type 0
IsBegun moved [] = moved ≡ 0
IsBegun moved (letter ∷ letters) = moved < length (written letter.said.message)

pub record IsWaiting (queues : FinMap nat_cmp (List ℕ)) (conn : ℕ) (e : End) : Type 0 where
  pub begun : IsBegun e.down_moved e.down
  pub bytes : queue_of queues conn ≡ drop e.down_moved (bytes_down e.down)

-- so it is of each end, by its connection
abbrev pub Wait : FinMap nat_cmp (List ℕ) → List End → Type 0
Wait queues ends = (conn : ℕ) (e : End) → end_at ends conn ≡ Some e → IsWaiting queues conn e
