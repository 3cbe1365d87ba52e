-- The bytes that are read, the order of the numbers in them, and where what is read has to end.
use Rattle.std.specs.Prelude.{◌≡◌, ◌<◌, ◌≤◌, ℕ, List, length, take, drop, slice_index, ◌+◌, ◌-◌, ◌%◌}
use Rattle.std.specs.Int.{Width, byte_len, from_be_bytes, from_le_bytes, to_be_bytes, to_le_bytes}
use Rattle.atspi_marshal.specs.declared.input.Bound.{Bound}
use Rattle.atspi_marshal.specs.declared.input.Marshalled.{Marshalled}
use Rattle.atspi_types.specs.declared.fault.Order.{Order}
use Rattle.atspi_types.specs.declared.fault.Order.TheVariants.{Little, Big}

-- bytes, and the order of the numbers in them
pub record Input : Type 0 where
  pub order : Order
  pub bytes : List ℕ

-- the bytes of a number, and the number of some bytes, in an order
abbrev pub number_bytes : Order → Width → ℕ → List ℕ
number_bytes Little w n = to_le_bytes w n
number_bytes Big w n = to_be_bytes w n

abbrev pub from_bytes : Order → Width → List ℕ → ℕ
from_bytes Little w bytes = from_le_bytes w bytes
from_bytes Big w bytes = from_be_bytes w bytes

-- what stands at a place: a number, a byte, some bytes
abbrev pub number_in : Input → Width → ℕ → ℕ
number_in i w at = from_bytes i.order w (take (byte_len w) (drop at i.bytes))

abbrev pub byte_in : Input → ℕ → ℕ
byte_in i at = slice_index i.bytes at

abbrev pub slice_in : Input → ℕ → ℕ → List ℕ
slice_in i at n = take n (drop at i.bytes)

-- the bytes s stand at a place, up to next
abbrev pub Stands : Input → ℕ → List ℕ → ℕ → Type 0
Stands i at s next = (next ≡ at + length s) × (slice_in i at (length s) ≡ s)

-- the first place from `at` on that is a multiple of n
abbrev pub aligned : ℕ → ℕ → ℕ
aligned n at = at + (n - at % n) % n

-- The bytes are few enough that the place of a fault, a number of 32 bits, can be told anywhere: with 4294967288 = 2 ^
-- 32 - 8, what stands eight bytes behind a place in them, or as far as padding reaches, is still below 2 ^ 32.
abbrev pub PlacesFit : List ℕ → Type 0
PlacesFit bytes = length bytes < 4294967288

-- an end or a place, at most the end of the bytes, which are so few
abbrev pub ReachTo : Marshalled → ℕ → Type 0
ReachTo m end = (end ≤ length m.bytes.now) × PlacesFit m.bytes.now

-- all of the bytes, and their end
abbrev pub whole : Order → List ℕ → Input
whole order bytes = record { order = order; bytes = bytes }

abbrev pub to_end : List ℕ → Bound
to_end bytes = record { end = length bytes; reason = 19 }
