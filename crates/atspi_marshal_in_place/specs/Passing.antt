-- Reading that keeps nothing: the place behind what is read, or the first fault.
use Rattle.std.specs.Prelude.{◌+◌, ◌-◌, ◌%◌, ◌==◌, ℕ, List, Bool, nat_lt, ◌&&◌, if◌then◌else◌, Result, Ok, Err}
use Rattle.atspi_types.specs.Data.{Data}
use Rattle.std.specs.Int.{byte_len}
use Rattle.atspi_types.specs.Kinds.{Kind, width, number, boolean, text, path, signature, array, structure, variant}
use Rattle.atspi_types.specs.Kinds.{dictionary}
use Rattle.atspi_types.specs.declared.fault.Fault.{Fault}
use Rattle.atspi_marshal.specs.declared.input.Bound.{Bound}
use Rattle.atspi_marshal.specs.Input.{Input}
use Rattle.atspi_marshal.specs.Reading.{◌>>=◌, bad, room_at, read, fields_at}

-- the place behind what is read, whatever it is
abbrev pub after : {X : Type 0} → Result (X × ℕ) Fault → Result ℕ Fault
after (Ok x) = Ok x.1
after (Err f) = Err f

-- elements that are read up to a place
abbrev pub up_to : {X : Type 0} → ℕ → Result X Fault → Result ℕ Fault
up_to p (Ok x) = Ok p
up_to p (Err f) = Err f

-- an item of n bytes that any bytes may be
unfoldable pub fixed_at : Input → ℕ → Bound → ℕ → Result ℕ Fault
fixed_at i n b at = room_at i n n b at >>= λ p. Ok (p + n)

-- values one after the other
abbrev pub read_all : Input → ℕ → List Kind → Bound → ℕ → Result (List Data × ℕ) Fault
read_all i levels ks b at = fields_at (λ k q. read i levels k b q) ks at

-- a byte of a text that is one character and not 0
abbrev pub is_plain : ℕ → Bool
is_plain b = nat_lt 0 b && nat_lt b 128

-- how many bytes a number of the type has, and 0 of what is no number
abbrev pub number_len : Kind → ℕ
number_len (number n) = byte_len (width n)
number_len boolean = 0
number_len text = 0
number_len path = 0
number_len signature = 0
number_len (array k) = 0
number_len (structure ks) = 0
number_len variant = 0
number_len (dictionary k v) = 0

-- numbers of so many bytes that take n bytes up to an end: the last may be cut off
abbrev pub numbers_at : ℕ → ℕ → ℕ → Result ℕ Fault
numbers_at size n end = if n % size == 0 then Ok end else bad (end - n % size) 18
