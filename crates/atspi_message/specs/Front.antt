-- The first 16 bytes of a message: what they state, and what is wrong with them (D-Bus Specification, "Message
-- Format").
use Rattle.std.specs.Prelude.{◌≡◌, ◌≢◌, ◌<◌, ◌≤◌, ◌+◌, ◌==◌, ◌&&◌, not, nat_lt, ℕ, List, Result, Ok, Err, if◌then◌else◌}
use Rattle.std.specs.Int.{w32}
use Rattle.atspi_types.specs.declared.fault.Fault.{Fault}
use Rattle.atspi_types.specs.declared.fault.Order.{Order}
use Rattle.atspi_types.specs.declared.fault.Order.TheVariants.{Little, Big}
use Rattle.atspi_marshal.specs.Input.{Input, whole, number_in, byte_in, aligned}
use Rattle.atspi_types.specs.SignatureFaults.{Before}

-- the bytes with the order that the first of them tells
abbrev pub order_by : ℕ → Order
order_by b = if b == 66 then Big else Little

abbrev pub order_in : List ℕ → Order
order_in bytes = order_by (byte_in (whole Little bytes) 0)

abbrev pub input_in : List ℕ → Input
input_in bytes = whole (order_in bytes) bytes

-- the type, the version, the length of the body, the serial, and the length of the fields
abbrev pub type_in : List ℕ → ℕ
type_in bytes = byte_in (input_in bytes) 1

abbrev pub version_in : List ℕ → ℕ
version_in bytes = byte_in (input_in bytes) 3

abbrev pub body_length_in : List ℕ → ℕ
body_length_in bytes = number_in (input_in bytes) w32 4

abbrev pub serial_in : List ℕ → ℕ
serial_in bytes = number_in (input_in bytes) w32 8

abbrev pub fields_length_in : List ℕ → ℕ
fields_length_in bytes = number_in (input_in bytes) w32 12

-- where the fields end, where the body begins, and the length of the whole message
abbrev pub fields_end_in : List ℕ → ℕ
fields_end_in bytes = 16 + fields_length_in bytes

abbrev pub body_place_in : List ℕ → ℕ
body_place_in bytes = aligned 8 (fields_end_in bytes)

abbrev pub length_in : List ℕ → ℕ
length_in bytes = body_place_in bytes + body_length_in bytes

-- what is wrong with the first 16 bytes: the order, the type, the version, the whole length, the serial, the length of
-- the fields
pub data WrongFront (bytes : List ℕ) : ℕ → ℕ → Type 0 where
  no_order : byte_in (input_in bytes) 0 ≢ 108 → byte_in (input_in bytes) 0 ≢ 66 → WrongFront bytes 0 22
  no_type : type_in bytes ≡ 0 → WrongFront bytes 1 23
  no_version : version_in bytes ≢ 1 → WrongFront bytes 3 24
  too_long : 134217728 < length_in bytes → WrongFront bytes 4 25
  no_serial : serial_in bytes ≡ 0 → WrongFront bytes 8 26
  fields_too_long : 67108864 < fields_length_in bytes → WrongFront bytes 12 27

-- of some faults, each a place and a reason, the first: the least by place, and then by number
pub record IsFirst (faulty : ℕ → ℕ → Type 0) (place reason : ℕ) : Type 0 where
  pub there : faulty place reason
  pub first : (q s : ℕ) → faulty q s → Before place reason q s

-- nothing is wrong with the first 16 bytes
pub record IsSoundFront (bytes : List ℕ) : Type 0 where
  pub ordered : (byte_in (input_in bytes) 0 ≢ 108) → byte_in (input_in bytes) 0 ≡ 66
  pub typed : type_in bytes ≢ 0
  pub version : version_in bytes ≡ 1
  pub short : length_in bytes ≤ 134217728
  pub numbered : serial_in bytes ≢ 0
  pub fields : fields_length_in bytes ≤ 67108864

-- the length of the whole message, or the first fault
unfoldable pub front_in : List ℕ → Result ℕ Fault
front_in bytes =
    if not (byte_in (input_in bytes) 0 == 108) && not (byte_in (input_in bytes) 0 == 66)
    then Err (record { place = 0; reason = 22 })
    else if type_in bytes == 0 then Err (record { place = 1; reason = 23 })
    else if not (version_in bytes == 1) then Err (record { place = 3; reason = 24 })
    else if nat_lt 134217728 (length_in bytes) then Err (record { place = 4; reason = 25 })
    else if serial_in bytes == 0 then Err (record { place = 8; reason = 26 })
    else if nat_lt 67108864 (fields_length_in bytes) then Err (record { place = 12; reason = 27 })
    else Ok (length_in bytes)
