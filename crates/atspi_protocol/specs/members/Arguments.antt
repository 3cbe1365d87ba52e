-- The arguments of a call, by place from 0. Behind the last one, and where another type stands, they are read as empty
-- or 0.
use Rattle.std.specs.Prelude.{ℕ, ℤ, pos, List, [], Option, None, Some, slice_get}
use Rattle.std.specs.Int.{w32, cast_signed, cast_unsigned}
use Rattle.atspi_types.specs.Kinds.{i32, u32}
use Rattle.atspi_types.specs.Data.{Data, number_data, text_data, variant_data}

-- a text's characters
abbrev pub characters_in : Option Data → List ℕ
characters_in (Some (text_data cs)) = cs
characters_in _ = []

abbrev pub text_at : ℕ → List Data → List ℕ
text_at n body = characters_in (slice_get body n)

-- a signed number of 32 bits
abbrev pub signed_in : Option Data → ℤ
signed_in (Some (number_data i32 n)) = cast_signed w32 n
signed_in _ = pos 0

abbrev pub signed_at : ℕ → List Data → ℤ
signed_at n body = signed_in (slice_get body n)

-- one without a sign
abbrev pub unsigned_in : Option Data → ℕ
unsigned_in (Some (number_data u32 n)) = n
unsigned_in _ = 0

abbrev pub unsigned_at : ℕ → List Data → ℕ
unsigned_at n body = unsigned_in (slice_get body n)

-- the value in a variant
abbrev pub value_in : Option Data → Option Data
value_in (Some (variant_data k value)) = Some value
value_in _ = None

abbrev pub value_at : ℕ → List Data → Option Data
value_at n body = value_in (slice_get body n)

-- a signed number as a value
abbrev pub int : ℤ → Data
int z = number_data i32 (cast_unsigned w32 z)
