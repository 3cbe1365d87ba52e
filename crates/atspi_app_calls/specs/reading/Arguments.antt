-- A value that is a signed number, or another one.
use Rattle.std.specs.Prelude.{◌≡◌, ◌≢◌, ℤ, Option, None, Some}
use Rattle.atspi_types.specs.Kinds.{number, i32}
use Rattle.atspi_types.specs.Data.{Data, type_of}
use Rattle.atspi_protocol.specs.members.Arguments.{int}

-- there is no value, or it is no signed number
abbrev pub IsNoSigned : Option Data → Type 0
IsNoSigned None = Unit {0}
IsNoSigned (Some d) = type_of d ≢ number i32

-- the number of a value
abbrev pub IsSigned : Option ℤ → Option Data → Type 0
IsSigned None value = IsNoSigned value
IsSigned (Some n) value = value ≡ Some (int n)
