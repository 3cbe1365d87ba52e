-- The place of a character, from outside.
use Rattle.std.specs.Prelude.{ℕ, ℤ, pos, negsuc, nat_lt, Option, None, Some, if◌then◌else◌}

abbrev pub place_in : ℤ → ℕ → Option ℕ
place_in (pos n) count = if nat_lt n count then Some n else None
place_in (negsuc n) count = None
