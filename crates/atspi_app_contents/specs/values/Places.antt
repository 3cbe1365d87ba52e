-- An index or a place from outside; none below 0.
use Rattle.std.specs.Prelude.{ℕ, ℤ, pos, negsuc, Option, None, Some}

abbrev pub place_of : ℤ → Option ℕ
place_of (pos n) = Some n
place_of (negsuc n) = None
