-- Where a part of a text begins and ends, by places from outside, which count characters.
use Rattle.std.specs.Prelude.{ℕ, ℤ, pos, negsuc, nat_le, if◌then◌else◌}

-- one below 0 is the beginning
abbrev pub start_at : ℤ → ℕ
start_at (pos n) = n
start_at (negsuc n) = 0

-- one below 0 is the end, and so is one behind it
abbrev pub end_at : ℤ → ℕ → ℕ
end_at (pos n) count = if nat_le n count then n else count
end_at (negsuc n) count = count
