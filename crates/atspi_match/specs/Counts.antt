-- How many rules each connection has, as it is kept beside the list of the rules.
use Rattle.std.specs.Prelude.{◌≡◌, ℕ, Option, None, Some, if◌then◌else◌}
use Rattle.std.specs.Ordering.{nat_cmp}
use Rattle.std.specs.BTreeMap as tree
use Rattle.std.specs.BTreeMap.{BTreeMap, is_at}

abbrev pub or_zero : Option ℕ → ℕ
or_zero None = 0
or_zero (Some n) = n

abbrev pub count_in : BTreeMap ℕ ℕ → ℕ → ℕ
count_in counts conn = or_zero (tree.get nat_cmp counts conn)

-- one connection has so many now, and the others as many as before
abbrev pub SetsCount : BTreeMap ℕ ℕ → BTreeMap ℕ ℕ → ℕ → ℕ → Type 0
SetsCount old new conn n = (c : ℕ) → count_in new c ≡ (if is_at (nat_cmp conn) c then n else count_in old c)

abbrev pub SameCounts : BTreeMap ℕ ℕ → BTreeMap ℕ ℕ → Type 0
SameCounts old new = (c : ℕ) → count_in new c ≡ count_in old c
