-- Who has joined.
use Rattle.std.specs.Prelude.{ℕ, Bool, List}
use Rattle.std.specs.List.{list_any}
use Rattle.std.specs.Ordering.{nat_cmp, eq_by_cmp}

abbrev pub has_joined : List ℕ → ℕ → Bool
has_joined joined conn = list_any (eq_by_cmp nat_cmp conn) joined
