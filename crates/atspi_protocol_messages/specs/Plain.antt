-- Texts of ASCII without a zero byte, whose characters are their bytes.
use Rattle.std.specs.Prelude.{ℕ, Bool, ◌&&◌, nat_lt, List}
use Rattle.std.specs.List.{list_all}

abbrev pub are_plain : List ℕ → Bool
are_plain bytes = list_all (λ b. nat_lt 0 b && nat_lt b 128) bytes
