-- Bytes of ASCII, none of them 0: each is a character.
use Rattle.std.specs.Prelude.{ℕ, nat_lt, Bool, true, false, cond, List, [], ◌∷◌}

abbrev pub is_plain : List ℕ → Bool
is_plain [] = true
is_plain (b ∷ bs) = cond (nat_lt 0 b) (cond (nat_lt b 128) (is_plain bs) false) false
