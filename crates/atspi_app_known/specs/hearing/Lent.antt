-- Pairs that lie in a message, if they are there, as contracts see them.
use Rattle.std.specs.Prelude.{ℕ, List, Option, None, Some, Vec, map, chars}
use Rattle.std.specs.declared.alloc.Global.{Global}
use Rattle.atspi_app_known.specs.declared.hearing.pair_ref.PairRef.{PairRef}

-- a pair that is lent, by the name's bytes and the pattern's characters
abbrev pub lent_pair : PairRef → List ℕ × List ℕ
lent_pair r = (r.name.now, chars r.pattern.now)

abbrev pub lent_pairs : List PairRef → List (List ℕ × List ℕ)
lent_pairs rs = map lent_pair rs

abbrev pub all_lent : Option (Vec PairRef Global) → Option (List (List ℕ × List ℕ))
all_lent None = None
all_lent (Some rs) = Some (lent_pairs rs.items)
