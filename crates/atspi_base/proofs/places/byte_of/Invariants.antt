use Rattle.std.specs.Str.Iter.{chars_rest}
use Rattle.atspi_base.proofs.PlaceLemmas.{Walked}
use Rattle.atspi_base.proofs.places.byte_of.Given as goal

abbrev pub invariant-loop-i : goal.invariant-loop-i
invariant-loop-i l = Walked l.text l._i (chars_rest l.rest)
