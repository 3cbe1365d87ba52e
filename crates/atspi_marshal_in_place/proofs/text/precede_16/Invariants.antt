use Rattle.std.proofs.Common.{◌≡◌}
use Rattle.atspi_marshal_in_place.specs.Paths.{precede}
use Rattle.atspi_marshal_in_place.proofs.text.precede_16.Given as goal

abbrev pub invariant-loop-i : goal.invariant-loop-i
invariant-loop-i l = l.all ≡ precede l.at l.i l.bytes
