use Rattle.atspi_marshal_in_place.proofs.OfCodes.Checking.{StandsAt}
use Rattle.atspi_marshal_in_place.proofs.codes.parsing.walk.Given as goal

abbrev pub invariant-loop-i : goal.invariant-loop-i
invariant-loop-i l = StandsAt l.open l.i l.bytes
