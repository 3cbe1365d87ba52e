use Rattle.std.proofs.Common.{◌≡◌, ◌+◌, drop}
use Rattle.atspi_marshal.specs.Reading.{zeros_in_front}
use Rattle.atspi_marshal_in_place.proofs.plain.zeros_before.Given as goal

abbrev pub invariant-loop-i : goal.invariant-loop-i
invariant-loop-i l = zeros_in_front l.bytes ≡ l.i + zeros_in_front (drop l.i l.bytes)
