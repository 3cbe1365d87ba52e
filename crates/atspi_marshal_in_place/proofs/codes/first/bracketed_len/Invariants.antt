use Rattle.std.proofs.Common.{◌≡◌, ◌≤◌, ◌+◌, drop}
use Rattle.atspi_marshal_in_place.specs.codes.Codes.{first_end}
use Rattle.atspi_marshal_in_place.proofs.codes.first.bracketed_len.Given as goal

abbrev pub invariant-loop-i : goal.invariant-loop-i
invariant-loop-i l = (l.open ≤ l.i) × (l.i + first_end l.open (drop l.i l.codes) ≡ first_end 0 l.codes)
