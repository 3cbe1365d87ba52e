use Rattle.std.proofs.Common.{◌≡◌, ◌++◌, take}
use Rattle.atspi_match.specs.Printed.{printed}
use Rattle.atspi_match.proofs.printing.write_conditions.Given as goal

abbrev pub invariant-loop-i : goal.invariant-loop-i
invariant-loop-i l = l.out ≡ l.fn.out ++ printed (take l.i l.conditions)
