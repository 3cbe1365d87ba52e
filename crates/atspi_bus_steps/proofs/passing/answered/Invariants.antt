use Rattle.atspi_bus_steps.proofs.Calls.{IsPast}
use Rattle.atspi_bus_steps.proofs.passing.answered.Given as goal

abbrev pub invariant-loop-i : goal.invariant-loop-i
invariant-loop-i l = IsPast l.caller l.serial l.callee l.calls l.i
