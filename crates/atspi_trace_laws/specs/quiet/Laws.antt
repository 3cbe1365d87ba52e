-- What holds where it is told that nothing waits.
use Rattle.atspi_trace_laws.specs.laws.NineLaws.{LawOfQuiet}
use Rattle.atspi_trace_laws.specs.order.Laws.{OfEachTrace}

-- THE LAW OF BUSY AND QUIET, of each front of a lawful trace
abbrev pub QuietIsTrue : Type 0
QuietIsTrue = OfEachTrace LawOfQuiet
