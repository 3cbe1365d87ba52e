-- In which order ends take.
use Rattle.std.specs.Prelude.{◌≡◌, ◌<◌, ℕ, List}
use Rattle.std.specs.List.{AllByRecursion}
use Rattle.atspi_script_lines.specs.declared.line.Party.{Party}
use Rattle.atspi_script_lines.specs.declared.line.Party.TheVariants.{Bus as The_bus}
use Rattle.atspi_trace.specs.Entry.{Entry, got}
use Rattle.atspi_trace_laws.specs.laws.NineLaws.{Everywhere}
use Rattle.atspi_trace_laws.specs.order.Laws.{OfEachTrace}

-- what was taken of the same sender by the same end has a lower serial
abbrev pub IsEarlier : Party → Party → ℕ → Entry → Type 0
IsEarlier taker sender serial (got other from s) = other ≡ taker → from ≡ sender → s < serial
IsEarlier taker sender serial entry = Unit {0}

-- An end takes the messages of each other end in the order in which they were sent, each at most once. Of what the bus
-- takes and of the bus's own messages nothing is said here.
abbrev pub IsTakenInTurn : List Entry → Entry → List Entry → Type 0
IsTakenInTurn before (got The_bus sender serial) behind = Unit {0}
IsTakenInTurn before (got taker The_bus serial) behind = Unit {0}
IsTakenInTurn before (got taker sender serial) behind = AllByRecursion (IsEarlier taker sender serial) before
IsTakenInTurn before entry behind = Unit {0}

abbrev pub EndsTakeInTurn : Type 0
EndsTakeInTurn = OfEachTrace (Everywhere IsTakenInTurn)
