-- What ends take.
use Rattle.std.specs.Prelude.{◌≡◌, true, List, is_some}
use Rattle.atspi_script_lines.specs.declared.line.Party.TheVariants.{Bus as The_bus}
use Rattle.atspi_trace.specs.Entry.{Entry, got}
use Rattle.atspi_trace_laws.specs.laws.Words.{message}
use Rattle.atspi_trace_laws.specs.laws.NineLaws.{Everywhere}
use Rattle.atspi_trace_laws.specs.order.Laws.{OfEachTrace}

-- what is taken of an end was sent by it before; of the bus's own messages nothing is said
abbrev pub IsTakenAsSent : List Entry → Entry → List Entry → Type 0
IsTakenAsSent before (got taker The_bus serial) behind = Unit {0}
IsTakenAsSent before (got taker sender serial) behind = is_some (message before sender serial) ≡ true
IsTakenAsSent before entry behind = Unit {0}

abbrev pub WhatIsTakenWasSent : Type 0
WhatIsTakenWasSent = OfEachTrace (Everywhere IsTakenAsSent)
