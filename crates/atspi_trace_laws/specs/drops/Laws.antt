-- Who is dropped.
use Rattle.std.specs.Prelude.{◌≡◌, List}
use Rattle.atspi_script_lines.specs.declared.line.Party.TheVariants.{Bus as The_bus}
use Rattle.atspi_trace.specs.Entry.{Entry, dropped}
use Rattle.atspi_trace_laws.specs.laws.NineLaws.{LawOfDroppedEnds}
use Rattle.atspi_trace_laws.specs.order.Laws.{OfEachTrace}

-- the bus drops an end, and never itself: each connection that it closes is one of an end
abbrev pub IsOfAnEnd : List Entry → Entry → List Entry → Type 0
IsOfAnEnd before (dropped who queued len) behind = who ≡ The_bus → ⊥
IsOfAnEnd before entry behind = Unit {0}

-- THE LAW OF DROPPED ENDS, of each front of a lawful trace
abbrev pub DropsHold : Type 0
DropsHold = OfEachTrace LawOfDroppedEnds
