-- What readers call of their own accord.
use Rattle.atspi_trace_laws.specs.laws.NineLaws.{LawOfReaders}
use Rattle.atspi_trace_laws.specs.order.Laws.{OfEachTrace}

-- THE LAW OF READERS, of each front of a lawful trace
abbrev pub ReadersHold : Type 0
ReadersHold = OfEachTrace LawOfReaders
