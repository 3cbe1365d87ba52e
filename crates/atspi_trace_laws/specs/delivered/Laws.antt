-- The law of bus and links.
use Rattle.std.specs.Prelude.{◌≡◌, true, List, is_some}
use Rattle.atspi_script_lines.specs.declared.line.Party.TheVariants.{Bus as The_bus, Registry}
use Rattle.atspi_trace.specs.Entry.{Entry, got}
use Rattle.atspi_trace_laws.specs.laws.Words.{message, is_live}
use Rattle.atspi_trace_laws.specs.laws.NineLaws.{Everywhere, HasNextSerial, LawOfLinks}
use Rattle.atspi_trace_laws.specs.order.Laws.{OfEachTrace}

-- what is taken of the bus was sent by it before, as long as the registry lives
abbrev pub IsOfTheBus : List Entry → Entry → List Entry → Type 0
IsOfTheBus before (got taker The_bus serial) behind = is_live before Registry ≡ true
    → is_some (message before The_bus serial) ≡ true
IsOfTheBus before entry behind = Unit {0}

-- THE LAW OF BUS AND LINKS, and that each message, the bus's own too, has its sender's next serial
abbrev pub LinksHold : Type 0
LinksHold = OfEachTrace LawOfLinks

abbrev pub SerialsRise : Type 0
SerialsRise = OfEachTrace (Everywhere HasNextSerial)
