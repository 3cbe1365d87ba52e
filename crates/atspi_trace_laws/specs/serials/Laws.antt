-- The numbers of messages.
use Rattle.std.specs.Prelude.{List}
use Rattle.atspi_script_lines.specs.declared.line.Party.TheVariants.{Bus as The_bus}
use Rattle.atspi_trace.specs.Entry.{Entry, sent}
use Rattle.atspi_trace_laws.specs.laws.NineLaws.{Everywhere, HasNextSerial}
use Rattle.atspi_trace_laws.specs.order.Laws.{OfEachTrace}

-- each message of an end has its next serial; of the bus's own messages nothing is said
abbrev pub HasNextNumber : List Entry → Entry → List Entry → Type 0
HasNextNumber before (sent The_bus e) behind = Unit {0}
HasNextNumber before entry behind = HasNextSerial before entry behind

abbrev pub NumbersRise : Type 0
NumbersRise = OfEachTrace (Everywhere HasNextNumber)
