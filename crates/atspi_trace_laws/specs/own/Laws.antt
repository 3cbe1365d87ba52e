-- The serials of the bus's own messages.
use Rattle.std.specs.Prelude.{◌≡◌, suc, ◌+◌, true, List, length}
use Rattle.atspi_script_lines.specs.declared.line.Party.TheVariants.{Bus as The_bus, Registry}
use Rattle.atspi_trace.specs.Entry.{Entry, sent}
use Rattle.atspi_trace_laws.specs.laws.Words.{messages, is_live}
use Rattle.atspi_trace_laws.specs.laws.NineLaws.{Everywhere, sent_before}
use Rattle.atspi_trace_laws.specs.order.Laws.{OfEachTrace}

-- as long as the registry lives, each message of the bus's own has the serial behind that of the one before; behind the
-- registry's drop nothing is said
abbrev pub HasNextOwn : List Entry → Entry → List Entry → Type 0
HasNextOwn before (sent The_bus e) behind = is_live before Registry ≡ true
    → e.serial ≡ suc (sent_before The_bus + length (messages before The_bus))
HasNextOwn before entry behind = Unit {0}

abbrev pub OwnNumbersRise : Type 0
OwnNumbersRise = OfEachTrace (Everywhere HasNextOwn)
