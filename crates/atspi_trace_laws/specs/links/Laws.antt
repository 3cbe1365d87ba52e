-- What the bus takes of each end.
use Rattle.std.specs.Prelude.{◌≡◌, suc, ◌+◌, true, List, is_some}
use Rattle.atspi_script_lines.specs.declared.line.Party.TheVariants.{Bus as The_bus}
use Rattle.atspi_trace.specs.Entry.{Entry, got}
use Rattle.atspi_trace_laws.specs.laws.Words.{message}
use Rattle.atspi_trace_laws.specs.laws.NineLaws.{Everywhere, sent_before, count_got_by_bus}
use Rattle.atspi_trace_laws.specs.order.Laws.{OfEachTrace}

-- the bus takes a message that its sender sent, and of each sender one behind the other from its first on
abbrev pub IsTakenInOrder : List Entry → Entry → List Entry → Type 0
IsTakenInOrder before (got The_bus who serial) behind =
    (is_some (message before who serial) ≡ true) × (serial ≡ suc (sent_before who + count_got_by_bus before who))
IsTakenInOrder before entry behind = Unit {0}

abbrev pub BusTakesInOrder : Type 0
BusTakesInOrder = OfEachTrace (Everywhere IsTakenInOrder)
