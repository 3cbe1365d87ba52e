-- The registry's drop.
use Rattle.std.specs.Prelude.{◌≡◌, true, List, []}
use Rattle.atspi_script_lines.specs.declared.line.Party.TheVariants.{Registry}
use Rattle.atspi_trace.specs.Entry.{Entry, dropped}
use Rattle.atspi_trace_laws.specs.laws.Words.{is_live}
use Rattle.atspi_trace_laws.specs.laws.NineLaws.{Everywhere}
use Rattle.atspi_trace_laws.specs.order.Laws.{OfEachTrace}

-- behind the news that the registry was dropped stands nothing
abbrev pub IsAllOver : List Entry → Entry → List Entry → Type 0
IsAllOver before (dropped Registry queued len) behind = behind ≡ []
IsAllOver before entry behind = Unit {0}

abbrev pub NothingBehindTheRegistry : Type 0
NothingBehindTheRegistry = OfEachTrace (Everywhere IsAllOver)

-- so the registry lives wherever an entry stands
abbrev pub RegistryLives : List Entry → Entry → List Entry → Type 0
RegistryLives before entry behind = is_live before Registry ≡ true

abbrev pub TheRegistryLives : Type 0
TheRegistryLives = OfEachTrace (Everywhere RegistryLives)
