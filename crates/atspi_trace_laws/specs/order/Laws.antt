-- What holds of lawful traces, each law over every script that a text spells.
use Rattle.std.specs.Prelude.{◌≡◌, List}
use Rattle.atspi_script_lines.specs.declared.line.Line.{Line}
use Rattle.std.specs.List.{AllByRecursion}
use Rattle.atspi_script_lines.specs.declared.line.Party.TheVariants.{Bus as The_bus}
use Rattle.atspi_trace.specs.Entry.{Entry, exited, dropped}
use Rattle.atspi_trace.specs.Due.{Begun}
use Rattle.atspi_trace_laws.specs.laws.NineLaws.{Everywhere, IsNotOf, IsLast}
use Rattle.atspi_trace_laws.specs.order.Scripts.{CanAllStand}

-- it holds of each front of a lawful trace, one that is broken off too
abbrev pub OfEachTrace : (List Entry → Type 0) → Type 0
OfEachTrace Law = (lines : List Line) (trace : List Entry) → CanAllStand lines → Begun lines trace → Law trace

-- behind an end's exit stands no step of it, and it sends and takes nothing
abbrev pub NothingFollowsAnExit : Type 0
NothingFollowsAnExit = OfEachTrace (Everywhere IsLast)

-- and nothing of it behind the news that an end was dropped
abbrev pub IsOut : List Entry → Entry → List Entry → Type 0
IsOut before (exited who) behind = AllByRecursion (IsNotOf who) behind
IsOut before (dropped who queued len) behind = (who ≡ The_bus → ⊥) → AllByRecursion (IsNotOf who) behind
IsOut before entry behind = Unit {0}

abbrev pub NobodyReturns : Type 0
NobodyReturns = OfEachTrace (Everywhere IsOut)
