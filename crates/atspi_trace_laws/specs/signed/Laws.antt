-- Under which name applications sign.
use Rattle.std.specs.Prelude.{◌≡◌, ℕ, List, Some}
use Rattle.atspi_script_lines.specs.declared.line.Party.TheVariants.{App}
use Rattle.atspi_trace.specs.Entry.{Entry, changed, sent}
use Rattle.atspi_trace_laws.specs.laws.Words.{name_in}
use Rattle.atspi_trace_laws.specs.laws.NineLaws.{Everywhere, Follow, LawOfApplications}
use Rattle.atspi_trace_laws.specs.heard.Laws.{OfEachDone, signals_under, IsAmong}

-- an application's own name: the unique name that the bus gave it; any, where it gave none yet
abbrev pub IsItsName : List Entry → ℕ → List ℕ → Type 0
IsItsName before app name = (own : List ℕ) → name_in before (App app) ≡ Some own → own ≡ name

-- the signals of each step stand behind it under its own name, and no other signal of an application stands anywhere
abbrev pub IsSignedTruly : List Entry → Entry → List Entry → Type 0
IsSignedTruly before (changed app step) behind = (name : List ℕ) → IsItsName before app name
    → Follow (signals_under name before app step) behind
IsSignedTruly before (sent (App app) e) behind = e.kind ≡ 4 → (name : List ℕ) → IsItsName before app name
    → (among : IsAmong before app e) × (among.name ≡ name)
IsSignedTruly before entry behind = Unit {0}

abbrev pub SignalsAreSigned : Type 0
SignalsAreSigned = OfEachDone (Everywhere IsSignedTruly)

-- THE LAW OF APPLICATIONS, whole
abbrev pub ApplicationsHold : Type 0
ApplicationsHold = OfEachDone LawOfApplications
