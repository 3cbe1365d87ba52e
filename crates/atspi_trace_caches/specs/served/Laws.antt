-- Each step was asked for whole, since a reader's registrations come first.
use Rattle.std.specs.Prelude.{ℕ, true, List, [], ◌≡◌, Some}
use Rattle.std.specs.List.{AllByRecursion}
use Rattle.atspi_script_lines.specs.declared.line.Line.{Line}
use Rattle.atspi_script_lines.specs.declared.line.Party.TheVariants.{App, Reader}
use Rattle.atspi_protocol.specs.declared.following.question.Question.TheVariants.{GetItems}
use Rattle.atspi_protocol.specs.exporting.Hearing.{is_heard}
use Rattle.atspi_protocol.specs.following.ReaderState.{start_calls}
use Rattle.atspi_trace.specs.Entry.{Entry, got}
use Rattle.atspi_trace.specs.Hearing.{patterns_in}
use Rattle.atspi_trace.specs.Due.{begins, after_all, Begun}
use Rattle.atspi_trace_laws.specs.laws.Words.{heard_pairs, name_in, own_call, Kept, held}
use Rattle.atspi_trace_laws.specs.laws.NineLaws.{Everywhere}
use Rattle.atspi_trace_laws.specs.order.Scripts.{CanAllStand}
use Rattle.atspi_trace_laws.specs.order.Laws.{OfEachTrace}
use Rattle.atspi_trace_caches.specs.caches.Laws.{IsServed}
use Rattle.atspi_trace_caches.specs.ways.Laws.{AreHere, AreAskedSince}

-- an application has heard of the five patterns of a reader's start, under the name that the bus gave the reader
pub record HasHeardOf (trace : List Entry) (reader app : ℕ) : Type 0 where
  pub name : List ℕ
  pub is_its : name_in trace (Reader reader) ≡ Some name
  pub heard
      : AllByRecursion (λ pattern. is_heard (heard_pairs trace app) (name, pattern) ≡ true) (patterns_in start_calls)

-- A READER'S REGISTRATIONS COME FIRST: where an application takes a reader's own call for all its items, it has heard
-- of them. The reader may have left by then.
abbrev pub IsHeardOfFirst : List Entry → Entry → List Entry → Type 0
IsHeardOfFirst before (got (App a) (Reader r) serial) behind = (name : List ℕ)
    → own_call before r serial ≡ Some (GetItems name) → HasHeardOf before r a
IsHeardOfFirst before entry behind = Unit {0}

abbrev pub RegistrationsComeFirst : Type 0
RegistrationsComeFirst = OfEachTrace (Everywhere IsHeardOfFirst)

-- EACH STEP THAT A READER IS TO KNOW OF WAS ASKED FOR WHOLE: each that stands between two messages that it took of the
-- application since it loaded it, whatever the names
abbrev pub StepsAreAskedFor : Type 0
StepsAreAskedFor =
    OfEachTrace (λ (trace : List Entry). (name : List ℕ) (reader app : ℕ) → IsServed trace name reader app)

-- and up to now, where both ends and the registry are here, each since the last message that it took
abbrev pub StepsAreAskedSince : Type 0
StepsAreAskedSince =
    (lines : List Line) (trace : List Entry) → CanAllStand lines → Begun lines trace
    → (after_all (begins lines) trace).owing ≡ []
    → (name : List ℕ) (reader app : ℕ) → AreHere trace reader app → (k : Kept) → held trace reader app ≡ Some k
    → AreAskedSince name trace app k.last
