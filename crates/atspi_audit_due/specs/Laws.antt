-- What holds of events that fit.
use Rattle.std.specs.Prelude.{◌≡◌, ◌↔◌, ◌⊎◌, ℕ, true, List, [], ◌∷◌}
use Rattle.atspi_script_lines.specs.declared.line.Line.{Line}
use Rattle.atspi_script_lines.specs.declared.line.Party.TheVariants.{Reader}
use Rattle.atspi_protocol.specs.declared.following.question.Question.{Question}
use Rattle.atspi_trace.specs.Entry.{Entry, sent}
use Rattle.atspi_trace.specs.World.{Hearer}
use Rattle.atspi_trace.specs.Hearing.{may_ask}
use Rattle.atspi_trace.specs.Due.{Begun, IsThrough, Lawful, Scene, Stands, begins, happens, is_lost}
use Rattle.atspi_audit_due.specs.Readers.{IsFreeCall, may_call}
use Rattle.atspi_audit_due.specs.Fits.{EachFits, Fits, FitsIn, IsFree, IsLawful, scene_behind}
use Rattle.atspi_audit_due.specs.Verdicts.{Finding, lawful, IsTraceOf, IsVerdict}

-- what a reader of this project may ask, any reader may
abbrev pub AllowsMore : Type 0
AllowsMore = (h : Hearer) (question : Question) → may_ask h question ≡ true → may_call h question ≡ true

-- so what may stand in a lawful trace of this project fits
abbrev pub WhatStandsFits : Type 0
WhatStandsFits = (s : Scene) (entry : Entry) → Stands s entry → FitsIn s entry

-- ALL BUT THE READERS' OWN CALLS IS FIXED by the lines and the events before: of two events that fit there, and are no
-- such calls, one is the other
abbrev pub AllElseIsFixed : Type 0
AllElseIsFixed = (lines : List Line) (before : List Entry) (a b : Entry) → Fits lines before a → Fits lines before b
    → (IsFree (scene_behind lines before) a → ⊥) → (IsFree (scene_behind lines before) b → ⊥) → a ≡ b

-- one event behind the other may stand, each in what the lines and those before it come to
abbrev pub GoesFreely : Scene → List Entry → Type 0
GoesFreely s [] = Unit {0}
GoesFreely s (entry ∷ entries) = FitsIn s entry × GoesFreely (happens s entry) entries

-- that is: each fits those before it
abbrev pub GoesWhereEachFits : Type 0
GoesWhereEachFits = (lines : List Line) (trace : List Entry) → GoesFreely (begins lines) trace ↔ EachFits lines trace

-- A LAWFUL TRACE OF LINES, with the law of readers as it is: as `Lawful`, which asks more of readers' own calls
pub record LawfulFreely (lines : List Line) (trace : List Entry) : Type 0 where
  pub goes : GoesFreely (begins lines) trace
  pub through : IsThrough (scene_behind lines trace)

-- one that is broken off where the registry was dropped, with all written that was owed there
pub record BrokenOff (lines : List Line) (trace : List Entry) : Type 0 where
  pub goes : GoesFreely (begins lines) trace
  pub nothing_owed : (scene_behind lines trace).owing ≡ []
  pub lost : is_lost (scene_behind lines trace).world ≡ true

-- a trace is lawful, or broken off by a dropped registry, exactly where each event fits those before it, nothing is due
-- at the end, and it may end there
abbrev pub LawfulIsFitting : Type 0
LawfulIsFitting = (lines : List Line) (trace : List Entry)
    → (LawfulFreely lines trace ⊎ BrokenOff lines trace) ↔ IsLawful lines trace

-- what this project finds lawful an auditor does
abbrev pub LawfulIsFound : Type 0
LawfulIsFound = (lines : List Line) (trace : List Entry) → Lawful lines trace → IsLawful lines trace

-- and what is the front of one, broken off where the registry was dropped
abbrev pub BrokenIsFound : Type 0
BrokenIsFound = (lines : List Line) (trace : List Entry) → Begun lines trace → (scene_behind lines trace).owing ≡ []
    → is_lost (scene_behind lines trace).world ≡ true → IsLawful lines trace

-- and nothing else, where each call of a reader's own is one that a reader of this project may send
abbrev pub AsksAsHere : Scene → Entry → Type 0
AsksAsHere s (sent (Reader reader) e) = (k : IsFreeCall s reader e) → may_ask k.hearer k.question ≡ true
AsksAsHere s entry = Unit {0}

abbrev pub AllAskAsHere : Scene → List Entry → Type 0
AllAskAsHere s [] = Unit {0}
AllAskAsHere s (entry ∷ entries) = AsksAsHere s entry × AllAskAsHere (happens s entry) entries

abbrev pub DiffersInCallsAlone : Type 0
DiffersInCallsAlone = (lines : List Line) (trace : List Entry) → LawfulFreely lines trace
    → AllAskAsHere (begins lines) trace → Lawful lines trace

-- a text has one verdict at most, whoever gives it
abbrev pub VerdictsAreOne : Type 0
VerdictsAreOne = (texts : List (List ℕ)) (text : List ℕ) (f g : Finding) → IsVerdict texts text f
    → IsVerdict texts text g → f ≡ g

-- and that it is lawful is the verdict of just the texts of such traces
abbrev pub LawfulIsAnswered : Type 0
LawfulIsAnswered = (texts : List (List ℕ)) (text : List ℕ) (count : ℕ)
    → IsVerdict texts text (lawful count) ↔ IsTraceOf texts text count
