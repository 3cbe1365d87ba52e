-- Which event is due behind the events before it, and which one fits there.
use Rattle.std.specs.Prelude.{◌≡◌, ◌⊎◌, ℕ, suc, ◌-◌, Bool, true, false, List, [], ◌∷◌, ◌++◌, length, Option, None, Some}
use Rattle.std.specs.Prelude.{if◌then◌else◌}
use Rattle.std.specs.List.{AllByRecursion}
use Rattle.atspi_script_lines.specs.declared.line.Line.{Line}
use Rattle.atspi_script_lines.specs.declared.line.Party.TheVariants.{Reader}
use Rattle.atspi_trace.specs.Entry.{Entry, sent}
use Rattle.atspi_trace.specs.Work.{Refusal}
use Rattle.atspi_trace.specs.Due.{Scene, IsDue, RestsWell, after_all, at_work, begins, due, is_lost, refusal_in}
use Rattle.atspi_audit_due.specs.Readers.{IsFreeCall}

-- what the lines and the events before come to
abbrev pub scene_behind : List Line → List Entry → Scene
scene_behind lines before = after_all (begins lines) before

-- THE DUE EVENT: what must stand next where no call of a reader's own stands there; none where all lines are done,
-- where the next is refused, or where the registry was dropped
abbrev pub due_behind : List Line → List Entry → Option Entry
due_behind lines before = due (scene_behind lines before)

abbrev pub IsFree : Scene → Entry → Type 0
IsFree s (sent (Reader reader) e) = IsFreeCall s reader e
IsFree s entry = ⊥

-- AN EVENT FITS: it is due, and wherever a line ended with nothing waiting, or this event tells that nothing waits,
-- each reader that is here holds each application that is here as it is now; or it is a call of a reader's own that
-- may stand there
abbrev pub FitsIn : Scene → Entry → Type 0
FitsIn s entry = IsDue s entry ⊎ IsFree s entry

abbrev pub Fits : List Line → List Entry → Entry → Type 0
Fits lines before entry = FitsIn (scene_behind lines before) entry

-- each event of a trace fits those before it
abbrev pub EachFits : List Line → List Entry → Type 0
EachFits lines trace = (before : List Entry) (entry : Entry) (behind : List Entry) → trace ≡ before ++ entry ∷ behind
    → Fits lines before entry

-- A TRACE MAY END: no line is left, and wherever one ended with nothing waiting each reader holds each application as
-- it is now; or the registry was dropped
pub record HasEnded (s : Scene) : Type 0 where
  pub no_line_left : s.left ≡ []
  pub all_rest : AllByRecursion RestsWell s.passed

abbrev pub EndsIn : Scene → Type 0
EndsIn s = HasEnded (at_work s) ⊎ (is_lost s.world ≡ true)

abbrev pub MayEnd : List Line → List Entry → Type 0
MayEnd lines trace = EndsIn (scene_behind lines trace)

-- A LAWFUL TRACE OF LINES, or one broken off by a dropped registry, as an auditor finds it
pub record IsLawful (lines : List Line) (trace : List Entry) : Type 0 where
  pub fits : EachFits lines trace
  pub nothing_due : due_behind lines trace ≡ None
  pub may_end : MayEnd lines trace

-- Whether lines may still be looked at: nothing is owed, and the registry is there
abbrev pub is_empty : {A : Type 0} → List A → Bool
is_empty [] = true
is_empty (x ∷ xs) = false

abbrev pub goes_on : Scene → Bool
goes_on s = if is_lost s.world then false else is_empty s.owing

-- THE LINE THAT IS REFUSED behind events, by its number from 1, and why: the next one, once all before it are done
abbrev pub number_of_left : List Line → List Line → ℕ
number_of_left lines left = suc (length lines - length left)

abbrev pub refused_as : ℕ → Option Refusal → Option (ℕ × Refusal)
refused_as number None = None
refused_as number (Some why) = Some (number, why)

abbrev pub refused_in : List Line → Scene → Option (ℕ × Refusal)
refused_in lines s =
    if goes_on s then refused_as (number_of_left lines s.left) (refusal_in s.world s.left) else None

abbrev pub refusal_behind : List Line → List Entry → Option (ℕ × Refusal)
refusal_behind lines before = refused_in lines (at_work (scene_behind lines before))
