-- THE VERDICT on the text of a trace, by the texts of a script's lines: which one an auditor has to give.
use Rattle.std.specs.Prelude.{◌≡◌, ◌⊎◌, ℕ, suc, Bool, true, false, List, [], ◌∷◌, ◌++◌, length, Option, None, Some, Err}
use Rattle.std.specs.Prelude.{if◌then◌else◌}
use Rattle.std.specs.List.{AllByRecursion}
use Rattle.atspi_tree_model.specs.declared.edit.EditFault.{EditFault}
use Rattle.atspi_tree_model.specs.declared.edit.EditFault.TheVariants.{NoNode, IsRoot, NoFace, BadIndex, BadOffset}
use Rattle.atspi_tree_model.specs.declared.edit.EditFault.TheVariants.{Cycle, Full, TextFull}
use Rattle.atspi_script_lines.specs.declared.line.Line.{Line}
use Rattle.atspi_script_lines.specs.declared.line.LineFault.{LineFault}
use Rattle.atspi_script_lines.specs.declared.line.LineFault.TheVariants.{Long, NotUtf8, Form, NoMemory}
use Rattle.atspi_script_lines.specs.Line.{ReadsLine, Spells}
use Rattle.atspi_trace_events.specs.declared.event.Event.{Event}
use Rattle.atspi_trace_texts.specs.InTrace.{IsEvent}
use Rattle.atspi_trace_texts.specs.TraceText.{wire_bytes}
use Rattle.atspi_trace.specs.Entry.{Entry, entries_of, entry_of}
use Rattle.atspi_trace.specs.Work.{Refusal, no_party, dead, no_kit, no_reader, no_spare, late, not_held, of_edit}
use Rattle.atspi_trace.specs.Due.{at_work, is_lost}
use Rattle.atspi_audit_text.specs.Told.{told_text}
use Rattle.atspi_audit_due.specs.Fits.{EachFits, Fits, IsLawful, MayEnd, due_behind, goes_on, is_empty}
use Rattle.atspi_audit_due.specs.Fits.{refusal_behind, scene_behind}

-- THE SCRIPT: texts spell these lines one by one, and the next one none, for this fault; behind that no text is looked
-- at
abbrev pub IsNoLine : LineFault → List ℕ → Type 0
IsNoLine NoMemory bytes = ⊥
IsNoLine fault bytes = ReadsLine (Err fault) bytes

abbrev pub AreLines : List (List ℕ) → List Line → Option LineFault → Type 0
AreLines [] [] None = Unit {0}
AreLines (bytes ∷ texts) (line ∷ lines) fault = Spells line bytes × AreLines texts lines fault
AreLines (bytes ∷ texts) [] (Some fault) = IsNoLine fault bytes
AreLines texts lines fault = ⊥

-- THE TRACE: an event is told with the bytes that its message had, by the events up to it; events one behind the other
abbrev pub told_behind : List Event → Event → List ℕ
told_behind before event = told_text event (wire_bytes (before ++ event ∷ []) event)

abbrev pub told_from : List Event → List Event → List ℕ
told_from before [] = []
told_from before (event ∷ events) = told_behind before event ++ told_from (before ++ event ∷ []) events

-- the text begins with these events, each of which fits those before it; this follows
pub record BeginsWith (lines : List Line) (text : List ℕ) (events : List Event) (rest : List ℕ) : Type 0 where
  pub can_be : AllByRecursion IsEvent events
  pub fits : EachFits lines (entries_of events)
  pub front : text ≡ told_from [] events ++ rest

-- and no event that fits stands next
abbrev pub Stops : List Line → List Event → List ℕ → Type 0
Stops lines events rest = (event : Event) (more : List ℕ) → IsEvent event
    → Fits lines (entries_of events) (entry_of event) → rest ≡ told_behind events event ++ more → ⊥

-- A LINE IS REFUSED there, by its number and that of the reason: one that the events before refuse, or the first text
-- that spells none, once all lines before it are done
abbrev pub number_of_fault : EditFault → ℕ
number_of_fault NoNode = 11
number_of_fault IsRoot = 12
number_of_fault NoFace = 13
number_of_fault BadIndex = 14
number_of_fault BadOffset = 15
number_of_fault Cycle = 16
number_of_fault Full = 17
number_of_fault TextFull = 18

abbrev pub number_of_reason : Refusal → ℕ
number_of_reason no_party = 4
number_of_reason dead = 5
number_of_reason no_kit = 6
number_of_reason no_reader = 7
number_of_reason no_spare = 8
number_of_reason late = 9
number_of_reason not_held = 10
number_of_reason (of_edit fault) = number_of_fault fault

abbrev pub number_of_text : LineFault → ℕ
number_of_text Long = 1
number_of_text NotUtf8 = 2
number_of_text Form = 3
number_of_text NoMemory = 0

-- all lines are done, and the registry is there
abbrev pub all_are_done : List Line → List Entry → Bool
all_are_done lines trace = let s = at_work (scene_behind lines trace) in if goes_on s then is_empty s.left else false

abbrev pub refused_text : List Line → Option LineFault → Bool → Option (ℕ × ℕ)
refused_text lines None done = None
refused_text lines (Some fault) true = Some (suc (length lines), number_of_text fault)
refused_text lines (Some fault) false = None

abbrev pub refused_first : Option (ℕ × Refusal) → Option (ℕ × ℕ) → Option (ℕ × ℕ)
refused_first (Some refused) behind = Some (refused.0, number_of_reason refused.1)
refused_first None behind = behind

abbrev pub refused_there : List Line → Option LineFault → List Entry → Option (ℕ × ℕ)
refused_there lines fault trace =
    refused_first (refusal_behind lines trace) (refused_text lines fault (all_are_done lines trace))

-- WHAT IS FOUND behind the longest front of events that fit
pub data Finding : Type 0 where
  -- a lawful trace of so many events
  lawful : ℕ → Finding
  -- the event with this number does not fit, or none stands there while one is due or the trace may not end; due is
  -- this
  unlawful : ℕ → Option Entry → Finding
  -- the line with this number is refused for this reason
  refused : ℕ → ℕ → Finding

-- the text ends there: nothing follows, nothing is due, and the trace may end
abbrev pub IsWhole : List Line → List Entry → List ℕ → Type 0
IsWhole lines trace rest = (rest ≡ []) × (due_behind lines trace ≡ None) × MayEnd lines trace

abbrev pub IsFound : List Line → Option LineFault → List Event → List ℕ → Finding → Type 0
IsFound lines fault events rest (refused number reason) =
    refused_there lines fault (entries_of events) ≡ Some (number, reason)
IsFound lines fault events rest (lawful count) = (refused_there lines fault (entries_of events) ≡ None)
    × IsWhole lines (entries_of events) rest × (count ≡ length events)
IsFound lines fault events rest (unlawful number due) = (refused_there lines fault (entries_of events) ≡ None)
    × (IsWhole lines (entries_of events) rest → ⊥) × (number ≡ suc (length events))
    × (due ≡ due_behind lines (entries_of events))

pub record IsVerdict (texts : List (List ℕ)) (text : List ℕ) (found : Finding) : Type 0 where
  pub lines : List Line
  pub fault : Option LineFault
  pub script : AreLines texts lines fault
  pub events : List Event
  pub rest : List ℕ
  pub begins : BeginsWith lines text events rest
  pub stops : Stops lines events rest
  pub is_found : IsFound lines fault events rest found

-- THE TEXT OF A LAWFUL TRACE of so many events, or of one broken off by a dropped registry; all texts spell lines, but
-- where the registry was dropped
pub record IsTraceOf (texts : List (List ℕ)) (text : List ℕ) (count : ℕ) : Type 0 where
  pub lines : List Line
  pub fault : Option LineFault
  pub script : AreLines texts lines fault
  pub events : List Event
  pub can_be : AllByRecursion IsEvent events
  pub text_is : text ≡ told_from [] events
  pub is_lawful : IsLawful lines (entries_of events)
  pub spelled : (fault ≡ None) ⊎ (is_lost (at_work (scene_behind lines (entries_of events))).world ≡ true)
  pub counted : count ≡ length events
