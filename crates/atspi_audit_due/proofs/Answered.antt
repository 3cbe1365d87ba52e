-- That it is lawful is the verdict of just the texts of lawful traces.
use Rattle.std.proofs.Common.{◌≡◌, ◌⊎◌, ℕ, suc, Bool, true, false, List, [], ◌∷◌, ◌++◌, length, Option, None, Some, refl, sym, ap, ◌∙◌, inl, inr}
use Rattle.std.proofs.lemmas.Bool.{false≢true}
use Rattle.std.proofs.lemmas.List.{append-nil}
use Rattle.std.specs.Prelude.{if◌then◌else◌}
use Rattle.atspi_script_lines.specs.declared.line.Line.{Line}
use Rattle.atspi_script_lines.specs.declared.line.LineFault.{LineFault}
use Rattle.atspi_trace_events.specs.declared.event.Event.{Event}
use Rattle.atspi_trace_texts.specs.EventText.{event_line}
use Rattle.atspi_trace_texts.specs.TraceText.{wire_bytes}
use Rattle.atspi_trace.specs.Entry.{Entry, entries_of}
use Rattle.atspi_trace.specs.Work.{Refusal}
use Rattle.atspi_trace.specs.World.{World}
use Rattle.atspi_trace.specs.Due.{Scene, at_work, is_lost, refusal_in}
use Rattle.atspi_audit_text.proofs.Once.{after_line, told_is}
use Rattle.atspi_audit_due.specs.Fits.{HasEnded, MayEnd, due_behind, goes_on, is_empty, refusal_behind, refused_as, number_of_left, scene_behind}
use Rattle.atspi_audit_due.specs.Laws.{LawfulIsAnswered}
use Rattle.atspi_audit_due.specs.Verdicts.{IsTraceOf, IsVerdict, all_are_done, lawful, number_of_text, refused_first, refused_text, refused_there, told_behind, told_from}
use Rattle.atspi_audit_due.proofs.Fitting.{all_written, at_rest, none_owed}

-- an event's text is not empty
some_text : (l rest : List ℕ) → [] ≡ l ++ 10 ∷ rest → ⊥
some_text [] rest e = cc
some_text (b ∷ l) rest e = cc

nothing_stands : (before : List Event) (event : Event) (more : List ℕ) → [] ≡ told_behind before event ++ more → ⊥
nothing_stands before event more e =
    let bytes = wire_bytes (before ++ event ∷ []) event in
    some_text (event_line event) (after_line event bytes more) (e ∙ told_is event bytes more)

-- where the registry was dropped no line is looked at
if_no : {A : Type 0} (b : Bool) (x y : A) → b ≡ false → (if b then x else y) ≡ y
if_no false x y e = refl
if_no true x y e = absurd (false≢true (sym e))

if_yes : {A : Type 0} (b : Bool) (x y : A) → b ≡ true → (if b then x else y) ≡ x
if_yes true x y e = refl
if_yes false x y e = absurd (false≢true e)

lost_goes : (s : Scene) → is_lost s.world ≡ true → goes_on s ≡ false
lost_goes s lost = if_yes (is_lost s.world) false (is_empty s.owing) lost

here_goes : (s : Scene) → is_lost s.world ≡ false → s.owing ≡ [] → goes_on s ≡ true
here_goes s lost owing = if_no (is_lost s.world) false (is_empty s.owing) lost ∙ ap (λ (es : List Entry). is_empty es) owing

-- no line is refused where none is left
none_left : (b : Bool) (lines : List Line) (w : World) (left : List Line) → left ≡ [] → (if b then refused_as (number_of_left lines left) (refusal_in w left) else None) ≡ None
none_left true lines w [] e = refl
none_left false lines w left e = refl
none_left true lines w (l ∷ left) e = cc

no_refusal : (lines : List Line) (trace : List Entry) → due_behind lines trace ≡ None → MayEnd lines trace → refusal_behind lines trace ≡ None
no_refusal lines trace d (inl k) = let s = at_work (scene_behind lines trace) in none_left (goes_on s) lines s.world s.left k.no_line_left
no_refusal lines trace d (inr lost) =
    let s = scene_behind lines trace in
    let stays : at_work s ≡ s = at_rest s (all_written s s.owing refl d) lost in
    let goes : goes_on (at_work s) ≡ false = ap goes_on stays ∙ lost_goes s lost in
    if_no (goes_on (at_work s)) (refused_as (number_of_left lines (at_work s).left) (refusal_in (at_work s).world (at_work s).left)) None goes

-- and no text
not_done : (lines : List Line) (fault : Option LineFault) → refused_text lines fault false ≡ None
not_done lines None = refl
not_done lines (Some fault) = refl

no_text : (lines : List Line) (fault : Option LineFault) (trace : List Entry) → (fault ≡ None) ⊎ (is_lost (at_work (scene_behind lines trace)).world ≡ true)
    → refused_text lines fault (all_are_done lines trace) ≡ None
no_text lines fault trace (inl none) = ap (λ (f : Option LineFault). refused_text lines f (all_are_done lines trace)) none
no_text lines fault trace (inr lost) =
    let s = at_work (scene_behind lines trace) in
    ap (refused_text lines fault) (if_no (goes_on s) (is_empty s.left) false (lost_goes s lost)) ∙ not_done lines fault

no_fault : (lines : List Line) (fault : Option LineFault) (trace : List Entry) → due_behind lines trace ≡ None → MayEnd lines trace
    → (fault ≡ None) ⊎ (is_lost (at_work (scene_behind lines trace)).world ≡ true) → refused_there lines fault trace ≡ None
no_fault lines fault trace d ends spelled =
    ap (λ r. refused_first r (refused_text lines fault (all_are_done lines trace))) (no_refusal lines trace d ends) ∙ no_text lines fault trace spelled

to_verdict : (texts : List (List ℕ)) (text : List ℕ) (count : ℕ) → IsTraceOf texts text count → IsVerdict texts text (lawful count)
to_verdict texts text count k = record {
  lines = k.lines;
  fault = k.fault;
  script = k.script;
  events = k.events;
  rest = [];
  begins = record { can_be = k.can_be; fits = k.is_lawful.fits; front = k.text_is ∙ sym (append-nil (told_from [] k.events)) };
  stops = λ event more can_be fits front. nothing_stands k.events event more front;
  is_found = (no_fault k.lines k.fault (entries_of k.events) k.is_lawful.nothing_due k.is_lawful.may_end k.spelled, (refl, k.is_lawful.nothing_due, k.is_lawful.may_end), k.counted);
}

-- where all lines are done a text that spells none is refused
some_refused : (r : Option (ℕ × Refusal)) (x : ℕ × ℕ) → refused_first r (Some x) ≡ None → ⊥
some_refused None x e = cc
some_refused (Some y) x e = cc

all_done : (lines : List Line) (trace : List Entry) → due_behind lines trace ≡ None → HasEnded (at_work (scene_behind lines trace)) → is_lost (at_work (scene_behind lines trace)).world ≡ false
    → all_are_done lines trace ≡ true
all_done lines trace d k lost =
    let s = at_work (scene_behind lines trace) in
    if_yes (goes_on s) (is_empty s.left) false (here_goes s lost (none_owed s.owing d)) ∙ ap (λ (ls : List Line). is_empty ls) k.no_line_left

spelled_if : (lost : Bool) (lines : List Line) (fault : Option LineFault) (trace : List Entry) → is_lost (at_work (scene_behind lines trace)).world ≡ lost → refused_there lines fault trace ≡ None
    → due_behind lines trace ≡ None → HasEnded (at_work (scene_behind lines trace)) → (fault ≡ None) ⊎ (is_lost (at_work (scene_behind lines trace)).world ≡ true)
spelled_if true lines fault trace is none d k = inr is
spelled_if false lines None trace is none d k = inl refl
spelled_if false lines (Some fault) trace is none d k =
    let done = all_done lines trace d k is in
    let there : refused_first (refusal_behind lines trace) (refused_text lines (Some fault) true) ≡ None =
    ap (λ b. refused_first (refusal_behind lines trace) (refused_text lines (Some fault) b)) (sym done) ∙ none in
    absurd (some_refused (refusal_behind lines trace) (suc (length lines), number_of_text fault) there)

spelled_of : (lines : List Line) (fault : Option LineFault) (trace : List Entry) → refused_there lines fault trace ≡ None → due_behind lines trace ≡ None → MayEnd lines trace
    → (fault ≡ None) ⊎ (is_lost (at_work (scene_behind lines trace)).world ≡ true)
spelled_of lines fault trace none d (inl k) = spelled_if (is_lost (at_work (scene_behind lines trace)).world) lines fault trace refl none d k
spelled_of lines fault trace none d (inr lost) =
    let s = scene_behind lines trace in
    inr (ap (λ (t : Scene). is_lost t.world) (at_rest s (all_written s s.owing refl d) lost) ∙ lost)

of_verdict : (texts : List (List ℕ)) (text : List ℕ) (count : ℕ) → IsVerdict texts text (lawful count) → IsTraceOf texts text count
of_verdict texts text count k =
    let none = k.is_found.0 in
    let whole = k.is_found.1 in
    record {
      lines = k.lines;
      fault = k.fault;
      script = k.script;
      events = k.events;
      can_be = k.begins.can_be;
      text_is = k.begins.front ∙ ap (λ l. told_from [] k.events ++ l) whole.0 ∙ append-nil (told_from [] k.events);
      is_lawful = record { fits = k.begins.fits; nothing_due = whole.1; may_end = whole.2 };
      spelled = spelled_of k.lines k.fault (entries_of k.events) none whole.1 whole.2;
      counted = k.is_found.2;
    }

pub answered : LawfulIsAnswered
answered texts text count = (of_verdict texts text count, to_verdict texts text count)
