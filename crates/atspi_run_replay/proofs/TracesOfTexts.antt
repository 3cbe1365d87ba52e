-- A text with bytes tells one trace at most, and it is the text of the trace that it tells.
use Rattle.std.proofs.Common.{◌≡◌, ℕ, Bool, true, false, cond, List, [], ◌∷◌, ◌++◌, length, Option, None, Some, refl, sym, ap, ap₂, ◌∙◌, arith, length-append}
use Rattle.std.specs.List.{filter, flat_map}
use Rattle.std.proofs.lemmas.List.{append_cancel_left}
use Rattle.atspi_trace_events.specs.declared.event.Event.{Event}
use Rattle.atspi_trace_texts.specs.declared.options.TraceOptions.{TraceOptions}
use Rattle.atspi_trace_texts.specs.EventText.{ended, event_line, event_text, row_lines}
use Rattle.atspi_trace_texts.specs.Laws.{with_bytes}
use Rattle.atspi_trace_texts.specs.TraceText as trace_texts
use Rattle.atspi_trace_texts.specs.TraceText.{is_brief, trace_text, wire_bytes, wire_text}
use Rattle.atspi_audit_text.specs.Told as audit
use Rattle.atspi_audit_text.proofs.Once.{one_reading}
use Rattle.atspi_run_replay.specs.Told.{Told, bytes_text, entry_text, told_text, whole_text}
use Rattle.atspi_run_replay.specs.OneTrace.{AreItsBytes, CanBeTold, TextsAreOfTraces, TextsHaveOneTrace, WritingsHaveOneTrace, behind, events_told}

-- the bytes of an event, as a line or none
bytes_are : (bytes : List ℕ) → bytes_text bytes ≡ wire_text (behind bytes)
bytes_are [] = refl
bytes_are (b ∷ bytes) = refl

told_is : (t : Told) → entry_text with_bytes t ≡ audit.told_text t.event (behind t.bytes)
told_is t = ap (λ l. event_text t.event ++ l) (bytes_are t.bytes)

-- what begins with an event
begins : (t : Told) (more : List Told) (text : List ℕ) → CanBeTold t → text ≡ told_text with_bytes (t ∷ more) → audit.IsTold t.event (behind t.bytes) (told_text with_bytes more) text
begins t more text can so = record { can_be = can.event; has = can.bytes; front = so ∙ ap (λ l. l ++ told_text with_bytes more) (told_is t) }

-- is not empty
some : (t : Told) (more : List Told) → [] ≡ told_text with_bytes (t ∷ more) → ⊥
some t more so =
    let whole = ap length so in
    let first = length-append (entry_text with_bytes t) (told_text with_bytes more) in
    let event = length-append (event_text t.event) (bytes_text t.bytes) in
    let line = length-append (ended (event_line t.event)) (flat_map ended (row_lines t.event)) in
    let feed = length-append (event_line t.event) (10 ∷ []) in
    absurd (omega (arith, whole, first, event, line, feed))

-- the bytes are one where they are as they stand behind events
bytes_once : (x y : List ℕ) → behind x ≡ behind y → x ≡ y
bytes_once x y h = sym (back x) ∙ ap out h ∙ back y
  where
    out : Option (List ℕ) → List ℕ
    out None = []
    out (Some bytes) = bytes

    back : (z : List ℕ) → out (behind z) ≡ z
    back [] = refl
    back (b ∷ bytes) = refl

pub one_trace : TextsHaveOneTrace
one_trace [] [] a b so = (tt, refl)
one_trace [] (t ∷ ts) a b so = absurd (some t ts so)
one_trace (s ∷ ss) [] a b so = absurd (some s ss (sym so))
one_trace (s ∷ ss) (t ∷ ts) a b so =
    let text = told_text with_bytes (s ∷ ss) in
    let first = one_reading s.event t.event (behind s.bytes) (behind t.bytes) (told_text with_bytes ss) (told_text with_bytes ts) text (begins s ss text a.0 refl) (begins t ts text b.0 so) in
    let rest = one_trace ss ts a.1 b.1 first.2 in
    ((first.0, rest.0), ap₂ (λ x xs. x ∷ xs) (bytes_once s.bytes t.bytes first.1) rest.1)

pub one_trace_written : WritingsHaveOneTrace
one_trace_written old new s t a b p q = one_trace s t a b (append_cancel_left old (told_text with_bytes s) (told_text with_bytes t) (sym p ∙ q))

-- IT IS THE TEXT OF THE TRACE
module _ (options : TraceOptions) (trace : List Event) where
  -- of one event
  one_text : (t : Told) → (options.wire ≡ true → bytes_text t.bytes ≡ wire_text (wire_bytes trace t.event)) → whole_text options t ≡ trace_texts.entry_text options trace t.event
  one_text t its = ap (λ l. event_text t.event ++ l) (by options.wire refl)
    where
      by : (b : Bool) → options.wire ≡ b → cond b (bytes_text t.bytes) [] ≡ cond b (wire_text (wire_bytes trace t.event)) []
      by true e = its e
      by false e = refl

  all_texts : (told : List Told) → (options.wire ≡ true → AreItsBytes trace told) → told_text options told ≡ flat_map (trace_texts.entry_text options trace) (trace_texts.told options (events_told told))
  all_texts told its = by options.brief refl
    where
      all : (ts : List Told) → (options.wire ≡ true → AreItsBytes trace ts) → flat_map (whole_text options) ts ≡ flat_map (trace_texts.entry_text options trace) (events_told ts)
      all [] w = refl
      all (t ∷ ts) w = ap₂ (λ x xs. x ++ xs) (one_text t (λ e. (w e).0)) (all ts (λ e. (w e).1))

      brief : (ts : List Told) → (options.wire ≡ true → AreItsBytes trace ts)
          → flat_map (λ (t : Told). cond (is_brief t.event) (whole_text options t) []) ts ≡ flat_map (trace_texts.entry_text options trace) (filter is_brief (events_told ts))
      brief [] w = refl
      brief (t ∷ ts) w = at (is_brief t.event) (one_text t (λ e. (w e).0)) (brief ts (λ e. (w e).1))
        where
          at : (b : Bool) → whole_text options t ≡ trace_texts.entry_text options trace t.event
              → flat_map (λ (u : Told). cond (is_brief u.event) (whole_text options u) []) ts ≡ flat_map (trace_texts.entry_text options trace) (filter is_brief (events_told ts))
              → cond b (whole_text options t) [] ++ flat_map (λ (u : Told). cond (is_brief u.event) (whole_text options u) []) ts
              ≡ flat_map (trace_texts.entry_text options trace) (cond b (t.event ∷ filter is_brief (events_told ts)) (filter is_brief (events_told ts)))
          at true e more = ap₂ (λ x xs. x ++ xs) e more
          at false e more = more

      by : (b : Bool) → options.brief ≡ b
          → flat_map (λ (t : Told). cond b (cond (is_brief t.event) (whole_text options t) []) (whole_text options t)) told
          ≡ flat_map (trace_texts.entry_text options trace) (cond b (filter is_brief (events_told told)) (events_told told))
      by true e = brief told its
      by false e = all told its

pub of_traces : TextsAreOfTraces
unfolding trace_text
of_traces options told its = all_texts options (events_told told) told its
