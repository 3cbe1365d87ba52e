-- What is told of one event.
use Rattle.std.proofs.Common.{Bool, true, false, not, ◌≡◌, ℕ, suc, zero, List, [], ◌∷◌, ◌++◌, cond, drop, length, ◌≤◌, ◌+◌, Some, refl, sym, ap, subst, ◌∙◌, arith, append-nil, append_assoc}
use Rattle.std.specs.Prelude.{slice_get}
use Rattle.std.proofs.lemmas.Bool.{false≢true}
use Rattle.atspi_world_links.specs.declared.post.Post.{Post}
use Rattle.atspi_trace_events.specs.declared.event.Event.{Event}
use Rattle.atspi_trace_texts.specs.declared.options.TraceOptions.{TraceOptions}
use Rattle.atspi_trace_texts.specs.EventText.{event_text}
use Rattle.atspi_trace_texts.specs.TraceText.{is_brief}
use Rattle.atspi_world_parties.specs.Wires.{wire_bytes}
use Rattle.atspi_run_replay.specs.Told.{Told, bytes_text, told_text}
use Rattle.atspi_run_replay.specs.inner.Told.{told_at, told_if, told_on, told_from}

told_by : (brief keeps : Bool) → cond brief keeps true ≡ true → (text : List ℕ) → cond brief (cond keeps text []) text ++ [] ≡ text
told_by false keeps h text = append-nil text
told_by true true h text = append-nil text
told_by true false h text = absurd (false≢true h)

none_by : (brief keeps : Bool) → cond brief keeps true ≡ false → (text : List ℕ) → cond brief (cond keeps text []) text ++ [] ≡ []
none_by false keeps h text = absurd (false≢true (sym h))
none_by true true h text = absurd (false≢true (sym h))
none_by true false h text = refl

one : (options : TraceOptions) (t : Told) → cond options.brief (is_brief t.event) true ≡ true → told_text options (t ∷ []) ≡ event_text t.event ++ cond options.wire (bytes_text t.bytes) []
one options t h = told_by options.brief (is_brief t.event) h (event_text t.event ++ cond options.wire (bytes_text t.bytes) [])

-- an event that is not told
pub tells_nothing : (options : TraceOptions) (t : Told) (text : List ℕ) → cond options.brief (is_brief t.event) true ≡ false → text ≡ text ++ told_text options (t ∷ [])
tells_nothing options t text h =
    sym (ap (λ x. text ++ x) (none_by options.brief (is_brief t.event) h (event_text t.event ++ cond options.wire (bytes_text t.bytes) [])) ∙ append-nil text)

-- an event alone
pub tells_event : (options : TraceOptions) (t : Told) (text text' : List ℕ) → cond options.brief (is_brief t.event) true ≡ true → options.wire ≡ false → text' ≡ text ++ event_text t.event
    → text' ≡ text ++ told_text options (t ∷ [])
tells_event options t text text' h plain e =
    e ∙ ap (λ x. text ++ x) (sym (append-nil (event_text t.event)) ∙ ap (λ w. event_text t.event ++ cond w (bytes_text t.bytes) []) (sym plain) ∙ sym (one options t h))

-- an event and its bytes
pub tells_bytes : (options : TraceOptions) (t : Told) (text mid text' : List ℕ) → cond options.brief (is_brief t.event) true ≡ true → options.wire ≡ true → mid ≡ text ++ event_text t.event
    → text' ≡ mid ++ bytes_text t.bytes → text' ≡ text ++ told_text options (t ∷ [])
tells_bytes options t text mid text' h wired e b =
    b ∙ ap (λ x. x ++ bytes_text t.bytes) e ∙ append_assoc text (event_text t.event) (bytes_text t.bytes)
    ∙ ap (λ x. text ++ x) (ap (λ w. event_text t.event ++ cond w (bytes_text t.bytes) []) (sym wired) ∙ sym (one options t h))

-- what a test of the opposite says
pub not_true : (b : Bool) → not b ≡ true → b ≡ false
not_true true h = absurd (false≢true h)
not_true false h = refl

pub not_false : (b : Bool) → not b ≡ false → b ≡ true
not_false true h = refl
not_false false h = absurd (false≢true (sym h))

-- FROM A PLACE ON: the event at that place, and those behind it
on_from : (posts : List Post) (trace : List Event) (place : ℕ) (events : List Event) (k : ℕ)
    → told_on posts trace place (drop k events) ≡ told_if posts trace place (slice_get events k) ++ told_on posts trace (suc place) (drop (suc k) events)
on_from posts trace place [] zero = refl
on_from posts trace place [] (suc k) = refl
on_from posts trace place (event ∷ events) zero = refl
on_from posts trace place (event ∷ events) (suc k) = on_from posts trace place events k

pub from_next : (posts : List Post) (trace : List Event) (place : ℕ) → told_from posts trace place ≡ told_if posts trace place (slice_get trace place) ++ told_from posts trace (place + 1)
from_next posts trace place =
    let next : suc place ≡ place + 1 = omega arith in
    subst (λ k. told_from posts trace place ≡ told_if posts trace place (slice_get trace place) ++ told_from posts trace k) next (on_from posts trace place trace place)

none_left : (events : List Event) (k : ℕ) → length events ≤ k → drop k events ≡ []
none_left [] zero h = refl
none_left [] (suc k) h = refl
none_left (event ∷ events) zero h = absurd (omega (arith, h))
none_left (event ∷ events) (suc k) h = none_left events k (omega (arith, h))

pub from_end : (posts : List Post) (trace : List Event) (place : ℕ) → length trace ≤ place → told_from posts trace place ≡ []
from_end posts trace place h = ap (told_on posts trace place) (none_left trace place h)

-- the bytes of the event at a place
pub bytes_here : (posts : List Post) (trace : List Event) (place : ℕ) (event : Event) → slice_get trace place ≡ Some event → wire_bytes posts trace place (slice_get trace place) ≡ (told_at posts trace place event).bytes
bytes_here posts trace place event h = ap (wire_bytes posts trace place) h
