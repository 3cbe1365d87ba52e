-- The text of a trace with the bytes of its messages is one trace's.
use Rattle.std.proofs.Common.{◌≡◌, ℕ, List, [], ◌∷◌, ◌++◌, map, Option, None, Some, refl, sym, ap, subst, ◌∙◌, append_assoc, inr}
use Rattle.std.proofs.lemmas.List.{append-nil}
use Rattle.std.proofs.lemmas.Grind.{flat_map-append}
use Rattle.std.specs.List.{flat_map, AllByRecursion}
use Rattle.atspi_message.specs.Envelope.{envelope_of}
use Rattle.atspi_message.specs.Bytes.{written}
use Rattle.atspi_message.specs.declared.message.Message.{Message}
use Rattle.atspi_script_lines.specs.declared.line.Party.{Party}
use Rattle.atspi_trace_events.specs.declared.event.Event.{Event}
use Rattle.atspi_trace_events.specs.declared.event.Event.TheVariants.{Start, Step as Stepped, Sent, Got, Hears, Deaf, Say, Show, Exit, Gone, Dropped, Busy, Quiet}
use Rattle.atspi_trace_events.specs.declared.shown.ShownRow.{ShownRow}
use Rattle.atspi_trace_texts.specs.EventText.{ended, event_line, row_lines}
use Rattle.atspi_trace_texts.specs.Rows.{row_line}
use Rattle.atspi_trace_texts.specs.TraceText.{entry_text, trace_text, wire_bytes, wire_line, wire_text}
use Rattle.atspi_trace_texts.specs.InTrace.{IsEvent}
use Rattle.atspi_trace_texts.specs.Laws.{AreSame, TextTellsTrace, with_bytes}
use Rattle.atspi_trace_texts.proofs.Lacks.{Lacks}
use Rattle.atspi_trace_texts.proofs.EventOnce.{AreBehind, told_once}
use Rattle.atspi_trace_texts.proofs.LineLacks.{IsTail, event_lacks, head_begins, rows_lack, rows_tail, wire_lacks}

-- lines cut at their line feeds
feed_cut : (u v x y : List ℕ) → Lacks 10 u → Lacks 10 v → u ++ 10 ∷ x ≡ v ++ 10 ∷ y → (u ≡ v) × (x ≡ y)
feed_cut [] [] x y p q e = let h : x ≡ y = cc in (refl, h)
feed_cut [] (b ∷ v) x y p q e = let h : 10 ≡ b = cc in absurd (q.0 (sym h))
feed_cut (a ∷ u) [] x y p q e = let h : a ≡ 10 = cc in absurd (p.0 h)
feed_cut (a ∷ u) (b ∷ v) x y p q e =
    let h : a ≡ b = cc in
    let t : u ++ 10 ∷ x ≡ v ++ 10 ∷ y = cc in
    let r = feed_cut u v x y p.1 q.1 t in
    (ap (λ l. a ∷ l) r.0 ∙ ap (λ c. c ∷ v) h, r.1)

some_line : (l : List ℕ) (rest : List ℕ) → [] ≡ (l ++ 10 ∷ []) ++ rest → ⊥
some_line [] rest e = cc
some_line (b ∷ l) rest e = cc

lines_once : (ls ms : List (List ℕ)) → AllByRecursion (Lacks 10) ls → AllByRecursion (Lacks 10) ms → flat_map ended ls ≡ flat_map ended ms → ls ≡ ms
lines_once [] [] p q e = refl
lines_once [] (m ∷ ms) p q e = absurd (some_line m (flat_map ended ms) e)
lines_once (l ∷ ls) [] p q e = absurd (some_line l (flat_map ended ls) (sym e))
lines_once (l ∷ ls) (m ∷ ms) p q e =
    let f : l ++ 10 ∷ flat_map ended ls ≡ m ++ 10 ∷ flat_map ended ms = sym (append_assoc l (10 ∷ []) (flat_map ended ls)) ∙ e ∙ append_assoc m (10 ∷ []) (flat_map ended ms) in
    let r = feed_cut l m (flat_map ended ls) (flat_map ended ms) p.0 q.0 f in
    ap (λ x. x ∷ ls) r.0 ∙ ap (λ x. m ∷ x) (lines_once ls ms p.1 q.1 r.1)

-- an event's lines: its own, those of its rows, and that of its bytes
abbrev wire_lines : Option (List ℕ) → List (List ℕ)
wire_lines None = []
wire_lines (Some bytes) = wire_line bytes ∷ []

abbrev tails_of : List Event → Event → List (List ℕ)
tails_of trace e = row_lines e ++ wire_lines (wire_bytes trace e)

abbrev lines_of : List Event → Event → List (List ℕ)
lines_of trace e = event_line e ∷ tails_of trace e

wire_is : (o : Option (List ℕ)) → wire_text o ≡ flat_map ended (wire_lines o)
wire_is None = refl
wire_is (Some bytes) = sym (append-nil (ended (wire_line bytes)))

entry_is : (trace : List Event) (e : Event) → entry_text with_bytes trace e ≡ flat_map ended (lines_of trace e)
entry_is trace e =
    append_assoc (ended (event_line e)) (flat_map ended (row_lines e)) (wire_text (wire_bytes trace e))
    ∙ ap (λ w. ended (event_line e) ++ (flat_map ended (row_lines e) ++ w)) (wire_is (wire_bytes trace e))
    ∙ ap (λ w. ended (event_line e) ++ w) (sym (flat_map-append ended (row_lines e) (wire_lines (wire_bytes trace e))))

entries_are : (trace s : List Event) → flat_map (entry_text with_bytes trace) s ≡ flat_map ended (flat_map (lines_of trace) s)
entries_are trace [] = refl
entries_are trace (e ∷ s) =
    ap (λ w. w ++ flat_map (entry_text with_bytes trace) s) (entry_is trace e)
    ∙ ap (λ w. flat_map ended (lines_of trace e) ++ w) (entries_are trace s)
    ∙ sym (flat_map-append ended (lines_of trace e) (flat_map (lines_of trace) s))

text_is : (s : List Event) → trace_text with_bytes s ≡ flat_map ended (flat_map (lines_of s) s)
unfolding trace_text
text_is s = entries_are s s

-- none of them has a line feed, and those behind the first begin with `|` or `=`
both : (P : List ℕ → Type 0) (a b : List (List ℕ)) → AllByRecursion P a → AllByRecursion P b → AllByRecursion P (a ++ b)
both P [] b p q = q
both P (x ∷ a) b p q = (p.0, both P a b p.1 q)

wires_lack : (o : Option (List ℕ)) → AllByRecursion (Lacks 10) (wire_lines o)
wires_lack None = tt
wires_lack (Some bytes) = (wire_lacks bytes, tt)

wires_tail : (o : Option (List ℕ)) → AllByRecursion IsTail (wire_lines o)
wires_tail None = tt
wires_tail (Some bytes) = (inr refl, tt)

event_rows_lack : (e : Event) → IsEvent e → AllByRecursion (Lacks 10) (row_lines e)
event_rows_lack (Show r a (Some rows)) k = rows_lack rows k.parts.each
event_rows_lack (Show r a None) k = tt
event_rows_lack (Start who name) k = tt
event_rows_lack (Stepped app step) k = tt
event_rows_lack (Sent who m) k = tt
event_rows_lack (Got x y s) k = tt
event_rows_lack (Hears a l p) k = tt
event_rows_lack (Deaf a l p) k = tt
event_rows_lack (Say r a x) k = tt
event_rows_lack (Exit who) k = tt
event_rows_lack (Gone r a) k = tt
event_rows_lack (Dropped who q l) k = tt
event_rows_lack (Busy n) k = tt
event_rows_lack Quiet k = tt

event_rows_tail : (e : Event) → AllByRecursion IsTail (row_lines e)
event_rows_tail (Show r a (Some rows)) = rows_tail rows
event_rows_tail (Show r a None) = tt
event_rows_tail (Start who name) = tt
event_rows_tail (Stepped app step) = tt
event_rows_tail (Sent who m) = tt
event_rows_tail (Got x y s) = tt
event_rows_tail (Hears a l p) = tt
event_rows_tail (Deaf a l p) = tt
event_rows_tail (Say r a x) = tt
event_rows_tail (Exit who) = tt
event_rows_tail (Gone r a) = tt
event_rows_tail (Dropped who q l) = tt
event_rows_tail (Busy n) = tt
event_rows_tail Quiet = tt

lines_lack : (trace s : List Event) → AllByRecursion IsEvent s → AllByRecursion (Lacks 10) (flat_map (lines_of trace) s)
lines_lack trace [] k = tt
lines_lack trace (e ∷ s) k = (
  event_lacks e k.0,
  both (Lacks 10) (tails_of trace e) (flat_map (lines_of trace) s)
      (both (Lacks 10) (row_lines e) (wire_lines (wire_bytes trace e)) (event_rows_lack e k.0) (wires_lack (wire_bytes trace e))) (lines_lack trace s k.1),
)

tails_tail : (trace : List Event) (e : Event) → AllByRecursion IsTail (tails_of trace e)
tails_tail trace e = both IsTail (row_lines e) (wire_lines (wire_bytes trace e)) (event_rows_tail e) (wires_tail (wire_bytes trace e))

-- lines of one event end where the next begins
abbrev StartsAnew : List (List ℕ) → Type 0
StartsAnew [] = Unit {0}
StartsAnew (line ∷ lines) = IsTail line → ⊥

starts : (trace s : List Event) → StartsAnew (flat_map (lines_of trace) s)
starts trace [] = tt
starts trace (e ∷ s) = head_begins e

tails_once : (xs ys r s : List (List ℕ)) → AllByRecursion IsTail xs → AllByRecursion IsTail ys → StartsAnew r → StartsAnew s → xs ++ r ≡ ys ++ s → (xs ≡ ys) × (r ≡ s)
tails_once [] [] r s p q a b e = (refl, e)
tails_once [] (y ∷ ys) [] s p q a b e = cc
tails_once [] (y ∷ ys) (l ∷ r) s p q a b e = let h : l ≡ y = cc in absurd (a (subst IsTail (sym h) q.0))
tails_once (x ∷ xs) [] r [] p q a b e = cc
tails_once (x ∷ xs) [] r (l ∷ s) p q a b e = let h : x ≡ l = cc in absurd (b (subst IsTail h p.0))
tails_once (x ∷ xs) (y ∷ ys) r s p q a b e =
    let h : x ≡ y = cc in
    let t : xs ++ r ≡ ys ++ s = cc in
    let more = tails_once xs ys r s p.1 q.1 a b t in
    (ap (λ l. l ∷ xs) h ∙ ap (λ l. y ∷ l) more.0, more.1)

-- what stands behind two events of the same tails
same_sole : (a b : List ℕ) → (a ∷ []) ≡ (b ∷ []) → a ≡ b
same_sole a b e = cc

sent_behind : (u v : List Event) (x y : Party) (m n : Message) → tails_of u (Sent x m) ≡ tails_of v (Sent y n) → wire_line (written (envelope_of m)) ≡ wire_line (written (envelope_of n))
unfolding wire_bytes
sent_behind u v x y m n e = same_sole (wire_line (written (envelope_of m))) (wire_line (written (envelope_of n))) e

rows_behind : (u v : List Event) (r a s b : ℕ) (xs ys : List ShownRow) → tails_of u (Show r a (Some xs)) ≡ tails_of v (Show s b (Some ys)) → map row_line xs ≡ map row_line ys
unfolding wire_bytes
rows_behind u v r a s b xs ys e = sym (append-nil (map row_line xs)) ∙ e ∙ append-nil (map row_line ys)

behind : (u v : List Event) (a b : Event) → tails_of u a ≡ tails_of v b → AreBehind a b
behind u v (Sent x m) (Sent y n) e = sent_behind u v x y m n e
behind u v (Show r a (Some xs)) (Show s b (Some ys)) e = rows_behind u v r a s b xs ys e
behind u v a b e = tt

traces_once : (u v s t : List Event) → AllByRecursion IsEvent s → AllByRecursion IsEvent t → flat_map (lines_of u) s ≡ flat_map (lines_of v) t → AreSame s t
traces_once u v [] [] p q e = tt
traces_once u v [] (b ∷ t) p q e = absurd cc
traces_once u v (a ∷ s) [] p q e = absurd cc
traces_once u v (a ∷ s) (b ∷ t) p q e =
    let head : event_line a ≡ event_line b = cc in
    let tail : tails_of u a ++ flat_map (lines_of u) s ≡ tails_of v b ++ flat_map (lines_of v) t = cc in
    let cut = tails_once (tails_of u a) (tails_of v b) (flat_map (lines_of u) s) (flat_map (lines_of v) t) (tails_tail u a) (tails_tail v b) (starts u s) (starts v t) tail in
    (told_once a b p.0 q.0 head (behind u v a b cut.0), traces_once u v s t p.1 q.1 cut.1)

pub text_tells : TextTellsTrace
text_tells s t p q e =
    let lines : flat_map (lines_of s) s ≡ flat_map (lines_of t) t =
    lines_once (flat_map (lines_of s) s) (flat_map (lines_of t) t) (lines_lack s s p) (lines_lack t t q) (sym (text_is s) ∙ e ∙ text_is t) in
    traces_once s t s t p q lines
