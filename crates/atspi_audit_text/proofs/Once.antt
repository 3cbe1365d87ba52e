-- A text begins with one event at most.
use Rattle.std.proofs.Common.{◌≡◌, ℕ, List, [], ◌∷◌, ◌++◌, length, map, Option, None, Some, refl, sym, ap, subst, ◌∙◌, arith, append_assoc}
use Rattle.std.specs.Prelude.{codes}
use Rattle.std.specs.Fmt.{decimal}
use Rattle.std.specs.List.{flat_map, AllByRecursion}
use Rattle.std.proofs.lemmas.List.{append-nil, length-map}
use Rattle.atspi_message.specs.Envelope.{envelope_of}
use Rattle.atspi_message.specs.Bytes.{written}
use Rattle.atspi_script_lines.specs.Words.{SpellsWords}
use Rattle.atspi_script_lines.specs.inner.Reading.{HasNoSpace}
use Rattle.atspi_script_lines.proofs.SpaceLemmas.{tested_no_space}
use Rattle.atspi_script_lines.proofs.LeadLemmas.{words_once}
use Rattle.atspi_script_lines.proofs.NumberLemmas.{number_once}
use Rattle.atspi_trace_events.specs.declared.event.Event.{Event}
use Rattle.atspi_trace_events.specs.declared.event.Event.TheVariants.{Sent, Got, Show}
use Rattle.atspi_trace_events.specs.declared.shown.ShownRow.{ShownRow}
use Rattle.atspi_trace_texts.specs.EventForms.{count_text, event_form}
use Rattle.atspi_trace_texts.specs.EventText.{ended, event_line, row_lines}
use Rattle.atspi_trace_texts.specs.InTrace.{IsEvent}
use Rattle.atspi_trace_texts.specs.Laws.{IsSame}
use Rattle.atspi_trace_texts.specs.Rows.{row_line}
use Rattle.atspi_trace_texts.specs.TraceText.{wire_line, wire_text}
use Rattle.atspi_trace_texts.specs.Written.{words_behind, words_text}
use Rattle.atspi_trace_texts.proofs.EventOnce.{AreBehind, told_once}
use Rattle.atspi_trace_texts.proofs.Lacks.{Lacks, decimal_lacks, no_space}
use Rattle.atspi_trace_texts.proofs.Led.{words_spelled}
use Rattle.atspi_trace_texts.proofs.LineLacks.{event_lacks, rows_lack, wire_lacks}
use Rattle.atspi_audit_text.specs.Told.{HasBytes, told_text}
use Rattle.atspi_audit_text.specs.Laws.{EventsHaveOneReading, TracesAreTold}
use Rattle.atspi_audit_text.proofs.Cuts.{AllLack, cut_once, ended_is, lines_once, no_feed}
use Rattle.atspi_audit_text.proofs.Messages.{hex_line_once}

-- an event's line, and what follows it
abbrev pub after_line : Event → Option (List ℕ) → List ℕ → List ℕ
after_line e x r = flat_map ended (row_lines e) ++ (wire_text x ++ r)

pub told_is : (e : Event) (x : Option (List ℕ)) (r : List ℕ) → told_text e x ++ r ≡ event_line e ++ 10 ∷ after_line e x r
told_is e x r =
    append_assoc (ended (event_line e) ++ flat_map ended (row_lines e)) (wire_text x) r
    ∙ append_assoc (ended (event_line e)) (flat_map ended (row_lines e)) (wire_text x ++ r)
    ∙ ended_is (event_line e) (after_line e x r)

pub record SameLine (a b : Event) (x y : Option (List ℕ)) (r s : List ℕ) : Type 0 where
  pub line : event_line a ≡ event_line b
  pub rest : after_line a x r ≡ after_line b y s

same_line : (a b : Event) (x y : Option (List ℕ)) (r s text : List ℕ) → IsEvent a → IsEvent b → text ≡ told_text a x ++ r → text ≡ told_text b y ++ s → SameLine a b x y r s
same_line a b x y r s text k l p q =
    let e : event_line a ++ 10 ∷ after_line a x r ≡ event_line b ++ 10 ∷ after_line b y s = sym (told_is a x r) ∙ sym p ∙ q ∙ told_is b y s in
    let c = cut_once (event_line a) (event_line b) (after_line a x r) (after_line b y s) (no_feed (event_line a) (event_lacks a k)) (no_feed (event_line b) (event_lacks b l)) e in
    record { line = c.0; rest = c.1 }

-- the line of shown rows says how many there are
count_free : (rows : List ShownRow) → HasNoSpace (count_text (Some rows))
count_free rows = no_space (decimal (length rows)) (decimal_lacks 32 (length rows) (omega arith))

counts_once : (r a s b : ℕ) (xs ys : List ShownRow) → IsEvent (Show r a (Some xs)) → IsEvent (Show s b (Some ys))
    → event_line (Show r a (Some xs)) ≡ event_line (Show s b (Some ys)) → length xs ≡ length ys
counts_once r a s b xs ys p q e =
    let left = event_form (Show r a (Some xs)) in
    let right = event_form (Show s b (Some ys)) in
    let behind : words_behind left ≡ words_behind right = ap (λ l. 32 ∷ l) (sym (append-nil (words_text left)) ∙ e ∙ append-nil (words_text right)) in
    let show : HasNoSpace (codes "show") = tested_no_space (codes "show") refl in
    let same : left ≡ right =
    words_once left right (words_behind left) ((show, show), (tt, (tt, ((count_free xs, count_free ys), tt)))) (words_spelled left p.words) (subst (SpellsWords right) (sym behind) (words_spelled right q.words)) in
    let count : decimal (length xs) ≡ decimal (length ys) = cc in
    number_once (length xs) (length ys) p.parts.counted q.parts.counted count

all_lack : (ls : List (List ℕ)) → AllByRecursion (Lacks 10) ls → AllLack ls
all_lack [] h = tt
all_lack (l ∷ ls) h = (no_feed l h.0, all_lack ls h.1)

-- bytes behind an event, and the rest
record SameBytes (x y r s : List ℕ) : Type 0 where
  lines : wire_line x ≡ wire_line y
  rests : r ≡ s

same_bytes : (x y r s : List ℕ) → wire_text (Some x) ++ r ≡ wire_text (Some y) ++ s → SameBytes x y r s
same_bytes x y r s e =
    let f : wire_line x ++ 10 ∷ r ≡ wire_line y ++ 10 ∷ s = sym (ended_is (wire_line x) r) ∙ e ∙ ended_is (wire_line y) s in
    let c = cut_once (wire_line x) (wire_line y) r s (no_feed (wire_line x) (wire_lacks x)) (no_feed (wire_line y) (wire_lacks y)) f in
    record { lines = c.0; rests = c.1 }

same_rows : (xs ys : List ShownRow) (r s : List ℕ) → length xs ≡ length ys → AllLack (map row_line xs) → AllLack (map row_line ys)
    → flat_map ended (map row_line xs) ++ r ≡ flat_map ended (map row_line ys) ++ s → (map row_line xs ≡ map row_line ys) × (r ≡ s)
same_rows xs ys r s n p q e = lines_once (map row_line xs) (map row_line ys) r s (length-map xs row_line ∙ n ∙ sym (length-map ys row_line)) p q e

-- behind a message that was sent stand its own bytes
abbrev pub TellsItself : Event → Option (List ℕ) → Type 0
TellsItself (Sent who message) (Some bytes) = bytes ≡ written (envelope_of message)
TellsItself (Sent who message) None = ⊥
TellsItself event bytes = Unit {0}

tells_itself : (e : Event) (x : Option (List ℕ)) → HasBytes e x → TellsItself e x
tells_itself (Sent who message) (Some x) h = h
tells_itself (Sent who message) None h = h
tells_itself e x h = tt

-- what stands behind both says the same of them
behind_both : (a b : Event) (x y : Option (List ℕ)) (r s : List ℕ) → IsEvent a → IsEvent b → TellsItself a x → TellsItself b y → SameLine a b x y r s → AreBehind a b
behind_both (Sent who m) (Sent other n) (Some x) (Some y) r s k l p q e = ap wire_line (sym p) ∙ (same_bytes x y r s e.rest).lines ∙ ap wire_line q
behind_both (Sent who m) (Sent other n) None y r s k l p q e = absurd p
behind_both (Sent who m) (Sent other n) (Some x) None r s k l p q e = absurd q
behind_both (Show i a (Some xs)) (Show j b (Some ys)) x y r s k l p q e =
    (same_rows xs ys (wire_text x ++ r) (wire_text y ++ s) (counts_once i a j b xs ys k l e.line) (all_lack (map row_line xs) (rows_lack xs k.parts.each)) (all_lack (map row_line ys) (rows_lack ys l.parts.each)) e.rest).0
behind_both a b x y r s k l p q e = tt

-- one event stands in front of a text
pub one_event : (a b : Event) (x y : Option (List ℕ)) (r s text : List ℕ) → IsEvent a → IsEvent b → TellsItself a x → TellsItself b y
    → text ≡ told_text a x ++ r → text ≡ told_text b y ++ s → IsSame a b
one_event a b x y r s text k l t u p q =
    let e = same_line a b x y r s text k l p q in
    told_once a b k l e.line (behind_both a b x y r s k l t u e)

-- the same bytes and the same rest stand behind one event
rest_once : (a : Event) (x y : Option (List ℕ)) (r s : List ℕ) → IsEvent a → HasBytes a x → HasBytes a y → after_line a x r ≡ after_line a y s → (x ≡ y) × (r ≡ s)
rest_once (Sent who m) (Some x) (Some y) r s k p q e = (ap (λ (z : List ℕ). Some z) (p ∙ sym q), (same_bytes x y r s e).rests)
rest_once (Sent who m) None y r s k p q e = absurd p
rest_once (Sent who m) (Some x) None r s k p q e = absurd q
rest_once (Got taker sender i) (Some x) (Some y) r s k p q e = let c = same_bytes x y r s e in (ap (λ (z : List ℕ). Some z) (hex_line_once x y p q c.lines), c.rests)
rest_once (Got taker sender i) None y r s k p q e = absurd p
rest_once (Got taker sender i) (Some x) None r s k p q e = absurd q
rest_once (Show i a (Some xs)) None None r s k p q e =
    let lack = all_lack (map row_line xs) (rows_lack xs k.parts.each) in
    (refl, (same_rows xs xs r s refl lack lack e).1)
rest_once a None None r s k p q e = (refl, e)
rest_once a (Some x) y r s k p q e = absurd p
rest_once a None (Some y) r s k p q e = absurd q

ends_once : (a b : Event) (x y : Option (List ℕ)) (r s : List ℕ) → IsSame a b → IsEvent a → HasBytes a x → HasBytes b y → after_line a x r ≡ after_line b y s → (x ≡ y) × (r ≡ s)
ends_once (Sent who m) (Sent other n) x (Some y) r s same k p q e = rest_once (Sent who m) x (Some y) r s k p (q ∙ ap written (sym same.1)) e
ends_once (Sent who m) (Sent other n) x None r s same k p q e = absurd q
ends_once a b x y r s same k p q e = rest_once a x y r s k p (subst (λ c. HasBytes c y) (sym same) q) (e ∙ ap (λ c. after_line c y s) (sym same))

pub one_reading : EventsHaveOneReading
one_reading a b x y r s text p q =
    let same = one_event a b x y r s text p.can_be q.can_be (tells_itself a x p.has) (tells_itself b y q.has) p.front q.front in
    let e = same_line a b x y r s text p.can_be q.can_be p.front q.front in
    let ends = ends_once a b x y r s same p.can_be p.has q.has e.rest in
    (same, ends.0, ends.1)

pub are_told : TracesAreTold
are_told trace event = refl
