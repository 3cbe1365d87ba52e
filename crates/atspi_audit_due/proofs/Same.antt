-- Events that are the same, wherever their messages lie in memory, have the same text behind traces that are the same.
use Rattle.std.proofs.Common.{◌≡◌, ℕ, suc, List, [], ◌∷◌, ◌++◌, length, Option, Some, refl, ap, ap₂, ◌∙◌}
use Rattle.std.specs.Prelude.{codes, cond, ◌==◌, ◌&&◌}
use Rattle.std.specs.Fmt.{decimal}
use Rattle.std.specs.List.{flat_map, position_or_len}
use Rattle.atspi_message.specs.Envelope.{Envelope, envelope_of}
use Rattle.atspi_message.specs.Bytes.{written}
use Rattle.atspi_script.specs.MessageText.{message_text}
use Rattle.atspi_script_lines.specs.Words.{literal}
use Rattle.atspi_script_lines.specs.declared.line.Party.{Party}
use Rattle.atspi_script_lines.specs.declared.line.Party.TheVariants.{Bus, Registry, App, Reader}
use Rattle.atspi_trace_events.specs.declared.event.Event.{Event}
use Rattle.atspi_trace_events.specs.declared.event.Event.TheVariants.{Sent, Got}
use Rattle.atspi_trace_texts.specs.EventForms.{end_word}
use Rattle.atspi_trace_texts.specs.EventText.{ended, event_text}
use Rattle.atspi_trace_texts.specs.Laws.{AreSame, IsSame}
use Rattle.atspi_trace_texts.specs.TraceText.{bus_name_of, greeted, is_party, message_of, taken_bytes, wire_bytes, wire_text}
use Rattle.atspi_trace_texts.specs.Written.{words_text}
use Rattle.atspi_trace.specs.Entry.{Entry, entries_of, entry_of, sent}
use Rattle.atspi_audit_due.specs.Verdicts.{told_behind}

-- messages of the same names are one
sent_equal : (w o : Party) (e f : Envelope) → w ≡ o → e ≡ f → sent w e ≡ sent o f
sent_equal w o e f p q = ap (λ (x : Party). sent x e) p ∙ ap (λ (x : Envelope). sent o x) q

same_entry : (a b : Event) → IsSame a b → entry_of a ≡ entry_of b
same_entry (Sent w m) (Sent o n) h = sent_equal w o (envelope_of m) (envelope_of n) h.0 h.1
same_entry a b h = ap entry_of h

pub same_entries : (s t : List Event) → AreSame s t → entries_of s ≡ entries_of t
same_entries [] [] h = refl
same_entries [] (b ∷ t) h = absurd h
same_entries (a ∷ s) [] h = absurd h
same_entries (a ∷ s) (b ∷ t) h = ap₂ (λ (x : Entry) (xs : List Entry). x ∷ xs) (same_entry a b h.0) (same_entries s t h.1)

pub same_lengths : (s t : List Event) → AreSame s t → length s ≡ length t
same_lengths [] [] h = refl
same_lengths [] (b ∷ t) h = absurd h
same_lengths (a ∷ s) [] h = absurd h
same_lengths (a ∷ s) (b ∷ t) h = ap suc (same_lengths s t h.1)

-- the text of one
abbrev line_of_sent : Party → Envelope → List ℕ
line_of_sent who e = ended (words_text (literal (codes "sent") ∷ end_word who ∷ []) ++ 32 ∷ message_text e) ++ []

same_text : (a b : Event) → IsSame a b → event_text a ≡ event_text b
same_text (Sent w m) (Sent o n) h = ap (λ (x : Party). line_of_sent x (envelope_of m)) h.0 ∙ ap (λ (x : Envelope). line_of_sent o x) h.1
same_text a b h = ap event_text h

-- the message that somebody sent with a serial
abbrev found_or : Party → ℕ → Party → Envelope → Option Envelope → Option Envelope
found_or who serial sender e rest = cond (is_party who sender && (e.serial == serial)) (Some e) rest

same_message : (who : Party) (serial : ℕ) (s t : List Event) → AreSame s t → message_of who serial s ≡ message_of who serial t
unfolding message_of
same_message who serial [] [] h = refl
same_message who serial [] (b ∷ t) h = absurd h
same_message who serial (a ∷ s) [] h = absurd h
same_message who serial (Sent w m ∷ s) (Sent o n ∷ t) h =
    ap (λ r. found_or who serial w (envelope_of m) r) (same_message who serial s t h.1)
    ∙ ap (λ (p : Party). found_or who serial p (envelope_of m) (message_of who serial t)) h.0.0
    ∙ ap (λ (e : Envelope). found_or who serial o e (message_of who serial t)) h.0.1
same_message who serial (Sent w m ∷ s) (b ∷ t) h = let e : Sent w m ≡ b = h.0 in absurd cc
same_message who serial (a ∷ s) (Sent o n ∷ t) h = let e : a ≡ Sent o n = h.0 in absurd cc
same_message who serial (a ∷ s) (b ∷ t) h = same_message who serial s t h.1

-- who said Hello
greeted_one : (a b : Event) → IsSame a b → greeted a ≡ greeted b
greeted_one (Sent w m) (Sent o n) h = refl
greeted_one a b h = ap greeted h

same_greeted : (s t : List Event) → AreSame s t → flat_map greeted s ≡ flat_map greeted t
same_greeted [] [] h = refl
same_greeted [] (b ∷ t) h = absurd h
same_greeted (a ∷ s) [] h = absurd h
same_greeted (a ∷ s) (b ∷ t) h = ap₂ (λ (x xs : List Party). x ++ xs) (greeted_one a b h.0) (same_greeted s t h.1)

abbrev numbered : Party → List Party → List ℕ
numbered who all = codes ":1." ++ decimal (suc (position_or_len (is_party who) all))

same_name : (who : Party) (s t : List Event) → AreSame s t → bus_name_of s who ≡ bus_name_of t who
unfolding bus_name_of
same_name Bus s t h = refl
same_name Registry s t h = refl
same_name (App a) s t h = ap (numbered (App a)) (same_greeted s t h)
same_name (Reader r) s t h = ap (numbered (Reader r)) (same_greeted s t h)

-- the bytes of a message, as sent or as taken
wire_one : (a : Event) (s t : List Event) → AreSame s t → wire_bytes s a ≡ wire_bytes t a
unfolding wire_bytes
wire_one (Got taker sender serial) s t h =
    ap (λ name. Some (taken_bytes taker name (message_of sender serial s))) (same_name sender s t h)
    ∙ ap (λ m. Some (taken_bytes taker (bus_name_of t sender) m)) (same_message sender serial s t h)
wire_one a s t h = refl

same_wire : (a b : Event) (s t : List Event) → IsSame a b → AreSame s t → wire_bytes s a ≡ wire_bytes t b
unfolding wire_bytes
same_wire (Sent w m) (Sent o n) s t k h = ap (λ (e : Envelope). Some (written e)) k.1
same_wire a b s t k h = wire_one a s t h ∙ ap (wire_bytes t) k

pub same_more : (s t : List Event) (a b : Event) → AreSame s t → IsSame a b → AreSame (s ++ a ∷ []) (t ++ b ∷ [])
same_more [] [] a b h k = (k, tt)
same_more [] (y ∷ t) a b h k = absurd h
same_more (x ∷ s) [] a b h k = absurd h
same_more (x ∷ s) (y ∷ t) a b h k = (h.0, same_more s t a b h.1 k)

pub same_told : (s t : List Event) (a b : Event) → AreSame s t → IsSame a b → told_behind s a ≡ told_behind t b
same_told s t a b h k =
    ap (λ l. l ++ wire_text (wire_bytes (s ++ a ∷ []) a)) (same_text a b k)
    ∙ ap (λ x. event_text b ++ wire_text x) (same_wire a b (s ++ a ∷ []) (t ++ b ∷ []) k (same_more s t a b h k))
