-- A text that begins with a message of a reader.
use Rattle.std.proofs.Common.{◌≡◌, ℕ, ◌+◌, ◌<◌, List, [], ◌∷◌, ◌++◌, sym, ap, subst, ◌∙◌, arith, append_assoc}
use Rattle.std.proofs.lemmas.Fmt.{decimal_digit}
use Rattle.std.proofs.lemmas.List.{append-nil}
use Rattle.std.specs.Prelude.{codes}
use Rattle.std.specs.Fmt.{decimal}
use Rattle.atspi_message.specs.Envelope.{envelope_of}
use Rattle.atspi_message.specs.Bytes.{written}
use Rattle.atspi_message.specs.declared.message.Message.{Message}
use Rattle.atspi_script.specs.MessageText.{message_text}
use Rattle.atspi_script_lines.specs.declared.line.Party.TheVariants.{Reader}
use Rattle.atspi_trace_events.specs.declared.event.Event.{Event}
use Rattle.atspi_trace_events.specs.declared.event.Event.TheVariants.{Sent}
use Rattle.atspi_trace_texts.specs.EventText.{ended, event_line}
use Rattle.atspi_trace_texts.specs.InTrace.{IsEvent}
use Rattle.atspi_trace_texts.specs.TraceText.{wire_line}
use Rattle.atspi_trace_texts.proofs.LineLacks.{event_lacks, wire_lacks}
use Rattle.atspi_audit_text.specs.Told.{IsOfReader, of_reader}
use Rattle.atspi_audit_text.specs.inner.Lines.{HasNoFeed, IsLineWith, NamesReader, sent_line}
use Rattle.atspi_audit_text.proofs.Cuts.{cut_once, ended_is, no_feed}
use Rattle.atspi_audit_text.proofs.Messages.{hex_line_once}

abbrev sent_by : ℕ → Message → Event
sent_by reader message = Sent (Reader reader) message

-- such a message can be told
can_be : (reader : ℕ) (message : Message) → IsOfReader reader message → IsEvent (sent_by reader message)
can_be reader message h = record { words = (tt, (tt, tt)); parts = (h.0, h.1) }

-- its line
line_is : (reader : ℕ) (message : Message) → event_line (sent_by reader message) ≡ sent_line reader (envelope_of message)
line_is reader message = ap (λ d. codes "sent r" ++ (d ++ 32 ∷ message_text (envelope_of message))) (append-nil (decimal reader))

-- its line, and behind that its bytes
told_is : (reader : ℕ) (message : Message) (rest : List ℕ)
    → of_reader reader message ++ rest ≡ sent_line reader (envelope_of message) ++ 10 ∷ (wire_line (written (envelope_of message)) ++ 10 ∷ rest)
told_is reader message rest =
    let bytes = written (envelope_of message) in
    append_assoc (ended (event_line (sent_by reader message)) ++ []) (ended (wire_line bytes)) rest
    ∙ ap (λ l. l ++ (ended (wire_line bytes) ++ rest)) (append-nil (ended (event_line (sent_by reader message))))
    ∙ ended_is (event_line (sent_by reader message)) (ended (wire_line bytes) ++ rest)
    ∙ ap (λ l. event_line (sent_by reader message) ++ 10 ∷ l) (ended_is (wire_line bytes) rest)
    ∙ ap (λ l. l ++ 10 ∷ (wire_line bytes ++ 10 ∷ rest)) (line_is reader message)

-- what stands in front, where it does
pub has_line : (reader : ℕ) (message : Message) (rest text : List ℕ) → IsOfReader reader message → text ≡ of_reader reader message ++ rest
    → IsLineWith (sent_line reader (envelope_of message)) (written (envelope_of message)) rest text
has_line reader message rest text h e = record {
  whole = subst HasNoFeed (line_is reader message) (no_feed (event_line (sent_by reader message)) (event_lacks (sent_by reader message) (can_be reader message h)));
  are = h.1.bytes;
  front = e ∙ told_is reader message rest;
}

-- and it does where that stands there
pub stands : (reader : ℕ) (message : Message) (line bytes rest text : List ℕ) → IsLineWith line bytes rest text → bytes ≡ written (envelope_of message) → line ≡ sent_line reader (envelope_of message)
    → text ≡ of_reader reader message ++ rest
stands reader message line bytes rest text h b l =
    h.front ∙ ap (λ z. line ++ 10 ∷ (wire_line z ++ 10 ∷ rest)) b ∙ ap (λ z. z ++ 10 ∷ (wire_line (written (envelope_of message)) ++ 10 ∷ rest)) l ∙ sym (told_is reader message rest)

-- the line names the reader
pub names : (reader : ℕ) (message : Message) (rest text : List ℕ) → IsOfReader reader message → text ≡ of_reader reader message ++ rest
    → NamesReader reader ((32 ∷ message_text (envelope_of message)) ++ 10 ∷ (wire_line (written (envelope_of message)) ++ 10 ∷ rest)) text
names reader message rest text h e =
    let m = 32 ∷ message_text (envelope_of message) in
    let behind = 10 ∷ (wire_line (written (envelope_of message)) ++ 10 ∷ rest) in
    (h.0, e ∙ told_is reader message rest ∙ append_assoc (codes "sent r") (decimal reader ++ m) behind ∙ ap (λ l. codes "sent r" ++ l) (append_assoc (decimal reader) m behind))

-- a text is cut in one way
pub record SameCut (l m b c r s : List ℕ) : Type 0 where
  pub line : l ≡ m
  pub bytes : b ≡ c
  pub rest : r ≡ s

pub one_cut : (l m b c r s text : List ℕ) → IsLineWith l b r text → IsLineWith m c s text → SameCut l m b c r s
one_cut l m b c r s text p q =
    let first = cut_once l m (wire_line b ++ 10 ∷ r) (wire_line c ++ 10 ∷ s) p.whole q.whole (sym p.front ∙ q.front) in
    let second = cut_once (wire_line b) (wire_line c) r s (no_feed (wire_line b) (wire_lacks b)) (no_feed (wire_line c) (wire_lacks c)) first.1 in
    record { line = first.0; bytes = hex_line_once b c p.are q.are second.0; rest = second.1 }

-- what stands behind the line in front
pub behind_line : (line bytes rest text first behind : List ℕ) → HasNoFeed first → text ≡ first ++ 10 ∷ behind → IsLineWith line bytes rest text → behind ≡ wire_line bytes ++ 10 ∷ rest
behind_line line bytes rest text first behind free e h = (cut_once first line behind (wire_line bytes ++ 10 ∷ rest) free h.whole (sym e ∙ h.front)).1

-- the line in front, where it tells bytes
pub line_of : (bytes rest text line behind : List ℕ) → HasNoFeed line → text ≡ line ++ 10 ∷ behind → text ≡ wire_line bytes ++ 10 ∷ rest → line ≡ wire_line bytes
line_of bytes rest text line behind free e h = (cut_once line (wire_line bytes) behind rest free (no_feed (wire_line bytes) (wire_lacks bytes)) (sym e ∙ h)).0

-- a digit names one reader
digit_of : (reader : ℕ) → reader < 4 → decimal reader ≡ (48 + reader) ∷ []
digit_of reader small = decimal_digit reader (omega arith)

-- what stands behind `sent r` begins with the reader's digit
pub begins_with : (reader : ℕ) (tail name text : List ℕ) → text ≡ codes "sent r" ++ name → NamesReader reader tail text → name ≡ (48 + reader) ∷ tail
begins_with reader tail name text e h =
    let a : codes "sent r" ++ name ≡ codes "sent r" ++ (decimal reader ++ tail) = sym e ∙ h.1 in
    let b : name ≡ decimal reader ++ tail = cc in
    b ∙ ap (λ l. l ++ tail) (digit_of reader h.0)

pub no_front : (reader : ℕ) (tail text : List ℕ) → ((rest : List ℕ) → text ≡ codes "sent r" ++ rest → ⊥) → NamesReader reader tail text → ⊥
no_front reader tail text none h = none (decimal reader ++ tail) h.1

-- a line that is put down part by part
pub line_put : (old word digits text a b c d : List ℕ) → a ≡ old ++ word → b ≡ a ++ digits → c ≡ b ++ 32 ∷ [] → d ≡ c ++ text → d ≡ old ++ (word ++ (digits ++ 32 ∷ text))
line_put old word digits text a b c d p q r s =
    s
    ∙ ap (λ l. l ++ text) r
    ∙ append_assoc b (32 ∷ []) text
    ∙ ap (λ l. l ++ 32 ∷ text) q
    ∙ append_assoc a digits (32 ∷ text)
    ∙ ap (λ l. l ++ (digits ++ 32 ∷ text)) p
    ∙ append_assoc old word (digits ++ 32 ∷ text)
