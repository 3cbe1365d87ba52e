-- The clauses of giving the next message, from what looking at the bytes gives.
use Rattle.std.proofs.Common.{◌≡◌, ℕ, List, [], ◌∷◌, ◌++◌, take, drop, refl, sym, ap, ◌∙◌, append_assoc}
use Rattle.std.proofs.lemmas.List.{take-append-drop}
use Rattle.atspi_marshal.proofs.Places.{IsBytes}
use Rattle.atspi_message.specs.Envelope.{Envelope}
use Rattle.atspi_message.specs.Bytes.{IsMessage}
use Rattle.atspi_message_in_place.specs.View.{envelope_at}
use Rattle.atspi_message_in_place.specs.declared.message.MessageRef.{MessageRef}
use Rattle.atspi_stream.specs.declared.feeder.Got.{Got}
use Rattle.atspi_stream.specs.declared.feeder.Got.TheVariants.{Message, NotYet, Bad}
use Rattle.atspi_stream.specs.Stream.{AwaitsMore, HasFault, BeginsWithMessage, AreMessages, bytes_of, IsParted, TakesPiece, GivesMessage, IsMessageGiven, WaitsRightly, TellsFault, IsFaultTold, KeepsHeld, HandsOut, Leaves}
use Rattle.atspi_stream.specs.inner.Seen.{Sees}
use Rattle.atspi_stream.proofs.StreamLaws.{one_answer}

-- what is held after so many bytes of a message were given out
abbrev pub left_after : Got × ℕ → List ℕ → List ℕ
left_after r held = drop r.1 held

abbrev pub got : Got × ℕ → Got
got r = r.0

abbrev first : (m : MessageRef) (n : ℕ) (held : List ℕ) → IsMessage (envelope_at m) (take n held) → BeginsWithMessage held
first m n held is = record { envelope = envelope_at m; bytes = take n held; rest = drop n held; is = is; front = sym (take-append-drop n held) }

pub gives : (r : Got × ℕ) (held : List ℕ) → Sees r held → GivesMessage (got r) held (left_after r held)
gives (Message m, n) held s = (take n held, s.1, sym (take-append-drop n held))
gives (NotYet, n) held s = tt
gives (Bad f, n) held s = tt

pub only : (r : Got × ℕ) (held : List ℕ) → IsBytes held → Sees r held → (e : Envelope) (bytes rest : List ℕ) → IsMessage e bytes → held ≡ bytes ++ rest → IsMessageGiven (got r) e
only (Message m, n) held h s e bytes rest is front =
    ((one_answer held h).one_message (first m n held s.1) (record { envelope = e; bytes = bytes; rest = rest; is = is; front = front })).0
only (NotYet, n) held h s e bytes rest is front = (one_answer held h).waits_without_message s.1 (record { envelope = e; bytes = bytes; rest = rest; is = is; front = front })
only (Bad f, n) held h s e bytes rest is front =
    (one_answer held h).message_without_fault (record { envelope = e; bytes = bytes; rest = rest; is = is; front = front }) (record { place = f.place; reason = f.reason; is = s.1 })

pub not_yet : (r : Got × ℕ) (held : List ℕ) → Sees r held → WaitsRightly (got r) held
not_yet (Message m, n) held s = tt
not_yet (NotYet, n) held s = s.1
not_yet (Bad f, n) held s = tt

pub waits : (r : Got × ℕ) (held : List ℕ) → IsBytes held → Sees r held → AwaitsMore held → got r ≡ NotYet
waits (Message m, n) held h s w = absurd ((one_answer held h).waits_without_message w (first m n held s.1))
waits (NotYet, n) held h s w = refl
waits (Bad f, n) held h s w = absurd ((one_answer held h).waits_without_fault w (record { place = f.place; reason = f.reason; is = s.1 }))

pub bad : (r : Got × ℕ) (held : List ℕ) → Sees r held → TellsFault (got r) held
bad (Message m, n) held s = tt
bad (NotYet, n) held s = tt
bad (Bad f, n) held s = s.1

pub told : (r : Got × ℕ) (held : List ℕ) → IsBytes held → Sees r held → (place reason : ℕ) → HasFault held place reason → IsFaultTold (got r) place reason
told (Message m, n) held h s place reason f = (one_answer held h).message_without_fault (first m n held s.1) (record { place = place; reason = reason; is = f })
told (NotYet, n) held h s place reason f = (one_answer held h).waits_without_fault s.1 (record { place = place; reason = reason; is = f })
told (Bad g, n) held h s place reason f = (one_answer held h).one_fault g.place g.reason place reason s.1 f

pub kept : (r : Got × ℕ) (held : List ℕ) → Sees r held → KeepsHeld (got r) held (left_after r held)
kept (Message m, n) held s = tt
kept (NotYet, n) held s = ap (λ (k : ℕ). drop k held) s.0
kept (Bad f, n) held s = ap (λ (k : ℕ). drop k held) s.0

-- a message more, or a piece more

are_messages_more : (ms : List (Envelope × List ℕ)) (e : Envelope) (bytes : List ℕ) → AreMessages ms → IsMessage e bytes → AreMessages (ms ++ (e, bytes) ∷ [])
are_messages_more [] e bytes a is = (is, tt)
are_messages_more (m ∷ ms) e bytes a is = (a.0, are_messages_more ms e bytes a.1 is)

pub bytes_of_more : (ms : List (Envelope × List ℕ)) (e : Envelope) (bytes : List ℕ) (rest : List ℕ) → bytes_of (ms ++ (e, bytes) ∷ []) ++ rest ≡ bytes_of ms ++ (bytes ++ rest)
bytes_of_more [] e bytes rest = append_assoc bytes [] rest
bytes_of_more (m ∷ ms) e bytes rest =
    append_assoc m.1 (bytes_of (ms ++ (e, bytes) ∷ [])) rest ∙ ap (λ (bs : List ℕ). m.1 ++ bs) (bytes_of_more ms e bytes rest) ∙ sym (append_assoc m.1 (bytes_of ms) (bytes ++ rest))

pub history_more : (fed : List ℕ) (given : List (Envelope × List ℕ)) (e : Envelope) (bytes old new : List ℕ) → IsParted fed given old → IsMessage e bytes → old ≡ bytes ++ new → IsParted fed (given ++ (e, bytes) ∷ []) new
history_more fed given e bytes old new h is front = record {
  are = are_messages_more given e bytes h.are is;
  parted = h.parted ∙ ap (λ (bs : List ℕ). bytes_of given ++ bs) front ∙ sym (bytes_of_more given e bytes new);
}

pub history : (r : Got × ℕ) (held : List ℕ) → Sees r held → HandsOut (got r) held (left_after r held)
history (Message m, n) held s = λ fed given h. (take n held, history_more fed given (envelope_at m) (take n held) held (drop n held) h s.1 (sym (take-append-drop n held)))
history (NotYet, n) held s = tt
history (Bad f, n) held s = tt

pub takes_piece : (old piece new : List ℕ) → new ≡ old ++ piece → TakesPiece old piece new
takes_piece old piece new is fed given h = record {
  are = h.are;
  parted = ap (λ (bs : List ℕ). bs ++ piece) h.parted ∙ append_assoc (bytes_of given) old piece ∙ ap (λ (bs : List ℕ). bytes_of given ++ bs) (sym is);
}

-- what is held behind the answer
pub leaves : (r : Got × ℕ) (held : List ℕ) → Sees r held → Leaves (got r) held (left_after r held)
leaves r held s = record { message = gives r held s; kept = kept r held s; history = history r held s }
