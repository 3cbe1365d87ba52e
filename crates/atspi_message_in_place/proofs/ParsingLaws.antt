-- What parsing gives is the message of the bytes, or their first fault.
use Rattle.std.proofs.Common.{◌≡◌, ℕ, List, length, take, Result, Ok, Err, refl, sym, ap, ◌∙◌, inl, inr}
use Rattle.std.specs.Prelude.{IfOk, IfErr, IsOkAnd, IsErrOf}
use Rattle.atspi_types.specs.Data.{Data}
use Rattle.atspi_types.specs.declared.fault.Fault.{Fault}
use Rattle.atspi_marshal.proofs.Places.{IsBytes}
use Rattle.atspi_message.specs.Envelope.{Envelope}
use Rattle.atspi_message.specs.Bytes.{IsMessage}
use Rattle.atspi_message.specs.Front.{input_in, length_in, IsSoundFront}
use Rattle.atspi_message.specs.Faults.{FirstFault}
use Rattle.atspi_message.specs.inner.Reading.{Found, message_at, Describes}
use Rattle.atspi_message.proofs.Told.{err_is}
use Rattle.atspi_message.proofs.IsRead.{message_sound}
use Rattle.atspi_message.proofs.IsSpelled.{message_complete}
use Rattle.atspi_message.proofs.FrontLaws.{sound_from}
use Rattle.atspi_message.proofs.ReadingLaws.{read_laws}
use Rattle.atspi_message.proofs.ParsingLaws.{whole_from, read_once, none_in_front, told_first, first_told}
use Rattle.atspi_message_in_place.specs.View.{envelope_at}
use Rattle.atspi_message_in_place.specs.inner.Parsing.{IsReadOrTold}
use Rattle.atspi_message_in_place.specs.declared.message.MessageRef.{MessageRef}

-- what was read is the message
pub is_message : (bytes : List ℕ) (e : Envelope) (found : Found) (values : List Data) → IsBytes bytes → length_in (take 16 bytes) ≡ length bytes → IsSoundFront (take 16 bytes) → Describes e bytes found values
    → message_at bytes ≡ Ok (found, values) → IsMessage e bytes
is_message bytes e found values h long front describes is = message_sound bytes e found values (read_laws (input_in bytes) h) h (sound_from bytes front) (whole_from bytes long) describes is

-- the clauses of parse

pub parse_found : (bytes : List ℕ) (r : Result MessageRef Fault) → IsBytes bytes → length_in (take 16 bytes) ≡ length bytes → IsSoundFront (take 16 bytes) → IsReadOrTold r bytes → IfOk r (λ m. IsMessage (envelope_at m) bytes)
parse_found bytes (Ok m) h long front is = message_sound bytes (envelope_at m) is.found is.values (read_laws (input_in bytes) h) h (sound_from bytes front) (whole_from bytes long) is.describes is.read_
parse_found bytes (Err f) h long front is = tt

pub parse_only : (bytes : List ℕ) (r : Result MessageRef Fault) → IsBytes bytes → IsReadOrTold r bytes → (e : Envelope) → IsMessage e bytes → IsOkAnd r (λ m. envelope_at m ≡ e)
parse_only bytes (Ok m) h is e message =
    let c = message_complete bytes e (read_laws (input_in bytes) h) message in
    read_once bytes (envelope_at m) e is.found c.found is.values e.body is.read_ c.read_ is.describes c.describes
parse_only bytes (Err f) h is e message = (let c = message_complete bytes e (read_laws (input_in bytes) h) message in let clash = sym is ∙ c.read_ in absurd cc)

pub parse_first : (bytes : List ℕ) (r : Result MessageRef Fault) → IsBytes bytes → length_in (take 16 bytes) ≡ length bytes → IsSoundFront (take 16 bytes) → IsReadOrTold r bytes → IfErr r (λ f. FirstFault bytes f.place f.reason)
parse_first bytes (Ok m) h long front is = tt
parse_first bytes (Err f) h long front is = inr (front, told_first bytes f h (whole_from bytes long) is)

abbrev told : ℕ → ℕ → Result MessageRef Fault
told place reason = Err (record { place = place; reason = reason })

same_fault : (p q r s : ℕ) → p ≡ q → r ≡ s → told p r ≡ told q s
same_fault p q r s a b = rw (a, b) refl

pub parse_told : (bytes : List ℕ) (r : Result MessageRef Fault) → IsBytes bytes → length_in (take 16 bytes) ≡ length bytes → IsSoundFront (take 16 bytes) → IsReadOrTold r bytes → (place reason : ℕ) → FirstFault bytes place reason
    → IsErrOf r (record { place = place; reason = reason })
parse_told bytes r h long front is place reason (inl early) = absurd (none_in_front (take 16 bytes) place reason front early.there)
parse_told bytes (Ok m) h long front is place reason (inr late) = (let t = first_told bytes place reason h (whole_from bytes long) late.1 in let clash = sym is.read_ ∙ t.1 in absurd cc)
parse_told bytes (Err f) h long front is place reason (inr late) =
    let t = first_told bytes place reason h (whole_from bytes long) late.1 in
    let who : f ≡ t.0 = err_is f t.0 (sym is ∙ t.1) in
    same_fault f.place place f.reason reason (ap (λ (g : Fault). g.place) who ∙ t.2) (ap (λ (g : Fault). g.reason) who ∙ t.3)
