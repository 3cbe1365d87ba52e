-- Bytes as long as they state are one message or have one first fault.
use Rattle.std.proofs.Common.{◌≡◌, ℕ, ◌+◌, ◌<◌, ◌≤◌, List, [], ◌∷◌, length, take, Option, Some, None, Result, Ok, Err, refl, sym, ap, subst, ◌∙◌, arith, inl, inr, ◌⊎◌}
use Rattle.atspi_types.specs.Kinds.{u32}
use Rattle.atspi_types.specs.Data.{Data, number_data, text_data, path_data}
use Rattle.atspi_types.specs.SignatureFaults.{Before}
use Rattle.atspi_types.specs.declared.fault.Fault.{Fault}
use Rattle.atspi_marshal.specs.Input.{byte_in}
use Rattle.atspi_marshal.proofs.Places.{IsBytes}
use Rattle.atspi_message.specs.declared.code.Code.TheVariants.{Path, Interface, Member, Error, Reply, Destination, Sender}
use Rattle.atspi_message.specs.Envelope.{Envelope}
use Rattle.atspi_message.specs.Bytes.{IsMessage}
use Rattle.atspi_message.specs.Front.{order_in, input_in, type_in, serial_in, length_in, front_in, WrongFront, IsFirst, IsSoundFront}
use Rattle.atspi_message.specs.Faults.{WrongMessage, FirstFault}
use Rattle.atspi_message.specs.Laws.{HasOneMessage, HasOneFault}
use Rattle.atspi_message.specs.inner.Reading.{Found, some_of, message_at, Describes}
use Rattle.atspi_message.proofs.Values.{IsGoodValue}
use Rattle.atspi_message.proofs.Walk.{GoodFound}
use Rattle.atspi_message.proofs.Rest.{IsWhole}
use Rattle.atspi_message.proofs.Sound.{MessageRead, message_read}
use Rattle.atspi_message.proofs.IsRead.{message_sound}
use Rattle.atspi_message.proofs.IsSpelled.{IsReadAs, message_complete}
use Rattle.atspi_message.proofs.FrontLaws.{front_first, front_sound, sound_from, sound_to}
use Rattle.atspi_message.proofs.ReadingLaws.{read_laws}
use Rattle.atspi_message.proofs.ParsingLaws.{whole_from, read_once, none_in_front, told_first, first_told, both_before}

-- a value that was found, as the message has it
text_found : (o : Option Data) → ((d : Data) → o ≡ Some d → (bytes : List ℕ) × (d ≡ text_data bytes)) → (x : Option (List ℕ)) × (o ≡ some_of text_data x)
text_found None h = (None, refl)
text_found (Some d) h = let g = h d refl in (Some g.0, ap some g.1)
  where
    some : Data → Option Data
    some v = Some v

path_found : (o : Option Data) → ((d : Data) → o ≡ Some d → (bytes : List ℕ) × (d ≡ path_data bytes)) → (x : Option (List ℕ)) × (o ≡ some_of path_data x)
path_found None h = (None, refl)
path_found (Some d) h = let g = h d refl in (Some g.0, ap some g.1)
  where
    some : Data → Option Data
    some v = Some v

number_found : (o : Option Data) → ((d : Data) → o ≡ Some d → (n : ℕ) × (d ≡ number_data u32 n)) → (x : Option ℕ) × (o ≡ some_of (number_data u32) x)
number_found None h = (None, refl)
number_found (Some d) h = let g = h d refl in (Some g.0, ap some g.1)
  where
    some : Data → Option Data
    some v = Some v

made : (bytes : List ℕ) (found : Found) (values : List Data) → GoodFound found → (e : Envelope) × Describes e bytes found values
made bytes found values good =
    let p = path_found found.path (λ d is. (let g = good Path d is in (g.0, g.1))) in
    let i = text_found found.interface (λ d is. (let g = good Interface d is in (g.0, g.1))) in
    let m = text_found found.member (λ d is. (let g = good Member d is in (g.0, g.1))) in
    let x = text_found found.error (λ d is. (let g = good Error d is in (g.0, g.1))) in
    let r = number_found found.reply (λ d is. (let g = good Reply d is in (g.0, g.1))) in
    let t = text_found found.destination (λ d is. (let g = good Destination d is in (g.0, g.1))) in
    let s = text_found found.sender (λ d is. (let g = good Sender d is in (g.0, g.1))) in (
      record { order = order_in bytes; kind = type_in bytes; flags = byte_in (input_in bytes) 2; serial = serial_in bytes; path = p.0; interface = i.0; member = m.0; error = x.0; reply = r.0; destination = t.0; sender = s.0; body = values },
      record { order = refl; kind = refl; flags = refl; serial = refl; path = p.1; interface = i.1; member = m.1; error = x.1; reply = r.1; destination = t.1; sender = s.1; body = refl },
    )

one_message : (bytes : List ℕ) (found : Found) (values : List Data) → IsBytes bytes → length_in (take 16 bytes) ≡ length bytes → IsSoundFront (take 16 bytes) → message_at bytes ≡ Ok (found, values) → HasOneMessage bytes
one_message bytes found values h long front e =
    let w = whole_from bytes long in
    let laws = read_laws (input_in bytes) h in
    let r = message_read bytes found values laws w e in
    let m = made bytes found values r.good in
    record {
      message = m.0;
      is = message_sound bytes m.0 found values laws h (sound_from bytes front) w m.1 e;
      one = λ d is. (let c = message_complete bytes d laws is in read_once bytes d m.0 c.found found d.body values c.read_ e c.describes m.1);
      faultless = λ place reason fault. faulty place reason fault;
    }
  where
    faulty : (place reason : ℕ) → FirstFault bytes place reason → ⊥
    faulty place reason (inl early) = none_in_front (take 16 bytes) place reason front early.there
    faulty place reason (inr late) = (let t = first_told bytes place reason h (whole_from bytes long) late.1 in let clash = sym e ∙ t.1 in cc)

late_fault : (bytes : List ℕ) (f : Fault) → IsBytes bytes → length_in (take 16 bytes) ≡ length bytes → IsSoundFront (take 16 bytes) → message_at bytes ≡ Err f → HasOneFault bytes
late_fault bytes f h long front e =
    let first = told_first bytes f h (whole_from bytes long) e in
    record {
      place = f.place;
      reason = f.reason;
      is = inr (front, first);
      one = λ q s other. same q s first other;
      no_message = λ d is. (let c = message_complete bytes d (read_laws (input_in bytes) h) is in let clash = sym e ∙ c.read_ in cc);
    }
  where
    same : (q s : ℕ) → IsFirst (WrongMessage bytes) f.place f.reason → FirstFault bytes q s → (q ≡ f.place) × (s ≡ f.reason)
    same q s first (inl early) = absurd (none_in_front (take 16 bytes) q s front early.there)
    same q s first (inr late) = both_before q s f.place f.reason (late.1.first f.place f.reason first.there) (first.first q s late.1.there)

early_fault : (bytes : List ℕ) (f : Fault) → IsBytes bytes → IsFirst (WrongFront (take 16 bytes)) f.place f.reason → HasOneFault bytes
early_fault bytes f h first = record {
  place = f.place;
  reason = f.reason;
  is = inl first;
  one = λ q s other. same q s other;
  no_message = λ d is. (let c = message_complete bytes d (read_laws (input_in bytes) h) is in none_in_front (take 16 bytes) f.place f.reason (sound_to bytes c.sound) first.there);
}
  where
    same : (q s : ℕ) → FirstFault bytes q s → (q ≡ f.place) × (s ≡ f.reason)
    same q s (inl early) = both_before q s f.place f.reason (early.first f.place f.reason first.there) (first.first q s early.there)
    same q s (inr late) = absurd (none_in_front (take 16 bytes) f.place f.reason late.0 first.there)

pub one_reading : (bytes : List ℕ) → IsBytes bytes → length_in (take 16 bytes) ≡ length bytes → HasOneMessage bytes ⊎ HasOneFault bytes
one_reading bytes h long = by (front_in (take 16 bytes)) refl
  where
    behind : IsSoundFront (take 16 bytes) → (r : Result (Found × List Data) Fault) → message_at bytes ≡ r → HasOneMessage bytes ⊎ HasOneFault bytes
    behind front (Ok x) e = inl (one_message bytes x.0 x.1 h long front e)
    behind front (Err f) e = inr (late_fault bytes f h long front e)

    by : (r : Result ℕ Fault) → r ≡ front_in (take 16 bytes) → HasOneMessage bytes ⊎ HasOneFault bytes
    by (Ok n) e = behind (front_sound (take 16 bytes) n e) (message_at bytes) refl
    by (Err f) e = inr (early_fault bytes f h (front_first (take 16 bytes) (Err f) e))
