-- Bytes are an item or a fault, and what is written is read.
use Rattle.std.proofs.Common.{◌≡◌, ℕ, ◌<◌, ◌≤◌, List, ◌++◌, length, Result, Ok, Err, refl, sym, ap, subst, ◌∙◌, arith, ◌⊎◌, inl, inr}
use Rattle.std.specs.Int.{w32}
use Rattle.atspi_types.specs.Kinds.{Kind, array, IsLawful}
use Rattle.atspi_types.specs.Data.{Data, array_data, items_of, types_of}
use Rattle.atspi_types.specs.declared.fault.Order.{Order}
use Rattle.atspi_types.specs.declared.fault.Order.TheVariants.{Little, Big}
use Rattle.atspi_types.specs.declared.fault.Fault.{Fault}
use Rattle.atspi_types.specs.SignatureFaults.{Before}
use Rattle.atspi_marshal.specs.Input.{whole, to_end, number_bytes}
use Rattle.atspi_marshal.specs.Spelling.{padding, spelling}
use Rattle.atspi_marshal.specs.Faults.{FaultAt}
use Rattle.atspi_marshal.specs.Reading.{decoded}
use Rattle.atspi_marshal.proofs.Places.{IsBytes, IsValid, ok_is}
use Rattle.atspi_marshal.proofs.Sound.{IsSound-read}
use Rattle.atspi_marshal.proofs.Complete.{IsComplete-read}
use Rattle.atspi_marshal.proofs.There.{IsThere-read}
use Rattle.atspi_marshal.proofs.Least.{IsLeast-read}
use Rattle.atspi_message.specs.Envelope.{Envelope}
use Rattle.atspi_message.specs.Rules.{MeetsRules, HasNames}
use Rattle.atspi_message.specs.Bytes.{FitsWire, IsMessage, field_kind, field_items, order_byte, body_place, body_bytes, header_bytes, spelled_with, rising_fields, written}
use Rattle.atspi_message.specs.Laws.{HasOneMessage, HasOneFault as one_fault}
use Rattle.atspi_message.proofs.ParsingLaws.{both_before}
use Rattle.atspi_message.proofs.FrontLaws.{same_length, sound_to}
use Rattle.atspi_message.proofs.IsSpelled.{front_is}
use Rattle.atspi_message.proofs.OneReading.{one_reading}
use Rattle.atspi_message.proofs.Rising.{written_is}
use Rattle.atspi_message_forwarding.proofs.OfReadings.SpelledBytes.{AreBytes, both, each_below, padding_are, number_are, spelled_bytes, fields_bytes}
use Rattle.atspi_message_forwarding.specs.readings.Readings.{IsValue, IsFaulty, HasOneValue, HasOneFault, IsAskedFor, IsReadBack}

abbrev Reading : Type 0
Reading = Result (Data × ℕ) Fault

abbrev read_as : Data × ℕ → Reading
read_as x = Ok x

abbrev failed : Fault → Reading
failed f = Err f

valid : (o : Order) (bytes : List ℕ) → IsValid (whole o bytes) (to_end bytes)
valid o bytes = record { long = omega arith; late = (omega arith, omega arith) }

never_both : (x : Data × ℕ) (f : Fault) → read_as x ≡ failed f → ⊥
never_both x f e = cc

same_fault : (f g : Fault) → failed f ≡ failed g → f ≡ g
same_fault f g e = cc

value_is : (o : Order) (bytes : List ℕ) (k : Kind) (at : ℕ) (x : Data × ℕ) → IsBytes bytes → IsLawful k → at ≤ length bytes → decoded o bytes k at ≡ Ok x → HasOneValue o bytes k at
value_is o bytes k at x h lawful low e = record {
  item = x.0;
  next = x.1;
  is = (IsSound-read (whole o bytes) 64 h k (to_end bytes) at x lawful (valid o bytes) e).is;
  one = same;
  faultless = λ place reason wrong. (let t = IsLeast-read (whole o bytes) 64 k (to_end bytes) at place reason lawful (valid o bytes) low wrong in never_both x t.told (sym e ∙ t.is));
}
  where
    same : (d : Data) (n : ℕ) → IsValue o bytes k at n d → (d ≡ x.0) × (n ≡ x.1)
    same d n is =
        let pair : (d, n) ≡ x = ok_is (d, n) x (sym (IsComplete-read (whole o bytes) 64 k (to_end bytes) at n d lawful (valid o bytes) is) ∙ e) in
        (ap (λ (p : Data × ℕ). p.0) pair, ap (λ (p : Data × ℕ). p.1) pair)

fault_is : (o : Order) (bytes : List ℕ) (k : Kind) (at : ℕ) (f : Fault) → IsBytes bytes → IsLawful k → at ≤ length bytes → decoded o bytes k at ≡ Err f → HasOneFault o bytes k at
fault_is o bytes k at f h lawful low e = record {
  place = f.place;
  reason = f.reason;
  is = first;
  one = λ q s other. both_before q s f.place f.reason (other.first f.place f.reason first.there) (first.first q s other.there);
  no_value = λ d n is. never_both (d, n) f (sym (IsComplete-read (whole o bytes) 64 k (to_end bytes) at n d lawful (valid o bytes) is) ∙ e);
}
  where
    before : (q s : ℕ) → IsFaulty o bytes k at q s → Before f.place f.reason q s
    before q s wrong =
        let t = IsLeast-read (whole o bytes) 64 k (to_end bytes) at q s lawful (valid o bytes) low wrong in
        let who : t.told ≡ f = same_fault t.told f (sym t.is ∙ e) in
        subst (λ (g : Fault). Before g.place g.reason q s) who t.before

    first : FaultAt (whole o bytes) 64 k (to_end bytes) at f.place f.reason
    first = record { there = IsThere-read (whole o bytes) 64 h k (to_end bytes) at f lawful (valid o bytes) low e; first = before }

pub one_value_or_fault : (o : Order) (bytes : List ℕ) (k : Kind) (at : ℕ) → IsBytes bytes → IsLawful k → at ≤ length bytes → HasOneValue o bytes k at ⊎ HasOneFault o bytes k at
one_value_or_fault o bytes k at h lawful low = by (decoded o bytes k at) refl
  where
    by : (r : Reading) → decoded o bytes k at ≡ r → HasOneValue o bytes k at ⊎ HasOneFault o bytes k at
    by (Ok x) e = inl (value_is o bytes k at x h lawful low e)
    by (Err f) e = inr (fault_is o bytes k at f h lawful low e)

pub asked_for : (e : Envelope) (bytes : List ℕ) → IsMessage e bytes → IsAskedFor bytes
asked_for e bytes m =
    let f = front_is bytes e m.fields m.meets m.fits m.spelled in
    record { sound = sound_to bytes f.sound; length = same_length bytes ∙ f.whole.whole }

order_small : (o : Order) → order_byte o < 256
order_small Little = omega arith
order_small Big = omega arith

-- what is written are bytes
written_bytes : (e : Envelope) → FitsWire e (rising_fields e) → AreBytes (written e)
unfolding spelled_with header_bytes body_bytes
written_bytes e fits =
    let o = e.order in
    let body = body_bytes e (rising_fields e) in
    let header = header_bytes e (rising_fields e) in
    let pad = padding 8 (length header) in
    let fields = spelling o 12 (array_data field_kind (field_items (rising_fields e))) in
    let count = number_bytes o w32 (length body) in
    let serial = number_bytes o w32 e.serial in
    let numbers = both count (serial ++ fields) (number_are o w32 (length body)) (both serial fields (number_are o w32 e.serial) (spelled_bytes o 64 12 (array_data field_kind (field_items (rising_fields e))) (array field_kind) fits.fields)) in
    let front : AreBytes header = (order_small o, (fits.kind, (fits.flags, (omega arith, numbers)))) in
    both header (pad ++ body) front (both pad body (padding_are 8 (length header)) (fields_bytes o 64 (body_place o (rising_fields e)) (items_of e.body) (types_of (items_of e.body)) fits.body))

pub read_back : (e : Envelope) → MeetsRules e → HasNames e → FitsWire e (rising_fields e) → IsReadBack e (written e)
read_back e meets named fits =
    let m = written_is e meets named fits in
    let a = asked_for e (written e) m in
    record { asked = a; message = m; one = by m (one_reading (written e) (each_below (written e) (written_bytes e fits)) a.length) }
  where
    by : IsMessage e (written e) → HasOneMessage (written e) ⊎ one_fault (written e) → (d : Envelope) → IsMessage d (written e) → d ≡ e
    by m (inl one) d is = one.one d is ∙ sym (one.one e m)
    by m (inr fault) d is = absurd (fault.no_message e m)
