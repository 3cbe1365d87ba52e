-- Bytes of a stream await more, begin with a message or have a fault, and in one way alone.
use Rattle.std.proofs.Common.{◌≡◌, ℕ, ◌+◌, ◌<◌, ◌≤◌, List, [], ◌∷◌, ◌++◌, length, take, drop, Result, Ok, Err, refl, sym, ap, subst, ◌∙◌, arith, inl, inr, ◌⊎◌, append_assoc}
use Rattle.std.proofs.lemmas.Bool.{cases_lt}
use Rattle.std.proofs.lemmas.List.{length-append, length-take-le, take_at, drop_at, take-take, take-append-le, take-append-drop, get_or-drop}
use Rattle.atspi_types.specs.declared.fault.Fault.{Fault}
use Rattle.atspi_marshal.proofs.Places.{IsBytes, IsBytes-slice}
use Rattle.atspi_message.specs.Envelope.{Envelope}
use Rattle.atspi_message.specs.Bytes.{IsMessage}
use Rattle.atspi_message.specs.Front.{length_in, front_in, WrongFront, IsFirst, IsSoundFront}
use Rattle.atspi_message.specs.Faults.{FirstFault}
use Rattle.atspi_message.specs.Laws.{HasOneMessage, HasOneFault}
use Rattle.atspi_message.proofs.IsSpelled.{front_is}
use Rattle.atspi_message.proofs.FrontLaws.{front_first, front_sound, same_length, sound_to}
use Rattle.atspi_message.proofs.ParsingLaws.{none_in_front, both_before}
use Rattle.atspi_message.proofs.OneReading.{one_reading}
use Rattle.atspi_stream.specs.Stream.{stated, first_bytes, AwaitsMore, few, unfinished, HasFault, in_front, behind, BeginsWithMessage, AreMessages, bytes_of}
use Rattle.atspi_stream.specs.Laws.{IsAtFault, HasOneAnswer}

-- the first bytes of a message state its length
pub record Stated (bytes : List ℕ) : Type 0 where
  pub long : 16 ≤ length bytes
  pub sound : IsSoundFront (take 16 bytes)
  pub whole : stated bytes ≡ length bytes

pub message_states : (e : Envelope) (bytes : List ℕ) → IsMessage e bytes → Stated bytes
message_states e bytes m =
    let f = front_is bytes e m.fields m.meets m.fits m.spelled in
    record { long = f.whole.long; sound = sound_to bytes f.sound; whole = same_length bytes ∙ f.whole.whole }

-- where a message begins some bytes, it is made of as many as they state
pub record Begun (held bytes rest : List ℕ) : Type 0 where
  pub long : 16 ≤ length held
  pub some : 16 ≤ length bytes
  pub sound : IsSoundFront (take 16 held)
  pub whole : stated held ≡ length bytes
  pub enough : stated held ≤ length held
  pub bytes_are : first_bytes held ≡ bytes
  pub rest_is : rest ≡ drop (stated held) held

pub begun : (e : Envelope) (held bytes rest : List ℕ) → IsMessage e bytes → held ≡ bytes ++ rest → Begun held bytes rest
begun e held bytes rest m is =
    let s = message_states e bytes m in
    let front : take 16 held ≡ take 16 bytes = ap (λ (bs : List ℕ). take 16 bs) is ∙ take-append-le 16 bytes rest s.long in
    let whole : stated held ≡ length bytes = ap length_in front ∙ s.whole in
    record {
      long = omega (arith, s.long, ap length is, length-append bytes rest);
      some = s.long;
      sound = subst IsSoundFront (sym front) s.sound;
      whole = whole;
      enough = omega (arith, whole, ap length is, length-append bytes rest);
      bytes_are = ap (λ (bs : List ℕ). take (stated held) bs) is ∙ take_at bytes rest (stated held) (sym whole);
      rest_is = sym (ap (λ (bs : List ℕ). drop (stated held) bs) is ∙ drop_at bytes rest (stated held) (sym whole));
    }

-- the first 16 bytes are sound or have a first fault
pub front_cases : (bytes : List ℕ) → IsSoundFront bytes ⊎ ((f : Fault) × IsFirst (WrongFront bytes) f.place f.reason)
front_cases bytes = by (front_in bytes) refl
  where
    by : (r : Result ℕ Fault) → r ≡ front_in bytes → IsSoundFront bytes ⊎ ((f : Fault) × IsFirst (WrongFront bytes) f.place f.reason)
    by (Ok n) e = inl (front_sound bytes n e)
    by (Err f) e = inr (f, front_first bytes (Err f) e)

-- as many bytes as are stated are one message or have one first fault
pub reading : (held : List ℕ) → IsBytes held → stated held ≤ length held → HasOneMessage (first_bytes held) ⊎ HasOneFault (first_bytes held)
reading held h enough = one_reading (first_bytes held) (IsBytes-slice 0 (stated held) held h)
    (ap length_in (take-take 16 (stated held) held (omega arith)) ∙ sym (length-take-le (stated held) held enough))

whole_first : (held : List ℕ) → HasOneMessage (first_bytes held) → BeginsWithMessage held
whole_first held m = record { envelope = m.message; bytes = first_bytes held; rest = drop (stated held) held; is = m.is; front = sym (take-append-drop (stated held) held) }

some_answer : (held : List ℕ) → IsBytes held → AwaitsMore held ⊎ (BeginsWithMessage held ⊎ IsAtFault held)
some_answer held h = by_length (cases_lt (length held) 16)
  where
    whole : 16 ≤ length held → IsSoundFront (take 16 held) → stated held ≤ length held → HasOneMessage (first_bytes held) ⊎ HasOneFault (first_bytes held) → AwaitsMore held ⊎ (BeginsWithMessage held ⊎ IsAtFault held)
    whole long sound enough (inl m) = inr (inl (whole_first held m))
    whole long sound enough (inr f) = inr (inr (record { place = f.place; reason = f.reason; is = behind long sound enough f.is }))

    by_stated : 16 ≤ length held → IsSoundFront (take 16 held) → (length held < stated held) ⊎ (stated held ≤ length held) → AwaitsMore held ⊎ (BeginsWithMessage held ⊎ IsAtFault held)
    by_stated long sound (inl short) = inl (unfinished long sound short)
    by_stated long sound (inr enough) = whole long sound enough (reading held h enough)

    by_front : 16 ≤ length held → IsSoundFront (take 16 held) ⊎ ((f : Fault) × IsFirst (WrongFront (take 16 held)) f.place f.reason) → AwaitsMore held ⊎ (BeginsWithMessage held ⊎ IsAtFault held)
    by_front long (inl sound) = by_stated long sound (cases_lt (length held) (stated held))
    by_front long (inr wrong) = inr (inr (record { place = wrong.0.place; reason = wrong.0.reason; is = in_front long wrong.1 }))

    by_length : (length held < 16) ⊎ (16 ≤ length held) → AwaitsMore held ⊎ (BeginsWithMessage held ⊎ IsAtFault held)
    by_length (inl short) = inl (few short)
    by_length (inr long) = by_front long (front_cases (take 16 held))

no_message_yet : (held : List ℕ) → AwaitsMore held → BeginsWithMessage held → ⊥
no_message_yet held (few short) m = let b = begun m.envelope held m.bytes m.rest m.is m.front in omega (arith, b.long, short)
no_message_yet held (unfinished long sound short) m = let b = begun m.envelope held m.bytes m.rest m.is m.front in omega (arith, b.enough, short)

no_fault_yet : (held : List ℕ) (place reason : ℕ) → AwaitsMore held → HasFault held place reason → ⊥
no_fault_yet held place reason (few short) (in_front long is) = omega (arith, long, short)
no_fault_yet held place reason (few short) (behind long sound enough is) = omega (arith, long, short)
no_fault_yet held place reason (unfinished long sound short) (in_front long' is) = none_in_front (take 16 held) place reason sound is.there
no_fault_yet held place reason (unfinished long sound short) (behind long' sound' enough is) = omega (arith, enough, short)

no_fault_in : (held : List ℕ) → IsBytes held → (place reason : ℕ) → BeginsWithMessage held → HasFault held place reason → ⊥
no_fault_in held h place reason m (in_front long is) = let b = begun m.envelope held m.bytes m.rest m.is m.front in none_in_front (take 16 held) place reason b.sound is.there
no_fault_in held h place reason m (behind long sound enough is) = by (reading held h enough)
  where
    by : HasOneMessage (first_bytes held) ⊎ HasOneFault (first_bytes held) → ⊥
    by (inl one) = one.faultless place reason is
    by (inr fault) =
        let b = begun m.envelope held m.bytes m.rest m.is m.front in
        fault.no_message m.envelope (subst (λ (bs : List ℕ). IsMessage m.envelope bs) (sym b.bytes_are) m.is)

pub one_first : (held : List ℕ) → IsBytes held → (m n : BeginsWithMessage held) → (m.envelope ≡ n.envelope) × (m.bytes ≡ n.bytes) × (m.rest ≡ n.rest)
one_first held h m n =
    let a = begun m.envelope held m.bytes m.rest m.is m.front in
    let b = begun n.envelope held n.bytes n.rest n.is n.front in (
      by (subst (λ (bs : List ℕ). IsMessage m.envelope bs) (sym a.bytes_are) m.is) (subst (λ (bs : List ℕ). IsMessage n.envelope bs) (sym b.bytes_are) n.is) (reading held h a.enough),
      sym a.bytes_are ∙ b.bytes_are,
      a.rest_is ∙ sym b.rest_is,
    )
  where
    by : IsMessage m.envelope (first_bytes held) → IsMessage n.envelope (first_bytes held) → HasOneMessage (first_bytes held) ⊎ HasOneFault (first_bytes held) → m.envelope ≡ n.envelope
    by p q (inl one) = one.one m.envelope p ∙ sym (one.one n.envelope q)
    by p q (inr fault) = absurd (fault.no_message m.envelope p)

one_fault_first : (held : List ℕ) → IsBytes held → (p r q s : ℕ) → HasFault held p r → HasFault held q s → (p ≡ q) × (r ≡ s)
one_fault_first held h p r q s (in_front long is) (in_front long' is') = both_before p r q s (is.first q s is'.there) (is'.first p r is.there)
one_fault_first held h p r q s (in_front long is) (behind long' sound enough is') = absurd (none_in_front (take 16 held) p r sound is.there)
one_fault_first held h p r q s (behind long sound enough is) (in_front long' is') = absurd (none_in_front (take 16 held) q s sound is'.there)
one_fault_first held h p r q s (behind long sound enough is) (behind long' sound' enough' is') = by (reading held h enough)
  where
    by : HasOneMessage (first_bytes held) ⊎ HasOneFault (first_bytes held) → (p ≡ q) × (r ≡ s)
    by (inl one) = absurd (one.faultless p r is)
    by (inr fault) = let a = fault.one p r is in let b = fault.one q s is' in (a.0 ∙ sym b.0, a.1 ∙ sym b.1)

pub one_answer : (held : List ℕ) → IsBytes held → HasOneAnswer held
one_answer held h = record {
  some = some_answer held h;
  waits_without_message = no_message_yet held;
  waits_without_fault = λ w f. no_fault_yet held f.place f.reason w f.is;
  message_without_fault = λ m f. no_fault_in held h f.place f.reason m f.is;
  one_message = one_first held h;
  one_fault = one_fault_first held h;
}

-- what is fed behind a fault changes nothing of it

same_front : (held more : List ℕ) → 16 ≤ length held → take 16 (held ++ more) ≡ take 16 held
same_front held more long = take-append-le 16 held more long

pub fault_stays : (held more : List ℕ) (place reason : ℕ) → HasFault held place reason → HasFault (held ++ more) place reason
fault_stays held more place reason (in_front long is) =
    in_front (omega (arith, long, length-append held more)) (subst (λ (bs : List ℕ). IsFirst (WrongFront bs) place reason) (sym (same_front held more long)) is)
fault_stays held more place reason (behind long sound enough is) =
    let front = same_front held more long in
    let same : stated (held ++ more) ≡ stated held = ap length_in front in
    let bytes : first_bytes (held ++ more) ≡ first_bytes held = ap (λ (n : ℕ). take n (held ++ more)) same ∙ take-append-le (stated held) held more enough in
    behind (omega (arith, long, length-append held more)) (subst IsSoundFront (sym front) sound) (omega (arith, same, enough, length-append held more))
    (subst (λ (bs : List ℕ). FirstFault bs place reason) (sym bytes) is)

-- the messages do not depend on the cuts

rest_bytes : (bytes front rest : List ℕ) → IsBytes bytes → bytes ≡ front ++ rest → IsBytes rest
rest_bytes bytes front rest h e i =
    let d : drop (length front) bytes ≡ rest = ap (λ (bs : List ℕ). drop (length front) bs) e ∙ drop_at front rest (length front) refl in
    let P : List ℕ → Type 0 = λ bs. IsBytes bs in
    subst P d (λ k. rw get_or-drop (h (length front + k))) i

abbrev pub begins_with : (m : Envelope × List ℕ) (rest held : List ℕ) → IsMessage m.0 m.1 → held ≡ m.1 ++ rest → BeginsWithMessage held
begins_with m rest held is e = record { envelope = m.0; bytes = m.1; rest = rest; is = is; front = e }

pub one_parting : (bytes : List ℕ) (given found : List (Envelope × List ℕ)) (rest more : List ℕ) → IsBytes bytes → AreMessages given → bytes ≡ bytes_of given ++ rest → (BeginsWithMessage rest → ⊥) → AreMessages found
    → bytes ≡ bytes_of found ++ more → (BeginsWithMessage more → ⊥) → (given ≡ found) × (rest ≡ more)
one_parting bytes [] [] rest more h a p none b q none' = (refl, sym p ∙ q)
one_parting bytes [] (m ∷ ms) rest more h a p none b q none' =
    absurd (none (begins_with m (bytes_of ms ++ more) rest b.0 (sym p ∙ q ∙ append_assoc m.1 (bytes_of ms) more)))
one_parting bytes (m ∷ ms) [] rest more h a p none b q none' =
    absurd (none' (begins_with m (bytes_of ms ++ rest) more a.0 (sym q ∙ p ∙ append_assoc m.1 (bytes_of ms) rest)))
one_parting bytes (m ∷ ms) (n ∷ ns) rest more h a p none b q none' =
    let p' : bytes ≡ m.1 ++ (bytes_of ms ++ rest) = p ∙ append_assoc m.1 (bytes_of ms) rest in
    let q' : bytes ≡ n.1 ++ (bytes_of ns ++ more) = q ∙ append_assoc n.1 (bytes_of ns) more in
    let same = one_first bytes h (begins_with m (bytes_of ms ++ rest) bytes a.0 p') (begins_with n (bytes_of ns ++ more) bytes b.0 q') in
    let later = one_parting (bytes_of ms ++ rest) ms ns rest more (rest_bytes bytes m.1 (bytes_of ms ++ rest) h p') a.1 refl none b.1 same.2 none' in
    (both m n ms ns same.0 same.1 later.0, later.1)
  where
    pair : Envelope → List ℕ → Envelope × List ℕ
    pair e bs = (e, bs)

    both : (m n : Envelope × List ℕ) (ms ns : List (Envelope × List ℕ)) → m.0 ≡ n.0 → m.1 ≡ n.1 → ms ≡ ns → (m ∷ ms) ≡ (n ∷ ns)
    both m n ms ns e f g = let one : pair m.0 m.1 ≡ pair n.0 n.1 = rw (e, f) refl in ap (λ (x : Envelope × List ℕ). x ∷ ms) one ∙ ap (λ (xs : List (Envelope × List ℕ)). n ∷ xs) g

-- where the first 16 bytes have a fault no more are awaited
pub front_not_awaited : (held : List ℕ) (place reason : ℕ) → 16 ≤ length held → IsFirst (WrongFront (take 16 held)) place reason → AwaitsMore held → ⊥
front_not_awaited held place reason long is (few short) = omega (arith, long, short)
front_not_awaited held place reason long is (unfinished long' sound short) = none_in_front (take 16 held) place reason sound is.there
