-- What parsing gives is the message of the bytes, or their first fault.
use Rattle.std.proofs.Common.{◌≡◌, ℕ, zero, suc, ◌+◌, ◌<◌, ◌≤◌, List, [], ◌∷◌, ◌++◌, length, take, Option, Some, None, Result, Ok, Err, refl, sym, ap, subst, ◌∙◌, arith, inl, inr, ◌⊎◌, append_assoc}
use Rattle.std.specs.Prelude.{◌≢◌, IfOk, if◌then◌else◌}
use Rattle.std.proofs.lemmas.List.{length-append}
use Rattle.atspi_types.specs.Kinds.{u32}
use Rattle.atspi_types.specs.Data.{Data, number_data, text_data, path_data}
use Rattle.atspi_types.specs.SignatureFaults.{Before}
use Rattle.atspi_types.specs.declared.fault.Order.{Order}
use Rattle.atspi_types.specs.declared.fault.Fault.{Fault}
use Rattle.atspi_types.specs.declared.fault.ReadFault.{ReadFault}
use Rattle.atspi_types.specs.declared.fault.ReadFault.TheVariants as faults
use Rattle.atspi_marshal.proofs.Places.{IsBytes, done, ok_is}
use Rattle.atspi_message.specs.declared.message.Message.{Message}
use Rattle.atspi_message.specs.Envelope.{Envelope, envelope_of}
use Rattle.atspi_message.specs.Bytes.{IsMessage}
use Rattle.atspi_message.specs.Front.{order_in, input_in, type_in, fields_end_in, length_in, WrongFront, no_order, no_type, no_version, too_long, no_serial, fields_too_long, IsFirst, IsSoundFront}
use Rattle.atspi_message.specs.Faults.{WrongMessage, FirstFault}
use Rattle.atspi_marshal.specs.Reading.{◌>>=◌}
use Rattle.atspi_message.specs.inner.Reading.{Found, none_found, some_of, all_fields_at, rest_at, has_required, missing_at, with_found, ended_at, message_at, Describes}
use Rattle.atspi_message.specs.Parsing.{TellsFirst, IsMessageOrNoMemory, IsFaultOrNoMemory, IsRead, Reads}
use Rattle.atspi_message.proofs.Told.{ReadLaws, failed, err_is}
use Rattle.atspi_message.proofs.FieldFaults.{TellsBy}
use Rattle.atspi_message.proofs.Rest.{IsWhole}
use Rattle.atspi_message.proofs.Whole.{message_told, message_least}
use Rattle.atspi_message.proofs.IsRead.{message_sound}
use Rattle.atspi_message.proofs.IsSpelled.{IsReadAs, message_complete}
use Rattle.atspi_message.proofs.FrontLaws.{same_length, sound_from, sound_to}
use Rattle.atspi_message.proofs.ReadingLaws.{read_laws}

pub whole_from : (bytes : List ℕ) → length_in (take 16 bytes) ≡ length bytes → IsWhole bytes
whole_from bytes e = record { long = omega (arith, e); whole = sym (same_length bytes) ∙ e }

-- one message is described
some_same : {A : Type 0} (view : A → Data) → ((x y : A) → view x ≡ view y → x ≡ y) → (o p : Option A) → some_of view o ≡ some_of view p → o ≡ p
some_same view one (Some x) (Some y) e = let both : view x ≡ view y = cc in ap some (one x y both)
  where
    some : {A : Type 0} → A → Option A
    some z = Some z
some_same view one (Some x) None e = absurd cc
some_same view one None (Some y) e = absurd cc
some_same view one None None e = refl

one_path : (x y : List ℕ) → path_data x ≡ path_data y → x ≡ y
one_path x y e = cc

one_text : (x y : List ℕ) → text_data x ≡ text_data y → x ≡ y
one_text x y e = cc

one_number : (x y : ℕ) → number_data u32 x ≡ number_data u32 y → x ≡ y
one_number x y e = cc

envelopes : (e d : Envelope) → e.order ≡ d.order → e.kind ≡ d.kind → e.flags ≡ d.flags → e.serial ≡ d.serial → e.path ≡ d.path → e.interface ≡ d.interface → e.member ≡ d.member → e.error ≡ d.error → e.reply ≡ d.reply
    → e.destination ≡ d.destination → e.sender ≡ d.sender → e.body ≡ d.body → e ≡ d
envelopes e d a b c f g h i j k l m n = made e.order d.order e.kind d.kind e.flags d.flags e.serial d.serial e.path d.path e.interface d.interface e.member d.member e.error d.error e.reply d.reply e.destination d.destination e.sender d.sender e.body d.body a b c f g h i j k l m n
  where
    whole : Order → ℕ → ℕ → ℕ → Option (List ℕ) → Option (List ℕ) → Option (List ℕ) → Option (List ℕ) → Option ℕ → Option (List ℕ) → Option (List ℕ) → List Data → Envelope
    whole o k f s p i m e r t u b = record { order = o; kind = k; flags = f; serial = s; path = p; interface = i; member = m; error = e; reply = r; destination = t; sender = u; body = b }

    made : (o o' : Order) (k k' f f' s s' : ℕ) (p p' i i' m m' e e' : Option (List ℕ)) (r r' : Option ℕ) (t t' u u' : Option (List ℕ)) (b b' : List Data)
        → o ≡ o' → k ≡ k' → f ≡ f' → s ≡ s' → p ≡ p' → i ≡ i' → m ≡ m' → e ≡ e' → r ≡ r' → t ≡ t' → u ≡ u' → b ≡ b' → whole o k f s p i m e r t u b ≡ whole o' k' f' s' p' i' m' e' r' t' u' b'
    made o o' k k' f f' s s' p p' i i' m m' e e' r r' t t' u u' b b' q1 q2 q3 q4 q5 q6 q7 q8 q9 q10 q11 q12 = rw (q1, q2, q3, q4, q5, q6, q7, q8, q9, q10, q11, q12) refl

pub one_described : (bytes : List ℕ) (e d : Envelope) (found : Found) (values : List Data) → Describes e bytes found values → Describes d bytes found values → e ≡ d
one_described bytes e d found values p q = envelopes e d (p.order ∙ sym q.order) (p.kind ∙ sym q.kind) (p.flags ∙ sym q.flags) (p.serial ∙ sym q.serial)
    (some_same path_data one_path e.path d.path (sym p.path ∙ q.path)) (some_same text_data one_text e.interface d.interface (sym p.interface ∙ q.interface))
    (some_same text_data one_text e.member d.member (sym p.member ∙ q.member)) (some_same text_data one_text e.error d.error (sym p.error ∙ q.error))
    (some_same (number_data u32) one_number e.reply d.reply (sym p.reply ∙ q.reply)) (some_same text_data one_text e.destination d.destination (sym p.destination ∙ q.destination))
    (some_same text_data one_text e.sender d.sender (sym p.sender ∙ q.sender)) (sym p.body ∙ q.body)

pair_is : (f g : Found) (ds es : List Data) → done {A = Found × List Data} (f, ds) ≡ Ok (g, es) → (f ≡ g) × (ds ≡ es)
pair_is f g ds es e = let pair = ok_is {A = Found × List Data} (f, ds) (g, es) e in (ap (λ (x : Found × List Data). x.0) pair, ap (λ (x : Found × List Data). x.1) pair)

-- two messages that are read from the same bytes are one
pub read_once : (bytes : List ℕ) (e d : Envelope) (f g : Found) (ds es : List Data) → message_at bytes ≡ Ok (f, ds) → message_at bytes ≡ Ok (g, es) → Describes e bytes f ds → Describes d bytes g es → e ≡ d
read_once bytes e d f g ds es p q a b =
    let same = pair_is f g ds es (sym p ∙ q) in
    let D : Found → Type 0 = λ h. Describes e bytes h ds in
    let E : List Data → Type 0 = λ hs. Describes e bytes g hs in
    one_described bytes e d g es (subst E same.1 (subst D same.0 a)) b

-- a sound front has no fault
pub none_in_front : (bytes : List ℕ) (q s : ℕ) → IsSoundFront bytes → WrongFront bytes q s → ⊥
none_in_front bytes q s f (no_order h g) = g (f.ordered h)
none_in_front bytes q s f (no_type h) = f.typed h
none_in_front bytes q s f (no_version h) = h f.version
none_in_front bytes q s f (too_long h) = omega (arith, h, f.short)
none_in_front bytes q s f (no_serial h) = f.numbered h
none_in_front bytes q s f (fields_too_long h) = omega (arith, h, f.fields)

pub both_before : (p r q s : ℕ) → Before p r q s → Before q s p r → (p ≡ q) × (r ≡ s)
both_before p r q s (inl a) (inl b) = absurd (omega (arith, a, b))
both_before p r q s (inl a) (inr b) = absurd (omega (arith, a, b.0))
both_before p r q s (inr a) (inl b) = absurd (omega (arith, a.0, b))
both_before p r q s (inr a) (inr b) = (a.0, omega (arith, a.1, b.1))

-- the fault that is told is the first
pub told_first : (bytes : List ℕ) (f : Fault) → IsBytes bytes → IsWhole bytes → message_at bytes ≡ Err f → IsFirst (WrongMessage bytes) f.place f.reason
told_first bytes f h w e =
    let laws = read_laws (input_in bytes) h in
    record { there = message_told bytes f laws w e; first = λ q s wrong. before q s (message_least bytes q s laws w wrong) }
  where
    before : (q s : ℕ) → TellsBy (message_at bytes) q s → Before f.place f.reason q s
    before q s t = let who : t.0 ≡ f = err_is t.0 f (sym t.1 ∙ e) in subst (λ (g : Fault). Before g.place g.reason q s) who t.2

pub first_told : (bytes : List ℕ) (place reason : ℕ) → IsBytes bytes → IsWhole bytes → IsFirst (WrongMessage bytes) place reason → (f : Fault) × (message_at bytes ≡ Err f) × (f.place ≡ place) × (f.reason ≡ reason)
first_told bytes place reason h w is =
    let laws = read_laws (input_in bytes) h in
    let t = message_least bytes place reason laws w is.there in
    let same = both_before t.0.place t.0.reason place reason t.2 (is.first t.0.place t.0.reason (message_told bytes t.0 laws w t.1)) in
    (t.0, t.1, same.0, same.1)

-- the clauses of parse

pub parse_found : (bytes : List ℕ) (r : Result Message ReadFault) → IsBytes bytes → length_in (take 16 bytes) ≡ length bytes → IsSoundFront (take 16 bytes) → Reads r bytes → IfOk r (λ m. IsMessage (envelope_of m) bytes)
parse_found bytes (Ok m) h long front is = message_sound bytes (envelope_of m) is.found is.values (read_laws (input_in bytes) h) h (sound_from bytes front) (whole_from bytes long) is.describes is.read_
parse_found bytes (Err e) h long front is = tt

pub parse_only : (bytes : List ℕ) (r : Result Message ReadFault) → IsBytes bytes → Reads r bytes → (e : Envelope) → IsMessage e bytes → IsMessageOrNoMemory r e
parse_only bytes (Ok m) h is e message =
    let c = message_complete bytes e (read_laws (input_in bytes) h) message in
    read_once bytes (envelope_of m) e is.found c.found is.values e.body is.read_ c.read_ is.describes c.describes
parse_only bytes (Err (faults.Bad f)) h is e message = (let c = message_complete bytes e (read_laws (input_in bytes) h) message in let clash = sym is ∙ c.read_ in cc)
parse_only bytes (Err faults.NoMemory) h is e message = tt

pub parse_first : (bytes : List ℕ) (r : Result Message ReadFault) → IsBytes bytes → length_in (take 16 bytes) ≡ length bytes → IsSoundFront (take 16 bytes) → Reads r bytes → TellsFirst r bytes
parse_first bytes (Ok m) h long front is = tt
parse_first bytes (Err (faults.Bad f)) h long front is = inr (front, told_first bytes f h (whole_from bytes long) is)
parse_first bytes (Err faults.NoMemory) h long front is = tt

pub parse_told : (bytes : List ℕ) (r : Result Message ReadFault) → IsBytes bytes → length_in (take 16 bytes) ≡ length bytes → IsSoundFront (take 16 bytes) → Reads r bytes → (place reason : ℕ) → FirstFault bytes place reason → IsFaultOrNoMemory r place reason
parse_told bytes r h long front is place reason (inl early) = absurd (none_in_front (take 16 bytes) place reason front early.there)
parse_told bytes (Ok m) h long front is place reason (inr late) = (let t = first_told bytes place reason h (whole_from bytes long) late.1 in let clash = sym is.read_ ∙ t.1 in cc)
parse_told bytes (Err (faults.Bad f)) h long front is place reason (inr late) =
    let t = first_told bytes place reason h (whole_from bytes long) late.1 in
    let who : t.0 ≡ f = err_is t.0 f (sym t.1 ∙ is) in
    let P : Fault → Type 0 = λ g. (g.place ≡ place) × (g.reason ≡ reason) in
    subst P who (t.2, t.3)
parse_told bytes (Err faults.NoMemory) h long front is place reason (inr late) = tt

-- the two steps of reading a message
pub made_from : (bytes : List ℕ) (o : Order) (end : ℕ) (found : Found) (values : List Data) → o ≡ order_in bytes → end ≡ fields_end_in bytes
    → all_fields_at (record { order = o; bytes = bytes }) (record { end = end; reason = 18 }) end none_found 16 ≡ Ok found
    → (if has_required (type_in bytes) found then rest_at bytes found else missing_at (fields_end_in bytes) (rest_at bytes found)) ≡ Ok values → message_at bytes ≡ Ok (found, values)
unfolding message_at ended_at
made_from bytes o end found values order_is end_is fields rest =
    let E : ℕ → Type 0 = λ n. all_fields_at (input_in bytes) (record { end = n; reason = 18 }) n none_found 16 ≡ Ok found in
    let O : Order → Type 0 = λ p. all_fields_at (record { order = p; bytes = bytes }) (record { end = end; reason = 18 }) end none_found 16 ≡ Ok found in
    ap (λ (r : Result Found Fault). r >>= ended_at bytes) (subst E end_is (subst O order_is fields)) ∙ ap (λ (r : Result (List Data) Fault). r >>= with_found found) rest
