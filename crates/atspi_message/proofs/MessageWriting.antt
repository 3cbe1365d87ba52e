-- Writing a whole message.
use Rattle.std.proofs.Common.{◌≡◌, ℕ, ◌+◌, ◌-◌, ◌<◌, ◌≤◌, List, [], ◌∷◌, ◌++◌, length, take, drop, Option, Some, None, Result, Ok, Err, refl, sym, ap, subst, ◌∙◌, append_assoc, arith}
use Rattle.std.specs.Prelude.{IsErrOf}
use Rattle.std.specs.Int.{w32}
use Rattle.std.proofs.lemmas.List.{length-append}
use Rattle.atspi_types.specs.Kinds.{Kind, number, text, path, u32, IsLawful}
use Rattle.atspi_types.specs.Data.{Data, number_data, text_data, path_data, items_of, types_of, type_of, IsWellTyped, AllHaveType}
use Rattle.atspi_types.specs.Signatures.{IsSignature}
use Rattle.atspi_types.specs.declared.fault.Order.{Order}
use Rattle.atspi_marshal.specs.declared.writing.fault.WriteFault.{WriteFault}
use Rattle.atspi_marshal.specs.declared.writing.fault.WriteFault.TheVariants as faults
use Rattle.atspi_marshal.specs.Input.{number_bytes, aligned}
use Rattle.atspi_marshal.specs.Spelling.{zeros, padding, spelling, spellings, AllFit, FieldsFit}
use Rattle.atspi_marshal.specs.Writing.{IsWritten, Writes, IsPadded, Pads}
use Rattle.atspi_marshal.proofs.Places.{wide32}
use Rattle.atspi_marshal.proofs.WritingSteps.{array_front, length_padding, Writes-behind, Writes-refused}
use Rattle.atspi_marshal.proofs.WritingContainers.{set_over, array_elements_refused, array_too_long, array_ended}
use Rattle.atspi_message.specs.Envelope.{Envelope}
use Rattle.atspi_message.specs.Bytes.{Field, field_kind, field_data, field_items, field_if, signature_if, rising_fields, order_byte, body_place, body_bytes, header_bytes, spelled_with, FitsWire, written}
use Rattle.atspi_message.specs.inner.Writing.{PutsFields, start_bytes, fields_bytes, HeaderFits, HasWidths}

-- each field is of the type of fields
AreFields : List Field → Type 0
AreFields fs = AllHaveType field_kind (field_items fs)

fields_both : (fs gs : List Field) → AreFields fs → AreFields gs → AreFields (fs ++ gs)
unfolding AreFields
fields_both [] gs f g = g
fields_both (x ∷ fs) gs f g = (f.0, f.1, fields_both fs gs f.2 g)

one_if : {A : Type 0} (code : ℕ) (k : Kind) (view : A → Data) (o : Option A) → IsLawful k → ((x : A) → (type_of (view x) ≡ k) × IsWellTyped (view x)) → AreFields (field_if code k view o)
unfolding AreFields
one_if code k view (Some x) lawful typed = (refl, (tt, ((lawful, (typed x).0, (typed x).1), tt)), tt)
one_if code k view None lawful typed = tt

types_if : (ds : List Data) → AreFields (signature_if ds)
unfolding AreFields
types_if [] = tt
types_if (d ∷ ds) = (refl, (tt, ((tt, refl, tt), tt)), tt)

pub are_fields : (e : Envelope) → AllHaveType field_kind (field_items (rising_fields e))
unfolding rising_fields AreFields
are_fields e =
    fields_both (field_if 1 path path_data e.path) _ (one_if 1 path path_data e.path tt (λ x. (refl, tt)))
    (fields_both (field_if 2 text text_data e.interface) _ (one_if 2 text text_data e.interface tt (λ x. (refl, tt)))
    (fields_both (field_if 3 text text_data e.member) _ (one_if 3 text text_data e.member tt (λ x. (refl, tt)))
    (fields_both (field_if 4 text text_data e.error) _ (one_if 4 text text_data e.error tt (λ x. (refl, tt)))
    (fields_both (field_if 5 (number u32) (number_data u32) e.reply) _ (one_if 5 (number u32) (number_data u32) e.reply tt (λ x. (refl, tt)))
    (fields_both (field_if 6 text text_data e.destination) _ (one_if 6 text text_data e.destination tt (λ x. (refl, tt)))
    (fields_both (field_if 7 text text_data e.sender) (signature_if e.body) (one_if 7 text text_data e.sender tt (λ x. (refl, tt))) (types_if e.body)))))))

pub length_start : (e : Envelope) → length (start_bytes e) ≡ 12
length_start e = omega (arith, wide32.long e.order e.serial)

pub length_fields : (e : Envelope) → length (fields_bytes e) ≡ 4 + length (spellings e.order 16 (field_items (rising_fields e)))
length_fields e =
    let elements = spellings e.order 16 (field_items (rising_fields e)) in
    omega (arith, length-append (number_bytes e.order w32 (length elements)) elements, wide32.long e.order (length elements))

-- a header's fields behind its first twelve bytes
pub fields_behind : (e : Envelope) (old mid new : List ℕ) (r : Result ℕ WriteFault) → mid ≡ old ++ start_bytes e → Writes (HeaderFits e) (fields_bytes e) 12 mid new r → Writes (HeaderFits e) (start_bytes e ++ fields_bytes e) 0 old new r
fields_behind e old mid new r is w = Writes-behind (HeaderFits e) (HeaderFits e) (start_bytes e) (fields_bytes e) 0 12 old mid new r is (omega (arith, length_start e)) (λ x. x) (λ x. x) w

pub front_refused : (e : Envelope) (old mid new last : List ℕ) (f : WriteFault) → mid ≡ old ++ start_bytes e → Writes (Unit {0}) (array_front 8 12) 12 mid new (Err f) → Writes (HeaderFits e) (start_bytes e ++ fields_bytes e) 0 old last (Err f)
front_refused e old mid new last f is w =
    fields_behind e old mid last (Err f) is (Writes-refused (Unit {0}) (HeaderFits e) (array_front 8 12) (fields_bytes e) 12 12 mid new mid last f (λ q. tt) (omega (arith, length_fields e)) w)

pub fields_refused : (e : Envelope) (first : ℕ) (old mid opened new : List ℕ) (f : WriteFault) → mid ≡ old ++ start_bytes e → IsWritten (Unit {0}) (array_front 8 12) 12 mid opened first
    → PutsFields e.order first (rising_fields e) opened new (Err f) → Writes (HeaderFits e) (start_bytes e ++ fields_bytes e) 0 old new (Err f)
fields_refused e first old mid opened new f is begun puts =
    fields_behind e old mid new (Err f) is (array_elements_refused e.order 64 63 12 first field_kind (field_items (rising_fields e)) mid opened new new f refl (are_fields e) begun puts.writes)

pub fields_too_long : (e : Envelope) (first next : ℕ) (old mid opened filled last : List ℕ) (f : WriteFault) → mid ≡ old ++ start_bytes e → IsWritten (Unit {0}) (array_front 8 12) 12 mid opened first
    → PutsFields e.order first (rising_fields e) opened filled (Ok next) → f ≡ faults.Big → 67108864 < next - first → Writes (HeaderFits e) (start_bytes e ++ fields_bytes e) 0 old last (Err f)
fields_too_long e first next old mid opened filled last f is begun puts big long =
    fields_behind e old mid last (Err f) is (array_too_long e.order 64 63 12 first next field_kind (field_items (rising_fields e)) mid opened filled last f refl (are_fields e) begun puts.writes big long)

pub header_written : (e : Envelope) (first next index : ℕ) (old mid opened filled closed : List ℕ) → mid ≡ old ++ start_bytes e → IsWritten (Unit {0}) (array_front 8 12) 12 mid opened first
    → PutsFields e.order first (rising_fields e) opened filled (Ok next) → index ≡ length mid → closed ≡ take index filled ++ (number_bytes e.order w32 (next - first) ++ drop (index + 4) filled) → next - first ≤ 67108864
    → Writes (HeaderFits e) (start_bytes e ++ fields_bytes e) 0 old closed (Ok next)
header_written e first next index old mid opened filled closed is begun puts at set short =
    fields_behind e old mid closed (Ok next) is (array_ended e.order 64 63 12 first next index field_kind (field_items (rising_fields e)) mid opened filled closed refl (are_fields e) begun puts.writes (omega (arith, at)) set short)

-- where the parts of a message that is written stand
pub record Parts (e : Envelope) (old begun spaced filled : List ℕ) (end place next : ℕ) : Type 0 where
  pub header : IsWritten (HeaderFits e) (start_bytes e ++ fields_bytes e) 0 old begun end
  pub padded : IsPadded 8 end 0 begun spaced place
  pub body : IsWritten (FieldsFit e.order 64 place (items_of e.body) (types_of (items_of e.body))) (spellings e.order place (items_of e.body)) place spaced filled next

fields_end : Envelope → ℕ
fields_end e = 16 + length (spellings e.order 16 (field_items (rising_fields e)))

header_length : (e : Envelope) → length (header_bytes e (rising_fields e)) ≡ fields_end e
unfolding header_bytes fields_end
header_length e =
    let body = number_bytes e.order w32 (length (body_bytes e (rising_fields e))) in
    let serial = number_bytes e.order w32 e.serial in
    omega (arith, length_fields e, length-append body (serial ++ fields_bytes e), length-append serial (fields_bytes e), wide32.long e.order (length (body_bytes e (rising_fields e))), wide32.long e.order e.serial)

pub length_header : (e : Envelope) → length (header_bytes e (rising_fields e)) ≡ 16 + length (spellings e.order 16 (field_items (rising_fields e)))
unfolding fields_end
length_header e = header_length e

pub end_is : (e : Envelope) (old header : List ℕ) (end : ℕ) → IsWritten (HeaderFits e) (start_bytes e ++ fields_bytes e) 0 old header end → end ≡ length (header_bytes e (rising_fields e))
unfolding fields_end
end_is e old header end w = omega (arith, w.place, length-append (start_bytes e) (fields_bytes e), length_start e, length_fields e, header_length e)

body_is : (e : Envelope) (place : ℕ) → place ≡ aligned 8 (length (header_bytes e (rising_fields e))) → spellings e.order place (items_of e.body) ≡ body_bytes e (rising_fields e)
unfolding body_bytes body_place fields_end
body_is e place is = ap (λ (m : ℕ). spellings e.order m (items_of e.body)) (is ∙ ap (aligned 8) (header_length e))

place_is : (e : Envelope) (place : ℕ) → place ≡ aligned 8 (length (header_bytes e (rising_fields e))) → place ≡ body_place e.order (rising_fields e)
unfolding body_place fields_end
place_is e place is = is ∙ ap (aligned 8) (header_length e)

pub length_written : (e : Envelope) → length (written e) ≡ aligned 8 (length (header_bytes e (rising_fields e))) + length (body_bytes e (rising_fields e))
unfolding spelled_with
length_written e =
    let header = header_bytes e (rising_fields e) in
    let pad = padding 8 (length header) in
    omega (arith, length-append header (pad ++ body_bytes e (rising_fields e)), length-append pad (body_bytes e (rising_fields e)), length_padding 8 (length header))

apart : (old four z s a pad body : List ℕ) → ((old ++ ((four ++ (z ++ s)) ++ a)) ++ pad) ++ body ≡ old ++ (four ++ (z ++ (s ++ (a ++ (pad ++ body)))))
apart old four z s a pad body = simp append_assoc

joined : (old four n s a pad body : List ℕ) → old ++ (four ++ (n ++ (s ++ (a ++ (pad ++ body))))) ≡ old ++ ((four ++ (n ++ (s ++ a))) ++ (pad ++ body))
joined old four n s a pad body = simp append_assoc

abbrev four_bytes : Envelope → List ℕ
four_bytes e = order_byte e.order ∷ e.kind ∷ e.flags ∷ 1 ∷ []

pub message_written : (e : Envelope) (old header padded filled new : List ℕ) (end place next index : ℕ) → Parts e old header padded filled end place next → index ≡ length old + 4
    → new ≡ take index filled ++ (number_bytes e.order w32 (next - place) ++ drop (index + 4) filled) → new ≡ old ++ written e
unfolding spelled_with header_bytes
message_written e old header padded filled new end place next index p at set =
    let fs = rising_fields e in
    let head = header_bytes e fs in
    let body = body_bytes e fs in
    let serial = number_bytes e.order w32 e.serial in
    let fields = fields_bytes e in
    let pad = padding 8 (length head) in
    let ends = end_is e old header end p.header in
    let there : place ≡ aligned 8 (length head) = p.padded.place ∙ ap (aligned 8) ends in
    let is_body = body_is e place there in
    let is_pad : padding 8 end ≡ pad = ap (padding 8) ends in
    let all : filled ≡ old ++ (four_bytes e ++ (zeros 4 ++ (serial ++ (fields ++ (pad ++ body))))) =
    p.body.appended ∙ (ap (λ (bs : List ℕ). bs ++ spellings e.order place (items_of e.body)) (p.padded.appended ∙ ap (λ (bs : List ℕ). bs ++ padding 8 end) p.header.appended)
    ∙ (ap (λ (bs : List ℕ). ((old ++ (start_bytes e ++ fields)) ++ bs) ++ spellings e.order place (items_of e.body)) is_pad
    ∙ (ap (λ (bs : List ℕ). ((old ++ (start_bytes e ++ fields)) ++ pad) ++ bs) is_body ∙ apart old (four_bytes e) (zeros 4) serial fields pad body))) in
    let count : next - place ≡ length body = omega (arith, p.body.place, ap length is_body) in
    let number : number_bytes e.order w32 (next - place) ≡ number_bytes e.order w32 (length body) = ap (number_bytes e.order w32) count in
    set ∙ (ap (λ (bs : List ℕ). take index bs ++ (number_bytes e.order w32 (next - place) ++ drop (index + 4) bs)) all
    ∙ (set_over old (four_bytes e) (zeros 4) (serial ++ (fields ++ (pad ++ body))) (number_bytes e.order w32 (next - place)) index (omega (arith, at)) refl
    ∙ (ap (λ (n : List ℕ). old ++ (four_bytes e ++ (n ++ (serial ++ (fields ++ (pad ++ body)))))) number ∙ joined old (four_bytes e) (number_bytes e.order w32 (length body)) serial fields pad body)))

-- the last of the fields has the types of the body
all_behind : (o : Order) (levels at : ℕ) (k : Kind) (fs gs : List Field) → AllFit o levels at (field_items (fs ++ gs)) k → (m : ℕ) × AllFit o levels m (field_items gs) k
all_behind o levels at k [] gs f = (at, f)
all_behind o levels at k (x ∷ fs) gs f = all_behind o levels (at + length (spelling o at (field_data x))) k fs gs f.1

types_fit : (o : Order) (ds : List Data) → (m : ℕ) × AllFit o 63 m (field_items (signature_if ds)) field_kind → IsSignature (types_of (items_of ds))
types_fit o [] f = record { lawful = tt; fits = record { short = omega arith; arrays = omega arith; structs = omega arith } }
types_fit o (d ∷ ds) (m, f) = f.0.1.0.1

header_types : (e : Envelope) → HeaderFits e → IsSignature (types_of (items_of e.body))
unfolding rising_fields
header_types e f =
    let o = e.order in
    let a = all_behind o 63 16 field_kind (field_if 1 path path_data e.path) _ f.2 in
    let b = all_behind o 63 a.0 field_kind (field_if 2 text text_data e.interface) _ a.1 in
    let c = all_behind o 63 b.0 field_kind (field_if 3 text text_data e.member) _ b.1 in
    let d = all_behind o 63 c.0 field_kind (field_if 4 text text_data e.error) _ c.1 in
    let g = all_behind o 63 d.0 field_kind (field_if 5 (number u32) (number_data u32) e.reply) _ d.1 in
    let h = all_behind o 63 g.0 field_kind (field_if 6 text text_data e.destination) _ g.1 in
    types_fit o e.body (all_behind o 63 h.0 field_kind (field_if 7 text text_data e.sender) (signature_if e.body) h.1)

pub message_fits : (e : Envelope) (old header padded filled : List ℕ) (end place next : ℕ) → Parts e old header padded filled end place next → HasWidths e → FitsWire e (rising_fields e)
message_fits e old header padded filled end place next p w =
    let ends = end_is e old header end p.header in
    let there : place ≡ aligned 8 (length (header_bytes e (rising_fields e))) = p.padded.place ∙ ap (aligned 8) ends in
    record {
      kind = w.kind;
      flags = w.flags;
      serial = w.serial;
      fields = p.header.may;
      types = header_types e p.header.may;
      body = subst (λ (m : ℕ). FieldsFit e.order 64 m (items_of e.body) (types_of (items_of e.body))) (place_is e place there) p.body.may;
      short = omega (arith, length_written e, p.body.place, p.body.within, there, ap length (body_is e place there));
    }

-- a step of writing that was refused as too big refuses the message
pub message_refused : {T : Type 0} (e : Envelope) (Q : Type 0) (s : List ℕ) (at : ℕ) (old new : List ℕ) (f : WriteFault) → (FitsWire e (rising_fields e) → Q) → at + length s ≤ length (written e) → Writes Q s at old new (Err f)
    → IsErrOf {T = T} (Err f) faults.Big → FitsWire e (rising_fields e) → ⊥
message_refused e Q s at old new faults.Big may le w is fits = let over = w (may fits) in absurd (omega (arith, over, le, fits.short))
message_refused e Q s at old new faults.NoMemory may le w is fits = absurd cc

pub padding_refused : {T : Type 0} (e : Envelope) (end : ℕ) (old header new : List ℕ) (f : WriteFault) → IsWritten (HeaderFits e) (start_bytes e ++ fields_bytes e) 0 old header end → Pads 8 end 0 header new (Err f)
    → IsErrOf {T = T} (Err f) faults.Big → FitsWire e (rising_fields e) → ⊥
padding_refused e end old header new faults.Big h over is fits = omega (arith, over, length_written e, ap (aligned 8) (end_is e old header end h), fits.short)
padding_refused e end old header new faults.NoMemory h over is fits = absurd cc

pub header_refused : {T : Type 0} (e : Envelope) (old new : List ℕ) (f : WriteFault) → Writes (HeaderFits e) (start_bytes e ++ fields_bytes e) 0 old new (Err f) → IsErrOf {T = T} (Err f) faults.Big → FitsWire e (rising_fields e) → ⊥
unfolding fields_end
header_refused {T} e old new f w =
    message_refused {T = T} e (HeaderFits e) (start_bytes e ++ fields_bytes e) 0 old new f (λ fits. fits.fields)
    (omega (arith, length_written e, header_length e, length-append (start_bytes e) (fields_bytes e), length_start e, length_fields e)) w

pub body_refused : {T : Type 0} (e : Envelope) (old header padded new : List ℕ) (end place : ℕ) (f : WriteFault) → IsWritten (HeaderFits e) (start_bytes e ++ fields_bytes e) 0 old header end → IsPadded 8 end 0 header padded place
    → Writes (FieldsFit e.order 64 place (items_of e.body) (types_of (items_of e.body))) (spellings e.order place (items_of e.body)) place padded new (Err f) → IsErrOf {T = T} (Err f) faults.Big → FitsWire e (rising_fields e) → ⊥
body_refused {T} e old header padded new end place f h p w =
    let there : place ≡ aligned 8 (length (header_bytes e (rising_fields e))) = p.place ∙ ap (aligned 8) (end_is e old header end h) in
    message_refused {T = T} e (FieldsFit e.order 64 place (items_of e.body) (types_of (items_of e.body))) (spellings e.order place (items_of e.body)) place padded new f
    (λ fits. subst (λ (m : ℕ). FieldsFit e.order 64 m (items_of e.body) (types_of (items_of e.body))) (sym (place_is e place there)) fits.body)
    (omega (arith, length_written e, there, ap length (body_is e place there))) w
