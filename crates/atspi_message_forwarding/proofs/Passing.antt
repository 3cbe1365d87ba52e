-- What lies in bytes, written again.
use Rattle.std.proofs.Common.{◌≡◌, ℕ, ◌+◌, ◌-◌, ◌%◌, ◌<◌, ◌≤◌, ◌^◌, List, [], ◌∷◌, ◌++◌, length, take, drop, Option, Some, None, Result, Err, Bool, true, false, refl, sym, ap, subst, ◌∙◌, arith}
use Rattle.std.specs.Prelude.{IfSome, IsErrOf}
use Rattle.std.specs.Int.{w32}
use Rattle.std.specs.Coded.{Coded-set, coded_list, coded_ℕ, le_prop}
use Rattle.std.proofs.Math.Logic.{∥∥₁_elim, ∥∥₁_map}
use Rattle.std.specs.Borrow.{Bor}
use Rattle.atspi_types.specs.Kinds.{Kind, Kinds, no_kinds, kinds_of}
use Rattle.atspi_types.specs.Signatures.{signature_bytes, FitsSignature, IsSignature}
use Rattle.atspi_types.specs.Data.{Data, items_of, types_of}
use Rattle.atspi_base.specs.valid_names.Names.{is_path, is_interface, is_member, is_bus_name, IsPath, IsInterface, IsMember, IsBusName}
use Rattle.atspi_base.proofs.OfValidNames.NameLemmas.{IsPath-from_test, IsInterface-from_test, IsMember-from_test, IsBusName-from_test}
use Rattle.atspi_types.specs.declared.fault.Order.{Order}
use Rattle.atspi_marshal.specs.declared.writing.fault.WriteFault.{WriteFault}
use Rattle.atspi_marshal.specs.declared.writing.fault.WriteFault.TheVariants as faults
use Rattle.atspi_marshal.specs.Input.{number_bytes, aligned}
use Rattle.atspi_marshal.specs.Spelling.{padding, counted_short, spellings, FieldsFit}
use Rattle.atspi_marshal.specs.Writing.{IsWritten, Writes, IsPadded}
use Rattle.atspi_marshal.specs.Reading.{input_of}
use Rattle.atspi_marshal.proofs.WritingSteps.{padding_one, Writes-by, Writes-refused}
use Rattle.atspi_marshal_in_place.specs.Items.{fields_data, fields_kinds}
use Rattle.atspi_marshal_in_place.specs.declared.cursor.Fields.{Fields}
use Rattle.atspi_marshal_in_place.proofs.OfCodes.Spelled.{all_is}
use Rattle.atspi_message.specs.Codes.{IsText, IsNameFor}
use Rattle.atspi_message.specs.inner.Reading.{is_name}
use Rattle.atspi_message.specs.Rules.{MeetsRules, HasNames}
use Rattle.atspi_message.specs.Spellable.{IsSpellable}
use Rattle.atspi_message.specs.inner.Ends.{types_end}
use Rattle.atspi_message.specs.Envelope.{Envelope}
use Rattle.atspi_message.specs.Bytes.{FitsWire, IsMessage, body_place, body_bytes, rising_fields, written}
use Rattle.atspi_message.specs.inner.Writing.{start_bytes, fields_bytes, HeaderFits, HasWidths}
use Rattle.atspi_message.proofs.MessageWriting.{Parts, message_written, message_fits, body_refused}
use Rattle.atspi_message.proofs.Names.{name_from_test}
use Rattle.atspi_message.proofs.Rising.{written_is}
use Rattle.atspi_message.proofs.Sitting.{fields_sit}
use Rattle.atspi_message.proofs.Short.{unfit_long}
use Rattle.atspi_message.proofs.Lengths.{body_even}
use Rattle.atspi_message_in_place.specs.Bodies.{IsBody}
use Rattle.atspi_message_in_place.specs.Names.{fits}
use Rattle.atspi_message_in_place.specs.View.{bytes_of, envelope_at}
use Rattle.atspi_message_in_place.specs.declared.message.MessageRef.{MessageRef}
use Rattle.atspi_message_in_place.proofs.Names.{each_named}
use Rattle.atspi_message_in_place.proofs.ReadTypes.{fields_types}
use Rattle.atspi_message_forwarding.proofs.OfReadings.Places.{same_spellings, fields_alike}
use Rattle.atspi_message_forwarding.specs.inner.Fields.{code_for}
use Rattle.atspi_message_forwarding.specs.declared.field.NameField.{NameField}
use Rattle.atspi_message_forwarding.specs.declared.field.NameField.TheVariants.{Interface, Member, Error, Destination, Sender}

pub not_both : (b : Bool) → b ≡ true → b ≡ false → ⊥
not_both true p q = cc
not_both false p q = cc

-- each of the five fields is a text
is_text : (f : NameField) → IsText (code_for f)
is_text Interface = tt
is_text Member = tt
is_text Error = tt
is_text Destination = tt
is_text Sender = tt

pub name_rule : (f : NameField) (bytes : List ℕ) → is_name (code_for f) bytes ≡ true → IsNameFor (code_for f) bytes
name_rule f bytes e = name_from_test (code_for f) bytes (is_text f) e

-- a message that lies in bytes has its names
named_by : (rule : List ℕ → Bool) (P : List ℕ → Type 0) → ((bytes : List ℕ) → rule bytes ≡ true → P bytes) → (o : Option (Bor (List ℕ))) → fits rule o ≡ true → IfSome (bytes_of o) P
named_by rule P from (Some name) e = from name.now e
named_by rule P from None e = tt

pub names_of : (m : MessageRef) → HasNames (envelope_at m)
names_of m =
    let n = each_named m.path m.interface m.member m.error m.destination m.sender m.named in
    record {
      path = named_by is_path IsPath IsPath-from_test m.path n.path;
      interface = named_by is_interface IsInterface IsInterface-from_test m.interface n.interface;
      member = named_by is_member IsMember IsMember-from_test m.member n.member;
      error = named_by is_interface IsInterface IsInterface-from_test m.error n.error;
      destination = named_by is_bus_name IsBusName IsBusName-from_test m.destination n.destination;
      sender = named_by is_bus_name IsBusName IsBusName-from_test m.sender n.sender;
    }

-- the values of a body have its types
pub body_types : (body : Fields) → types_of (items_of (fields_data body)) ≡ kinds_of (fields_kinds body)
body_types body = fields_types (input_of body.input) body.levels (fields_kinds body) body.bound body.at body.known

-- codes that spell these types are their signature
pub types_written : (ks : Kinds) (js : List Kind) (codes old new : List ℕ) (at : ℕ) (r : Result ℕ WriteFault) → ks ≡ kinds_of js → codes ≡ signature_bytes (kinds_of js) → IsSignature (kinds_of js)
    → Writes (Unit {0}) (counted_short codes) at old new r → Writes (FitsSignature ks) (counted_short (signature_bytes ks)) at old new r
types_written ks js codes old new at r same spelled is w =
    let here : codes ≡ signature_bytes ks = spelled ∙ ap signature_bytes (sym same) in
    let fit : FitsSignature ks = subst (λ (k : Kinds). FitsSignature k) (sym same) is.fits in
    Writes-by (Unit {0}) (FitsSignature ks) (counted_short (signature_bytes ks)) at old new r (λ t. fit) (λ f. tt) (subst (λ (bs : List ℕ). Writes (Unit {0}) (counted_short bs) at old new r) here w)

-- the bytes of a body are its values' spelling at each multiple of 8
pub body_written : (o : Order) (place : ℕ) (ds : List Data) (bytes old new : List ℕ) (r : Result ℕ WriteFault) → ∥ IsBody o ds bytes ∥₁ → place % 8 ≡ 0 → Writes (Unit {0}) (padding 1 place ++ bytes) place old new r
    → Writes (Unit {0}) (spellings o place (items_of ds)) place old new r
body_written o place ds bytes old new r lies even w =
    let spelled : bytes ≡ spellings o place (items_of ds) = ∥∥₁_elim lies (Coded-set (coded_list coded_ℕ) bytes (spellings o place (items_of ds))) (λ (is : IsBody o ds bytes). is.spelled ∙ same_spellings o (items_of ds) is.place place (is.even ∙ sym even)) in
    subst (λ (bs : List ℕ). Writes (Unit {0}) bs place old new r) (ap (λ (p : List ℕ). p ++ bytes) (padding_one place) ∙ spelled) w

-- the parts of a message that was written, where its body lay in bytes
module _ (e : Envelope) (bytes old header padded filled : List ℕ) (end place next : ℕ) (h : IsWritten (HeaderFits e) (start_bytes e ++ fields_bytes e) 0 old header end) (p : IsPadded 8 end 0 header padded place)
    (b : IsWritten (Unit {0}) (spellings e.order place (items_of e.body)) place padded filled next) where
  parts : IsBody e.order e.body bytes → Parts e old header padded filled end place next
  parts is = (
      let even : place % 8 ≡ 0 = omega (arith, p.place) in
      let ds = items_of e.body in
      record {
        header = h;
        padded = p;
        body = record { may = fields_alike e.order 64 ds (types_of ds) is.place place (is.even ∙ sym even) is.fits; appended = b.appended; place = b.place; within = b.within };
      })

  pub all_written : (index : ℕ) (new : List ℕ) → ∥ IsBody e.order e.body bytes ∥₁ → index ≡ length old + 4 → new ≡ take index filled ++ (number_bytes e.order w32 (next - place) ++ drop (index + 4) filled) → new ≡ old ++ written e
  all_written index new lies at set =
      ∥∥₁_elim lies (Coded-set (coded_list coded_ℕ) new (old ++ written e)) (λ (is : IsBody e.order e.body bytes). message_written e old header padded filled new end place next index (parts is) at set)

  pub all_fits : ∥ IsBody e.order e.body bytes ∥₁ → HasWidths e → ∥ FitsWire e (rising_fields e) ∥₁
  all_fits lies widths = ∥∥₁_map lies (λ (is : IsBody e.order e.body bytes). message_fits e old header padded filled end place next (parts is) widths)

-- what was written is a message, and short
pub is_message : (m : MessageRef) (bytes : List ℕ) → MeetsRules (envelope_at m) → ∥ FitsWire (envelope_at m) (rising_fields (envelope_at m)) ∥₁ → bytes ≡ written (envelope_at m) → ∥ IsMessage (envelope_at m) bytes ∥₁
is_message m bytes meets fits is =
    let e = envelope_at m in
    ∥∥₁_map fits (λ (f : FitsWire e (rising_fields e)). subst (λ (bs : List ℕ). IsMessage e bs) (sym is) (written_is e meets (names_of m) f))

pub is_short : (e : Envelope) (bytes : List ℕ) → ∥ FitsWire e (rising_fields e) ∥₁ → bytes ≡ written e → length bytes ≤ 134217728
is_short e bytes fits is = ∥∥₁_elim fits (hlevel (le_prop)) (λ (f : FitsWire e (rising_fields e)). omega (arith, ap length is, f.short))

-- a body that was refused as too big refuses the message
pub body_too_big : {T : Type 0} (e : Envelope) (old header padded new : List ℕ) (end place : ℕ) (f : WriteFault) → IsWritten (HeaderFits e) (start_bytes e ++ fields_bytes e) 0 old header end → IsPadded 8 end 0 header padded place
    → Writes (Unit {0}) (spellings e.order place (items_of e.body)) place padded new (Err f) → IsErrOf {T = T} (Err f) faults.Big → FitsWire e (rising_fields e) → ⊥
body_too_big {T} e old header padded new end place f h p w =
    let ds = items_of e.body in
    let s = spellings e.order place ds in
    let P = FieldsFit e.order 64 place ds (types_of ds) in
    body_refused {T = T} e old header padded new end place f h p (Writes-refused (Unit {0}) P s s place place padded new padded new f (λ (q : P). tt) (omega arith) w)

-- what keeps the rules where it lies and passes a limit of the wire is long
spellable : (m : MessageRef) → MeetsRules (envelope_at m) → HasWidths (envelope_at m) → IfSome m.reply (λ n. n < 2 ^ 32) → IsBody m.order (fields_data m.body) m.body_bytes.now → IsSpellable (envelope_at m)
spellable m meets widths reply is =
    let e = envelope_at m in
    record {
      meets = meets;
      named = names_of m;
      kind = widths.kind;
      flags = widths.flags;
      serial = widths.serial;
      reply = reply;
      types = subst (λ (ks : Kinds). IsSignature ks) (sym (body_types m.body)) (all_is m.body.types.codes.now m.body.types.all).within;
      body = fields_sit (items_of e.body) e.order 64 is.place meets.body is.fits;
    }

pub unfit_is_long : (m : MessageRef) → MeetsRules (envelope_at m) → HasWidths (envelope_at m) → IfSome m.reply (λ n. n < 2 ^ 32) → (FitsWire (envelope_at m) (rising_fields (envelope_at m)) → ⊥)
    → 67108864 < length (written (envelope_at m))
unfit_is_long m meets widths reply unfit =
    ∥∥₁_elim m.lies (hlevel (le_prop)) (λ (is : IsBody m.order (fields_data m.body) m.body_bytes.now). unfit_long (envelope_at m) (spellable m meets widths reply is) unfit)

-- how long the body is that lies there
pub body_length : (e : Envelope) (bytes : List ℕ) → ∥ IsBody e.order e.body bytes ∥₁ → length (body_bytes e (rising_fields e)) ≡ length bytes
unfolding body_bytes
body_length e bytes lies =
    let place = body_place e.order (rising_fields e) in
    let body = spellings e.order place (items_of e.body) in
    let same : bytes ≡ body = ∥∥₁_elim lies (Coded-set (coded_list coded_ℕ) bytes body) (λ (is : IsBody e.order e.body bytes). is.spelled ∙ same_spellings e.order (items_of e.body) is.place place (is.even ∙ sym (body_even e))) in
    sym (ap length same)

-- where its types end
pub no_types_end : (at : ℕ) (ds : List Data) → types_of (items_of ds) ≡ no_kinds → at ≡ types_end at ds
no_types_end at [] e = refl
no_types_end at (d ∷ ds) e = absurd cc

pub some_types_end : (at : ℕ) (ds : List Data) (codes : List ℕ) → 0 < length ds → codes ≡ signature_bytes (types_of (items_of ds)) → aligned 8 at + 6 + length codes ≡ types_end at ds
some_types_end at [] codes some e = absurd (omega (arith, some))
some_types_end at (d ∷ ds) codes some e = ap (λ (bs : List ℕ). aligned 8 at + 6 + length bs) e
