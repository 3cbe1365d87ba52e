-- What is read is a message: its bytes are the spelling.
use Rattle.std.proofs.Common.{◌≡◌, ℕ, zero, suc, ◌+◌, ◌-◌, ◌<◌, ◌≤◌, ◌^◌, Bool, true, false, cond, List, [], ◌∷◌, ◌++◌, length, get_or, Option, Some, None, refl, sym, ap, subst, ◌∙◌, arith, inl, inr, ◌⊎◌, Ok}
use Rattle.std.specs.Prelude.{◌≢◌, ◌==◌, if◌then◌else◌}
use Rattle.std.specs.Int.{w32, byte_len}
use Rattle.std.proofs.lemmas.Bool.{eqb-true, eqb-false}
use Rattle.atspi_types.specs.Kinds.{Kinds, no_kinds, u32, array}
use Rattle.atspi_types.specs.Data.{Data, Items, number_data, text_data, path_data, signature_data, array_data, item, no_items, items_of, types_of, AreWellTyped}
use Rattle.atspi_types.specs.Signatures.{IsSignature}
use Rattle.atspi_types.specs.declared.fault.Order.{Order}
use Rattle.atspi_types.specs.declared.fault.Order.TheVariants.{Little, Big}
use Rattle.atspi_marshal.specs.Input.{Input, Stands, whole, to_end, number_bytes, number_in, byte_in, aligned}
use Rattle.atspi_marshal.specs.Spelling.{zeros, padding, spelling, spellings, start_of, Fits, AllFit, FieldsFit, IsShort}
use Rattle.atspi_marshal.specs.Faults.{AreItems}
use Rattle.atspi_marshal.proofs.Places.{IsBytes, IsValid, number_takes, wide32, Stands-byte, Stands-append}
use Rattle.atspi_message.specs.declared.code.Code.TheVariants.{Path, Interface, Member, Error, Reply, Destination, Sender, Signature, Descriptors}
use Rattle.atspi_message.specs.Envelope.{Envelope}
use Rattle.atspi_message.specs.Rules.{HasRequired, MeetsRules, HasNames}
use Rattle.atspi_message.specs.Bytes.{Field, field_kind, field_items, with_code, order_byte, at_most_one, body_place, body_bytes, spelled_with, HasFields, FitsWire, IsMessage}
use Rattle.atspi_message.specs.Front.{order_in, input_in, type_in, version_in, serial_in, body_length_in, fields_length_in, fields_end_in, body_place_in, length_in, IsSoundFront}
use Rattle.atspi_message.specs.Faults.{fields_bound, FieldsStand, body_types, types_of_value, BodyStands}
use Rattle.atspi_message.specs.inner.Reading.{Found, slot, some_of, has_required, message_at, Describes}
use Rattle.atspi_message.proofs.Told.{ReadLaws}
use Rattle.atspi_message.proofs.Values.{IsGoodValue}
use Rattle.atspi_message.proofs.Found.{slot_list, Tracks}
use Rattle.atspi_message.proofs.Walk.{GoodFound}
use Rattle.atspi_message.proofs.Rest.{IsWhole, end_valid, body_lawful, body_signature}
use Rattle.atspi_message.proofs.Sound.{names_read, replies_read, required_read, RestRead, MessageRead, message_read}
use Rattle.atspi_message.proofs.Placed.{fields_bytes, fields_end, four, Layout, layout_from}
use Rattle.atspi_marshal.proofs.Typing.{fields_typed}

-- the fields

listed : {A : Type 0} (view : A → Data) (o : Option A) → slot_list (some_of view o) ≡ at_most_one view o
listed view (Some x) = refl
listed view None = refl

signature_held : (o : Option Data) (ds : List Data) (ks : Kinds) → slot_list o ≡ ds → types_of_value ds ≡ ks → ((d : Data) → o ≡ Some d → (js : Kinds) × (d ≡ signature_data js)) → (ds ≡ signature_data ks ∷ []) ⊎ ((ks ≡ no_kinds) × (ds ≡ []))
signature_held None ds ks e types good = inr (sym types ∙ ap types_of_value (sym e), sym e)
signature_held (Some d) ds ks e types good =
    let g = good d refl in
    let is : ds ≡ signature_data g.0 ∷ [] = sym e ∙ ap (λ (x : Data). x ∷ []) g.1 in
    let same : g.0 ≡ ks = sym (ap types_of_value is) ∙ types in
    inl (is ∙ ap (λ (js : Kinds). signature_data js ∷ []) same)

descriptors_held : (o : Option Data) (ds : List Data) → slot_list o ≡ ds → ((d : Data) → o ≡ Some d → d ≡ number_data u32 0) → (ds ≡ number_data u32 0 ∷ []) ⊎ (ds ≡ [])
descriptors_held None ds e good = inr (sym e)
descriptors_held (Some d) ds e good = inl (sym e ∙ ap (λ (x : Data). x ∷ []) (good d refl))

no_values : (ds : List Data) → types_of (items_of ds) ≡ no_kinds → ds ≡ []
no_values [] e = refl
no_values (d ∷ ds) e = absurd cc

fields_held : (bytes : List ℕ) (e : Envelope) (found : Found) (values : List Data) → Describes e bytes found values → (r : MessageRead bytes found values) → types_of (items_of e.body) ≡ body_types r.fields → HasFields e r.fields
fields_held bytes e found values d r types = record {
  no_code = r.no_zero;
  path = sym (r.tracks Path) ∙ ap slot_list d.path ∙ listed path_data e.path;
  interface = sym (r.tracks Interface) ∙ ap slot_list d.interface ∙ listed text_data e.interface;
  member = sym (r.tracks Member) ∙ ap slot_list d.member ∙ listed text_data e.member;
  error = sym (r.tracks Error) ∙ ap slot_list d.error ∙ listed text_data e.error;
  reply = sym (r.tracks Reply) ∙ ap slot_list d.reply ∙ listed (number_data u32) e.reply;
  destination = sym (r.tracks Destination) ∙ ap slot_list d.destination ∙ listed text_data e.destination;
  sender = sym (r.tracks Sender) ∙ ap slot_list d.sender ∙ listed text_data e.sender;
  signature = by (signature_held found.signature (with_code 8 r.fields) (types_of (items_of e.body)) (r.tracks Signature) (sym types) (λ v is. r.good Signature v is));
  descriptors = descriptors_held found.descriptors (with_code 9 r.fields) (r.tracks Descriptors) (λ v is. r.good Descriptors v is);
}
  where
    by : (with_code 8 r.fields ≡ signature_data (types_of (items_of e.body)) ∷ []) ⊎ ((types_of (items_of e.body) ≡ no_kinds) × (with_code 8 r.fields ≡ []))
        → (with_code 8 r.fields ≡ signature_data (types_of (items_of e.body)) ∷ []) ⊎ ((e.body ≡ []) × (with_code 8 r.fields ≡ []))
    by (inl is) = inl is
    by (inr none) = inr (no_values e.body none.0, none.1)

-- the bytes

first_is : (bytes : List ℕ) → IsSoundFront bytes → order_byte (order_in bytes) ≡ byte_in (input_in bytes) 0
first_is bytes front = by (byte_in (whole Little bytes) 0 == 66) refl
  where
    little : (byte_in (whole Little bytes) 0 ≡ 66 → ⊥) → (t : Bool) → (byte_in (whole Little bytes) 0 == 108) ≡ t → 108 ≡ byte_in (whole Little bytes) 0
    little other true is = sym (eqb-true _ 108 is)
    little other false is = absurd (other (front.ordered (λ l. eqb-false _ 108 is l)))

    by : (t : Bool) → (byte_in (whole Little bytes) 0 == 66) ≡ t → order_byte (cond t Big Little) ≡ byte_in (whole Little bytes) 0
    by true is = sym (eqb-true _ 66 is)
    by false is = little (λ l. eqb-false _ 66 is l) (byte_in (whole Little bytes) 0 == 108) refl

four_stand : (i : Input) (a b c d : ℕ) → 4 ≤ length i.bytes → byte_in i 0 ≡ a → byte_in i 1 ≡ b → byte_in i 2 ≡ c → byte_in i 3 ≡ d → Stands i 0 (a ∷ b ∷ c ∷ d ∷ []) 4
four_stand i a b c d le p q r s =
    let one : (k x : ℕ) → k + 1 ≤ length i.bytes → byte_in i k ≡ x → Stands i k (x ∷ []) (k + 1) = λ k x le is. subst (λ (y : ℕ). Stands i k (y ∷ []) (k + 1)) is (Stands-byte i k le) in
    let s3 = one 3 d (omega (arith, le)) s in
    let s2 = Stands-append i 2 3 4 (c ∷ []) (d ∷ []) (one 2 c (omega (arith, le)) r) s3 in
    let s1 = Stands-append i 1 2 4 (b ∷ []) (c ∷ d ∷ []) (one 1 b (omega (arith, le)) q) s2 in
    Stands-append i 0 1 4 (a ∷ []) (b ∷ c ∷ d ∷ []) (one 0 a (omega (arith, le)) p) s1

-- where the parts of what was read lie
pub record PlacesAgree (bytes : List ℕ) (e : Envelope) (fs : List Field) (values : List Data) : Type 0 where
  pub fields : fields_bytes e.order fs ≡ spellings (order_in bytes) 16 (field_items fs)
  pub end : fields_end e.order fs ≡ fields_end_in bytes
  pub start : body_place e.order fs ≡ body_place_in bytes
  pub body : body_bytes e fs ≡ spellings (order_in bytes) (body_place_in bytes) (items_of values)

places_agree : (bytes : List ℕ) (e : Envelope) (fs : List Field) (values : List Data) → e.order ≡ order_in bytes → values ≡ e.body → FieldsStand bytes fs (fields_end_in bytes) → PlacesAgree bytes e fs values
unfolding body_place body_bytes
places_agree bytes e fs values order_is body_is stand =
    let fields : fields_bytes e.order fs ≡ spellings (order_in bytes) 16 (field_items fs) = ap (λ (o : Order). spellings o 16 (field_items fs)) order_is in
    let end : fields_end e.order fs ≡ fields_end_in bytes = ap (λ (bs : List ℕ). 16 + length bs) fields ∙ sym stand.stand.0 in
    let start : body_place e.order fs ≡ body_place_in bytes = ap (λ (n : ℕ). aligned 8 n) end in
    record {
      fields = fields;
      end = end;
      start = start;
      body = ap (λ (o : Order). spellings o (body_place e.order fs) (items_of e.body)) order_is ∙ ap (λ (n : ℕ). spellings (order_in bytes) n (items_of e.body)) start ∙ ap (λ (ds : List Data). spellings (order_in bytes) (body_place_in bytes) (items_of ds)) (sym body_is);
    }

number_stands : (bytes : List ℕ) (p n : ℕ) (o : Order) → IsBytes bytes → p + 4 ≤ length bytes → o ≡ order_in bytes → number_in (input_in bytes) w32 p ≡ n → Stands (input_in bytes) p (number_bytes o w32 n) (p + 4)
number_stands bytes p n o h le order_is is =
    let t = number_takes w32 wide32 (input_in bytes) (to_end bytes) p h (end_valid bytes) le in
    let N : Order → Type 0 = λ x. Stands (input_in bytes) p (number_bytes x w32 n) (p + 4) in
    subst N (sym order_is) (subst (λ (m : ℕ). Stands (input_in bytes) p (number_bytes (order_in bytes) w32 m) (p + 4)) is t.0)

laid_out : (bytes : List ℕ) (e : Envelope) (found : Found) (values : List Data) → IsBytes bytes → IsSoundFront bytes → IsWhole bytes → Describes e bytes found values → (r : MessageRead bytes found values) → Layout (input_in bytes) e r.fields
laid_out bytes e found values h front w d r =
    let agree = places_agree bytes e r.fields values d.order d.body r.stand in
    let i = input_in bytes in
    let body_long : body_length_in bytes ≡ length (body_bytes e r.fields) = omega (arith, r.rest.stand.stand.0, w.whole, ap length agree.body) in
    let fields_long : fields_length_in bytes ≡ length (fields_bytes e.order r.fields) = omega (arith, agree.end) in
    let S : ℕ → Type 0 = λ n. Stands i n (padding 8 n) (aligned 8 n) in
    let B : ℕ → Type 0 = λ n. Stands i (aligned 8 n) (body_bytes e r.fields) (length bytes) in
    record {
      first = four_stand i (order_byte e.order) e.kind e.flags 1 (omega (arith, w.long)) (sym (first_is bytes front) ∙ ap order_byte (sym d.order)) (sym d.kind) (sym d.flags) front.version;
      body_length = number_stands bytes 4 (length (body_bytes e r.fields)) e.order h (omega (arith, w.long)) d.order body_long;
      serial = number_stands bytes 8 e.serial e.order h (omega (arith, w.long)) d.order (sym d.serial);
      fields_length = number_stands bytes 12 (length (fields_bytes e.order r.fields)) e.order h (omega (arith, w.long)) d.order fields_long;
      fields = subst (λ (n : ℕ). Stands i 16 (fields_bytes e.order r.fields) n) (sym agree.end) (subst (λ (bs : List ℕ). Stands i 16 bs (fields_end_in bytes)) (sym agree.fields) r.stand.stand);
      padded = subst S (sym agree.end) r.rest.zeros;
      body = subst B (sym agree.end) (subst (λ (bs : List ℕ). Stands i (body_place_in bytes) bs (length bytes)) (sym agree.body) r.rest.stand.stand);
    }

-- what is read is a message
pub message_sound : (bytes : List ℕ) (e : Envelope) (found : Found) (values : List Data) → ReadLaws (input_in bytes) → IsBytes bytes → IsSoundFront bytes → IsWhole bytes → Describes e bytes found values → message_at bytes ≡ Ok (found, values) → IsMessage e bytes
message_sound bytes e found values laws h front w d is =
    let r = message_read bytes found values laws w is in
    let o = order_in bytes in
    let lawful = body_lawful bytes r.fields (fields_end_in bytes) r.stand in
    let t = fields_typed (items_of values) o 64 (body_place_in bytes) (body_types r.fields) lawful r.rest.stand.fit in
    let types : types_of (items_of e.body) ≡ body_types r.fields = ap (λ (ds : List Data). types_of (items_of ds)) (sym d.body) ∙ t.0 in
    let agree = places_agree bytes e r.fields values d.order d.body r.stand in
    let spelled = layout_from (input_in bytes) e r.fields (laid_out bytes e found values h front w d r) in
    let F : Order → Type 0 = λ p. IsShort (spellings p 16 (field_items r.fields)) × AllFit p 63 16 (field_items r.fields) field_kind in
    let fields_fit = subst F (sym d.order) (omega (arith, r.stand.stand.0, front.fields), r.stand.fit) in
    let P : Order → Type 0 = λ p. FieldsFit p 64 (body_place_in bytes) (items_of values) (body_types r.fields) in
    let B : ℕ → Type 0 = λ n. FieldsFit e.order 64 n (items_of values) (body_types r.fields) in
    let V : List Data → Type 0 = λ ds. FieldsFit e.order 64 (body_place e.order r.fields) (items_of ds) (body_types r.fields) in
    let T : Kinds → Type 0 = λ ks. FieldsFit e.order 64 (body_place e.order r.fields) (items_of e.body) ks in
    let K : ℕ → Type 0 = λ k. has_required k found ≡ true in
    record {
      meets = record {
        typed = λ z. front.typed (sym d.kind ∙ z);
        required = required_read e bytes found values d (subst K (sym d.kind) r.required);
        numbered = λ z. front.numbered (sym d.serial ∙ z);
        replies = replies_read e bytes found values r.good d;
        body = subst (λ (ds : List Data). AreWellTyped (items_of ds)) d.body t.1;
      };
      named = names_read e bytes found values r.good d;
      fields = r.fields;
      held = fields_held bytes e found values d r types;
      fits = record {
        kind = omega (arith, d.kind, h 1);
        flags = omega (arith, d.flags, h 2);
        serial = omega (arith, d.serial, (number_takes w32 wide32 (input_in bytes) (to_end bytes) 8 h (end_valid bytes) (omega (arith, w.long))).1);
        fields = (refl, fields_fit.0, fields_fit.1);
        types = subst (λ (ks : Kinds). IsSignature ks) (sym types) (body_signature bytes r.fields (fields_end_in bytes) r.stand);
        body = subst T (sym types) (subst V d.body (subst B (sym agree.start) (subst P (sym d.order) r.rest.stand.fit)));
        short = omega (arith, ap length spelled, front.short, w.whole);
      };
      spelled = spelled;
    }
