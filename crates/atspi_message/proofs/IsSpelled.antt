-- The bytes of a message are read as the message.
use Rattle.std.proofs.Common.{◌≡◌, ℕ, zero, suc, ◌+◌, ◌-◌, ◌<◌, ◌≤◌, ◌^◌, Bool, true, false, cond, ltb, List, [], ◌∷◌, ◌++◌, length, get_or, take, drop, Option, Some, None, Result, Ok, Err, refl, sym, ap, subst, ◌∙◌, arith, inl, inr, ◌⊎◌}
use Rattle.std.specs.Prelude.{◌≢◌, ◌==◌, ◌&&◌, IsSome, IfSome, if◌then◌else◌}
use Rattle.std.specs.Int.{w32, byte_len}
use Rattle.std.proofs.lemmas.Bool.{eqb-true, eqb-false, eq-eqb, ltb-true, ltb-false, lt-ltb, le-ltb}
use Rattle.std.proofs.lemmas.List.{length-append}
use Rattle.atspi_types.specs.Kinds.{Kind, Kinds, no_kinds, kind, types_in, u32, array, AreLawful}
use Rattle.atspi_types.specs.Data.{Data, Items, number_data, text_data, path_data, signature_data, array_data, item, no_items, items_of, values_in, types_of}
use Rattle.atspi_types.specs.declared.fault.Fault.{Fault}
use Rattle.atspi_types.specs.declared.fault.Order.{Order}
use Rattle.atspi_types.specs.declared.fault.Order.TheVariants.{Little, Big}
use Rattle.atspi_marshal.specs.Input.{Input, Stands, whole, to_end, number_bytes, number_in, byte_in, slice_in, aligned}
use Rattle.atspi_marshal.specs.Spelling.{zeros, padding, spelling, spellings, Fits, AllFit, FieldsFit, IsShort}
use Rattle.atspi_marshal.specs.Faults.{AreItems}
use Rattle.atspi_marshal.specs.Reading.{◌>>=◌, bad, zeros_in_front, padding_at, fields_at}
use Rattle.atspi_marshal.proofs.Places.{IsValid, done, number_again, wide32, length-zeros}
use Rattle.atspi_message.specs.declared.code.Code.{Code}
use Rattle.atspi_message.specs.declared.code.Code.TheVariants.{Path, Interface, Member, Error, Reply, Destination, Sender, Signature, Descriptors}
use Rattle.atspi_message.specs.Codes.{number_of}
use Rattle.atspi_message.specs.Envelope.{Envelope}
use Rattle.atspi_message.specs.Rules.{HasRequired, MeetsRules, HasNames}
use Rattle.atspi_message.specs.Bytes.{Field, field_kind, field_items, with_code, order_byte, at_most_one, body_place, body_bytes, spelled_with, HasFields, FitsWire, IsMessage}
use Rattle.atspi_message.specs.Front.{order_in, input_in, type_in, version_in, serial_in, body_length_in, fields_length_in, fields_end_in, body_place_in, length_in, IsSoundFront}
use Rattle.atspi_message.specs.Faults.{fields_bound, FieldsStand, types_of_value}
use Rattle.atspi_message.specs.inner.Reading.{Found, none_found, slot, some_of, is_there, all_fields_at, nothing_left, values_at, signature_found, rest_at, has_required, missing_at, with_found, ended_at, message_at, Describes}
use Rattle.atspi_message.proofs.Told.{ReadLaws}
use Rattle.atspi_message.proofs.Values.{IsGoodValue}
use Rattle.atspi_message.proofs.Found.{slot_list, Tracks, tracks_none}
use Rattle.atspi_message.proofs.Walk.{AtMostOne, AllGood, walk_again}
use Rattle.atspi_message.proofs.Body.{Stand, one_at, body_again}
use Rattle.atspi_message.proofs.Rest.{IsWhole, fields_valid, end_valid, types_found, front_zeros, padding_is}
use Rattle.atspi_message.proofs.Placed.{fields_bytes, fields_end, four, Layout, layout_to, byte_of, order_of}

-- the first bytes

pub record FrontIs (bytes : List ℕ) (e : Envelope) (fs : List Field) : Type 0 where
  pub order : order_in bytes ≡ e.order
  pub kind : type_in bytes ≡ e.kind
  pub flags : byte_in (input_in bytes) 2 ≡ e.flags
  pub serial : serial_in bytes ≡ e.serial
  pub end : fields_end_in bytes ≡ fields_end e.order fs
  pub sound : IsSoundFront bytes
  pub whole : IsWhole bytes

not_little : (o : Order) (b : ℕ) → b ≡ order_byte o → (b ≢ 108) → b ≡ 66
not_little Little b is other = absurd (other is)
not_little Big b is other = is

pub front_is : (bytes : List ℕ) (e : Envelope) (fs : List Field) → MeetsRules e → FitsWire e fs → bytes ≡ spelled_with e fs → FrontIs bytes e fs
unfolding body_place body_bytes
front_is bytes e fs meets fits spelled =
    let i = input_in bytes in
    let l = layout_to i e fs spelled in
    let zeroth : byte_in i 0 ≡ order_byte e.order = byte_of i e fs 0 l (omega arith) in
    let order_is : order_in bytes ≡ e.order = order_of e (byte_in i 0) zeroth in
    let N : Order → ℕ → List ℕ → ℕ → Type 0 = λ o at bs next. Stands i at bs next in
    let body_long : length (body_bytes e fs) < 2 ^ 32 = omega (arith, l.body.0, ap length spelled, fits.short) in
    let fields_long : length (fields_bytes e.order fs) < 2 ^ 32 = omega (arith, fits.fields.1) in
    let S : (at n next : ℕ) → Order → Type 0 = λ at n next o. Stands i at (number_bytes o w32 n) next in
    let blen = number_again w32 wide32 i 4 (length (body_bytes e fs)) 8 body_long (subst (S 4 (length (body_bytes e fs)) 8) (sym order_is) l.body_length) in
    let serial = number_again w32 wide32 i 8 e.serial 12 fits.serial (subst (S 8 e.serial 12) (sym order_is) l.serial) in
    let flen = number_again w32 wide32 i 12 (length (fields_bytes e.order fs)) 16 fields_long (subst (S 12 (length (fields_bytes e.order fs)) 16) (sym order_is) l.fields_length) in
    let end : fields_end_in bytes ≡ fields_end e.order fs = ap (λ (n : ℕ). 16 + n) flen.0 in
    let start : body_place_in bytes ≡ aligned 8 (fields_end e.order fs) = ap (λ (n : ℕ). aligned 8 n) end in
    let long : length_in bytes ≡ length bytes = omega (arith, start, blen.0, l.body.0) in
    record {
      order = order_is;
      kind = byte_of i e fs 1 l (omega arith);
      flags = byte_of i e fs 2 l (omega arith);
      serial = serial.0;
      end = end;
      sound = record {
        ordered = λ other. not_little e.order (byte_in i 0) zeroth other;
        typed = λ z. meets.typed (sym (byte_of i e fs 1 l (omega arith)) ∙ z);
        version = byte_of i e fs 3 l (omega arith);
        short = omega (arith, long, ap length spelled, fits.short);
        numbered = λ z. meets.numbered (sym serial.0 ∙ z);
        fields = omega (arith, flen.0, fits.fields.1);
      };
      whole = record { long = omega (arith, l.body.0, start); whole = long };
    }

-- the fields are good together

at_most : {A : Type 0} (c : Code) (view : A → Data) (o : Option A) (ds : List Data) → ds ≡ at_most_one view o → ((x : A) → o ≡ Some x → IsGoodValue c (view x)) → AtMostOne c ds
at_most c view None ds e good = inl e
at_most c view (Some x) ds e good = inr (view x, e, good x refl)

under : {A : Type 0} (o : Option A) (P : A → Type 0) (x : A) → o ≡ Some x → IfSome o P → P x
under (Some y) P x e h = let who : y ≡ x = cc in subst P who h
under None P x e h = absurd cc

all_good : (e : Envelope) (fs : List Field) → MeetsRules e → HasNames e → HasFields e fs → AllGood fs
all_good e fs meets named held = record { no_zero = held.no_code; once = once }
  where
    once : (c : Code) → AtMostOne c (with_code (number_of c) fs)
    once Path = at_most Path path_data e.path (with_code 1 fs) held.path (λ x is. (x, refl, under e.path _ x is named.path))
    once Interface = at_most Interface text_data e.interface (with_code 2 fs) held.interface (λ x is. (x, refl, under e.interface _ x is named.interface))
    once Member = at_most Member text_data e.member (with_code 3 fs) held.member (λ x is. (x, refl, under e.member _ x is named.member))
    once Error = at_most Error text_data e.error (with_code 4 fs) held.error (λ x is. (x, refl, under e.error _ x is named.error))
    once Reply = at_most Reply (number_data u32) e.reply (with_code 5 fs) held.reply (λ n is. (n, refl, under e.reply _ n is meets.replies))
    once Destination = at_most Destination text_data e.destination (with_code 6 fs) held.destination (λ x is. (x, refl, under e.destination _ x is named.destination))
    once Sender = at_most Sender text_data e.sender (with_code 7 fs) held.sender (λ x is. (x, refl, under e.sender _ x is named.sender))
    once Signature = by held.signature
      where
        by : (with_code 8 fs ≡ signature_data (types_of (items_of e.body)) ∷ []) ⊎ ((e.body ≡ []) × (with_code 8 fs ≡ [])) → AtMostOne Signature (with_code 8 fs)
        by (inl is) = inr (signature_data (types_of (items_of e.body)), is, (types_of (items_of e.body), refl))
        by (inr none) = inl none.1
    once Descriptors = by held.descriptors
      where
        by : (with_code 9 fs ≡ number_data u32 0 ∷ []) ⊎ (with_code 9 fs ≡ []) → AtMostOne Descriptors (with_code 9 fs)
        by (inl is) = inr (number_data u32 0, is, refl)
        by (inr none) = inl none

-- what was found is what the message has

slot_is : {A : Type 0} (view : A → Data) (o : Option A) (f : Option Data) (ds : List Data) → slot_list f ≡ ds → ds ≡ at_most_one view o → f ≡ some_of view o
slot_is view (Some x) (Some d) ds e g = let both = e ∙ g in let who : d ≡ view x = cc in ap some who
  where
    some : Data → Option Data
    some v = Some v
slot_is view (Some x) None ds e g = absurd (let both = e ∙ g in cc)
slot_is view None (Some d) ds e g = absurd (let both = e ∙ g in cc)
slot_is view None None ds e g = refl

pub describes : (bytes : List ℕ) (e : Envelope) (fs : List Field) (found : Found) → FrontIs bytes e fs → HasFields e fs → Tracks found fs → Describes e bytes found e.body
describes bytes e fs found front held tracks = record {
  order = sym front.order;
  kind = sym front.kind;
  flags = sym front.flags;
  serial = sym front.serial;
  path = slot_is path_data e.path found.path (with_code 1 fs) (tracks Path) held.path;
  interface = slot_is text_data e.interface found.interface (with_code 2 fs) (tracks Interface) held.interface;
  member = slot_is text_data e.member found.member (with_code 3 fs) (tracks Member) held.member;
  error = slot_is text_data e.error found.error (with_code 4 fs) (tracks Error) held.error;
  reply = slot_is (number_data u32) e.reply found.reply (with_code 5 fs) (tracks Reply) held.reply;
  destination = slot_is text_data e.destination found.destination (with_code 6 fs) (tracks Destination) held.destination;
  sender = slot_is text_data e.sender found.sender (with_code 7 fs) (tracks Sender) held.sender;
  body = refl;
}

-- the required fields

has_some : {A : Type 0} (view : A → Data) (o : Option A) (f : Option Data) → f ≡ some_of view o → IsSome o → is_there f ≡ true
has_some view (Some x) f e h = ap is_there e
has_some view None f e h = absurd cc

required_found : (e : Envelope) (bytes : List ℕ) (found : Found) (values : List Data) → Describes e bytes found values → HasRequired e → has_required e.kind found ≡ true
required_found e bytes found values d r = by (e.kind == 1) (e.kind == 2) (e.kind == 3) (e.kind == 4) refl refl refl refl
  where
    path : IsSome e.path → is_there found.path ≡ true
    path h = has_some path_data e.path found.path d.path h

    interface : IsSome e.interface → is_there found.interface ≡ true
    interface h = has_some text_data e.interface found.interface d.interface h

    member : IsSome e.member → is_there found.member ≡ true
    member h = has_some text_data e.member found.member d.member h

    error : IsSome e.error → is_there found.error ≡ true
    error h = has_some text_data e.error found.error d.error h

    reply : IsSome e.reply → is_there found.reply ≡ true
    reply h = has_some (number_data u32) e.reply found.reply d.reply h

    by : (p q s t : Bool) → (e.kind == 1) ≡ p → (e.kind == 2) ≡ q → (e.kind == 3) ≡ s → (e.kind == 4) ≡ t
        → cond p (is_there found.path && is_there found.member) (cond q (is_there found.reply) (cond s (is_there found.error && is_there found.reply) (cond t (is_there found.path && (is_there found.interface && is_there found.member)) true))) ≡ true
    by true q s t p_is q_is s_is t_is = let h = r.call (eqb-true _ 1 p_is) in rw (path h.0, member h.1) refl
    by false true s t p_is q_is s_is t_is = reply (r.return_ (eqb-true _ 2 q_is))
    by false false true t p_is q_is s_is t_is = let h = r.error (eqb-true _ 3 s_is) in rw (error h.0, reply h.1) refl
    by false false false true p_is q_is s_is t_is = let h = r.signal (eqb-true _ 4 t_is) in rw (path h.0, interface h.1, member h.2) refl
    by false false false false p_is q_is s_is t_is = refl

-- padding and body

all_zeros : (n : ℕ) → zeros_in_front (zeros n) ≡ n
all_zeros zero = refl
all_zeros (suc n) = ap suc (all_zeros n)

values_of : (ds : List Data) → values_in (items_of ds) ≡ ds
values_of [] = refl
values_of (d ∷ ds) = ap (λ (es : List Data). d ∷ es) (values_of ds)

types_held : (e : Envelope) (fs : List Field) (found : Found) → HasFields e fs → Tracks found fs → signature_found found.signature ≡ types_of (items_of e.body)
types_held e fs found held tracks = sym (types_found found.signature) ∙ ap types_of_value (tracks Signature) ∙ by held.signature
  where
    by : (with_code 8 fs ≡ signature_data (types_of (items_of e.body)) ∷ []) ⊎ ((e.body ≡ []) × (with_code 8 fs ≡ [])) → types_of_value (with_code 8 fs) ≡ types_of (items_of e.body)
    by (inl is) = ap types_of_value is
    by (inr none) = ap types_of_value none.1 ∙ ap (λ (ds : List Data). types_of (items_of ds)) (sym none.0)

padding_again : (bytes : List ℕ) → IsWhole bytes → Stands (input_in bytes) (fields_end_in bytes) (padding 8 (fields_end_in bytes)) (body_place_in bytes) → padding_at (input_in bytes) 8 (to_end bytes) (fields_end_in bytes) ≡ Ok (body_place_in bytes)
padding_again bytes w stands =
    let k = body_place_in bytes - fields_end_in bytes in
    let long : length (zeros k) ≡ k = length-zeros k in
    let slice : slice_in (input_in bytes) (fields_end_in bytes) k ≡ zeros k = ap (λ (n : ℕ). slice_in (input_in bytes) (fields_end_in bytes) n) (sym long) ∙ stands.1 in
    let count : front_zeros bytes ≡ k = ap zeros_in_front slice ∙ all_zeros k in
    padding_is bytes w ∙ rw (le-ltb (front_zeros bytes) k (omega (arith, count))) refl

values_again : (bytes : List ℕ) (values : List Data) (ks : Kinds) → ReadLaws (input_in bytes) → IsWhole bytes → AreLawful ks → types_of (items_of values) ≡ ks → Stand (input_in bytes) 64 ks (to_end bytes) (body_place_in bytes) (length bytes) (items_of values) → values_at bytes ks (body_place_in bytes) ≡ Ok values
values_again bytes [] no_kinds laws w lawful types s = rw (le-ltb (body_place_in bytes) (length bytes) (omega (arith, s.stand.0))) refl
values_again bytes (d ∷ values) no_kinds laws w lawful types s = absurd s.fit
values_again bytes values (kind k ks) laws w lawful types s =
    let e = body_again (input_in bytes) 64 (to_end bytes) laws (end_valid bytes) (kind k ks) (items_of values) (body_place_in bytes) (length bytes) lawful s in
    ap (λ (r : Result (List Data × ℕ) Fault). r >>= nothing_left bytes) e ∙ rw (le-ltb (length bytes) (length bytes) (omega arith)) (ap (λ (ds : List Data). done ds) (values_of values))

rest_again : (bytes : List ℕ) (e : Envelope) (fs : List Field) (found : Found) → ReadLaws (input_in bytes) → FrontIs bytes e fs → HasFields e fs → FitsWire e fs → bytes ≡ spelled_with e fs → Tracks found fs → rest_at bytes found ≡ Ok e.body
unfolding rest_at body_place body_bytes
rest_again bytes e fs found laws front held fits spelled tracks =
    let i = input_in bytes in
    let l = layout_to i e fs spelled in
    let start : body_place_in bytes ≡ aligned 8 (fields_end e.order fs) = ap (λ (n : ℕ). aligned 8 n) front.end in
    let S : ℕ → Type 0 = λ n. Stands i n (padding 8 n) (aligned 8 n) in
    let pad = padding_again bytes front.whole (subst S (sym front.end) l.padded) in
    let ks = types_of (items_of e.body) in
    let F : Order → Type 0 = λ o. FieldsFit o 64 (aligned 8 (fields_end e.order fs)) (items_of e.body) ks × Stands i (aligned 8 (fields_end e.order fs)) (spellings o (aligned 8 (fields_end e.order fs)) (items_of e.body)) (length bytes) in
    let G : ℕ → Type 0 = λ n. FieldsFit (order_in bytes) 64 n (items_of e.body) ks × Stands i n (spellings (order_in bytes) n (items_of e.body)) (length bytes) in
    let both = subst G (sym start) (subst F (sym front.order) (fits.body, l.body)) in
    let values = values_again bytes e.body ks laws front.whole fits.types.lawful refl (record { fit = both.0; stand = both.1; within = omega arith }) in
    let types = types_held e fs found held tracks in
    ap (λ (r : Result ℕ Fault). r >>= values_at bytes (signature_found found.signature)) pad ∙ ap (λ (js : Kinds). values_at bytes js (body_place_in bytes)) types ∙ values

fields_stand : (bytes : List ℕ) (e : Envelope) (fs : List Field) → FrontIs bytes e fs → FitsWire e fs → bytes ≡ spelled_with e fs → FieldsStand bytes fs (fields_end_in bytes)
fields_stand bytes e fs front fits spelled =
    let i = input_in bytes in
    let l = layout_to i e fs spelled in
    let F : Order → Type 0 = λ o. AllFit o 63 16 (field_items fs) field_kind × Stands i 16 (spellings o 16 (field_items fs)) (fields_end e.order fs) in
    let both = subst F (sym front.order) (fits.fields.2, l.fields) in
    record {
      fit = both.0;
      stand = subst (λ (n : ℕ). Stands i 16 (spellings (order_in bytes) 16 (field_items fs)) n) (sym front.end) both.1;
      within = omega arith;
    }

-- the bytes of a message are read as it
pub record IsReadAs (bytes : List ℕ) (e : Envelope) : Type 0 where
  pub found : Found
  pub read_ : message_at bytes ≡ Ok (found, e.body)
  pub describes : Describes e bytes found e.body
  pub sound : IsSoundFront bytes
  pub whole : IsWhole bytes

pub message_complete : (bytes : List ℕ) (e : Envelope) → ReadLaws (input_in bytes) → IsMessage e bytes → IsReadAs bytes e
unfolding message_at ended_at
message_complete bytes e laws m =
    let front = front_is bytes e m.fields m.meets m.fits m.spelled in
    let stand = fields_stand bytes e m.fields front m.fits m.spelled in
    let walk = walk_again (input_in bytes) (fields_bound bytes) laws (fields_valid bytes front.whole) m.fields (fields_end_in bytes) none_found [] 16 tracks_none (all_good e m.fields m.meets m.named m.held) stand (omega arith) in
    let d = describes bytes e m.fields walk.0 front m.held walk.2 in
    let R : ℕ → Type 0 = λ k. has_required k walk.0 ≡ true in
    let required = subst R (sym front.kind) (required_found e bytes walk.0 e.body d m.meets.required) in
    let rest = rest_again bytes e m.fields walk.0 laws front m.held m.fits m.spelled walk.2 in
    record {
      found = walk.0;
      read_ = ap (λ (r : Result Found Fault). r >>= ended_at bytes) walk.1 ∙ rw (required, rest) refl;
      describes = d;
      sound = front.sound;
      whole = front.whole;
    }
