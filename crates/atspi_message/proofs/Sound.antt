-- What is read is a message.
use Rattle.std.proofs.Common.{◌≡◌, ℕ, zero, suc, ◌+◌, ◌-◌, ◌<◌, ◌≤◌, ◌^◌, Bool, true, false, cond, ltb, List, [], ◌∷◌, ◌++◌, length, get_or, take, drop, lit≤, Option, Some, None, Result, Ok, Err, refl, sym, ap, subst, ◌∙◌, arith, inl, inr, ◌⊎◌}
use Rattle.std.specs.Prelude.{◌≢◌, ◌==◌, ◌&&◌, IsSome, IfSome, if◌then◌else◌}
use Rattle.std.specs.Int.{w8, w32, byte_len}
use Rattle.std.proofs.lemmas.Bool.{eqb-true, eqb-false, eq-eqb, ltb-true, ltb-false, lt-ltb, le-ltb, cases_lt}
use Rattle.std.proofs.lemmas.List.{length-drop}
use Rattle.atspi_types.specs.Kinds.{Kind, Kinds, no_kinds, kind, types_in, u32, array, AreLawful}
use Rattle.atspi_types.specs.Data.{Data, Items, number_data, text_data, path_data, signature_data, array_data, item, no_items, items_of, types_of, AreWellTyped}
use Rattle.atspi_types.specs.Signatures.{IsSignature, signature_bytes}
use Rattle.atspi_base.specs.valid_names.Names.{IsPath, IsInterface, IsMember, IsBusName}
use Rattle.atspi_types.specs.declared.fault.Fault.{Fault}
use Rattle.atspi_types.specs.declared.fault.Order.{Order}
use Rattle.atspi_types.specs.declared.fault.Order.TheVariants.{Little, Big}
use Rattle.atspi_marshal.specs.Input.{Input, Stands, whole, to_end, number_bytes, number_in, byte_in, slice_in, aligned}
use Rattle.atspi_marshal.specs.Spelling.{zeros, padding, spelling, spellings, Fits, AllFit, FieldsFit}
use Rattle.atspi_marshal.specs.Faults.{AreItems}
use Rattle.atspi_marshal.specs.Reading.{◌>>=◌, bad, zeros_in_front, padding_at, fields_at}
use Rattle.atspi_marshal.proofs.Places.{IsBytes, IsValid, bind_ok, ok_is, done, passed, passed_not, number_takes, wide32, length-zeros, Stands-byte, Stands-append, Padded, padding_takes}
use Rattle.atspi_message.specs.declared.code.Code.TheVariants.{Path, Interface, Member, Error, Reply, Destination, Sender, Signature, Descriptors}
use Rattle.atspi_message.specs.Envelope.{Envelope}
use Rattle.atspi_message.specs.Rules.{HasRequired, MeetsRules, HasNames}
use Rattle.atspi_message.specs.Bytes.{Field, field_kind, field_items, with_code, order_byte, at_most_one, body_place, body_bytes, spelled_with, HasFields, FitsWire, IsMessage}
use Rattle.atspi_message.specs.Front.{order_in, input_in, type_in, version_in, serial_in, body_length_in, fields_length_in, fields_end_in, body_place_in, length_in, IsSoundFront}
use Rattle.atspi_message.specs.Faults.{fields_bound, FieldsStand, body_types, types_of_value, BodyStands}
use Rattle.atspi_message.specs.inner.Reading.{Found, none_found, slot, some_of, is_there, all_fields_at, nothing_left, values_at, signature_found, rest_at, has_required, missing_at, with_found, ended_at, message_at, Describes}
use Rattle.atspi_message.proofs.Told.{ReadLaws, failed}
use Rattle.atspi_message.proofs.Values.{IsGoodValue}
use Rattle.atspi_message.proofs.Found.{slot_list, Tracks, tracks_none}
use Rattle.atspi_message.proofs.Walk.{GoodFound, WalkRead, walk_read}
use Rattle.atspi_message.proofs.Body.{Stand, one_at, body_read}
use Rattle.atspi_message.proofs.Rest.{IsWhole, fields_valid, end_valid, body_lawful, types_found}
use Rattle.atspi_message.proofs.Whole.{none_good}
use Rattle.atspi_message.proofs.Placed.{fields_bytes, fields_end, four, Layout, layout_from}
use Rattle.atspi_marshal.proofs.Typing.{fields_typed}

-- names are good

opened : {A : Type 0} (view : A → Data) (o : Option A) (x : A) → o ≡ Some x → some_of view o ≡ Some (view x)
opened view o x e = rw e refl

path_good : (v : Data) (bytes : List ℕ) → v ≡ path_data bytes → IsGoodValue Path v → IsPath bytes
path_good v bytes e g = let who : g.0 ≡ bytes = (let both = sym g.1 ∙ e in cc) in subst (λ (b : List ℕ). IsPath b) who g.2

interface_good : (v : Data) (bytes : List ℕ) → v ≡ text_data bytes → IsGoodValue Interface v → IsInterface bytes
interface_good v bytes e g = let who : g.0 ≡ bytes = (let both = sym g.1 ∙ e in cc) in subst (λ (b : List ℕ). IsInterface b) who g.2

member_good : (v : Data) (bytes : List ℕ) → v ≡ text_data bytes → IsGoodValue Member v → IsMember bytes
member_good v bytes e g = let who : g.0 ≡ bytes = (let both = sym g.1 ∙ e in cc) in subst (λ (b : List ℕ). IsMember b) who g.2

bus_name_good : (v : Data) (bytes : List ℕ) → v ≡ text_data bytes → IsGoodValue Sender v → IsBusName bytes
bus_name_good v bytes e g = let who : g.0 ≡ bytes = (let both = sym g.1 ∙ e in cc) in subst (λ (b : List ℕ). IsBusName b) who g.2

reply_good : (v : Data) (n : ℕ) → v ≡ number_data u32 n → IsGoodValue Reply v → n ≢ 0
reply_good v n e g = let who : g.0 ≡ n = (let both = sym g.1 ∙ e in cc) in subst (λ (m : ℕ). m ≢ 0) who g.2

each : {A : Type 0} (o : Option A) (P : A → Type 0) → ((x : A) → o ≡ Some x → P x) → IfSome o P
each (Some x) P h = h x refl
each None P h = tt

pub names_read : (e : Envelope) (bytes : List ℕ) (found : Found) (values : List Data) → GoodFound found → Describes e bytes found values → HasNames e
names_read e bytes found values good d = record {
  path = each e.path IsPath (λ x is. path_good (path_data x) x refl (good Path (path_data x) (d.path ∙ opened path_data e.path x is)));
  interface = each e.interface IsInterface (λ x is. interface_good (text_data x) x refl (good Interface (text_data x) (d.interface ∙ opened text_data e.interface x is)));
  member = each e.member IsMember (λ x is. member_good (text_data x) x refl (good Member (text_data x) (d.member ∙ opened text_data e.member x is)));
  error = each e.error IsInterface (λ x is. interface_good (text_data x) x refl (good Error (text_data x) (d.error ∙ opened text_data e.error x is)));
  destination = each e.destination IsBusName (λ x is. bus_name_good (text_data x) x refl (good Destination (text_data x) (d.destination ∙ opened text_data e.destination x is)));
  sender = each e.sender IsBusName (λ x is. bus_name_good (text_data x) x refl (good Sender (text_data x) (d.sender ∙ opened text_data e.sender x is)));
}

pub replies_read : (e : Envelope) (bytes : List ℕ) (found : Found) (values : List Data) → GoodFound found → Describes e bytes found values → IfSome e.reply (λ n. n ≢ 0)
replies_read e bytes found values good d = each e.reply (λ n. n ≢ 0) (λ n is. reply_good (number_data u32 n) n refl (good Reply (number_data u32 n) (d.reply ∙ opened (number_data u32) e.reply n is)))

-- required fields

both_true : (a b : Bool) → (a && b) ≡ true → (a ≡ true) × (b ≡ true)
both_true true b e = (refl, e)
both_true false b e = absurd cc

is_some : {A : Type 0} (view : A → Data) (o : Option A) (f : Option Data) → f ≡ some_of view o → is_there f ≡ true → IsSome o
is_some view (Some x) f e t = refl
is_some view None f e t = absurd (let none = ap is_there e in let clash = sym t ∙ none in cc)

pub required_read : (e : Envelope) (bytes : List ℕ) (found : Found) (values : List Data) → Describes e bytes found values → has_required e.kind found ≡ true → HasRequired e
required_read e bytes found values d all = record { call = call; return_ = return_; error = error; signal = signal }
  where
    at : (n : ℕ) → e.kind ≡ n → has_required n found ≡ true
    at n is = subst (λ (k : ℕ). has_required k found ≡ true) is all

    call : e.kind ≡ 1 → IsSome e.path × IsSome e.member
    call is = let t = both_true (is_there found.path) (is_there found.member) (at 1 is) in (is_some path_data e.path found.path d.path t.0, is_some text_data e.member found.member d.member t.1)

    return_ : e.kind ≡ 2 → IsSome e.reply
    return_ is = is_some (number_data u32) e.reply found.reply d.reply (at 2 is)

    error : e.kind ≡ 3 → IsSome e.error × IsSome e.reply
    error is = let t = both_true (is_there found.error) (is_there found.reply) (at 3 is) in (is_some text_data e.error found.error d.error t.0, is_some (number_data u32) e.reply found.reply d.reply t.1)

    signal : e.kind ≡ 4 → IsSome e.path × IsSome e.interface × IsSome e.member
    signal is =
        let t = both_true (is_there found.path) (is_there found.interface && is_there found.member) (at 4 is) in
        let r = both_true (is_there found.interface) (is_there found.member) t.1 in
        (is_some path_data e.path found.path d.path t.0, is_some text_data e.interface found.interface d.interface r.0, is_some text_data e.member found.member d.member r.1)

-- the body

pub record RestRead (bytes : List ℕ) (ks : Kinds) (values : List Data) : Type 0 where
  pub zeros : Stands (input_in bytes) (fields_end_in bytes) (padding 8 (fields_end_in bytes)) (body_place_in bytes)
  pub stand : BodyStands bytes ks (items_of values) (length bytes)

values_read : (bytes : List ℕ) (ks : Kinds) (values : List Data) → ReadLaws (input_in bytes) → IsWhole bytes → AreLawful ks → values_at bytes ks (body_place_in bytes) ≡ Ok values → BodyStands bytes ks (items_of values) (length bytes)
values_read bytes no_kinds values laws w lawful e =
    let g = passed (ltb (body_place_in bytes) (length bytes)) (record { place = body_place_in bytes; reason = 35 }) (done {A = List Data} []) values e in
    let same = ok_is {A = List Data} [] values g.1 in
    let end : body_place_in bytes ≡ length bytes = omega (arith, w.whole, ltb-false _ _ g.0) in
    let B : List Data → Type 0 = λ ds. BodyStands bytes no_kinds (items_of ds) (length bytes) in
    subst B same (record { fit = tt; stand = subst (λ (n : ℕ). Stands (input_in bytes) (body_place_in bytes) [] n) end (omega arith, refl); within = omega arith })
values_read bytes (kind k ks) values laws w lawful e =
    let a = bind_ok (fields_at (one_at (input_in bytes) 64 (to_end bytes)) (types_in (kind k ks)) (body_place_in bytes)) (nothing_left bytes) values e in
    let s = body_read (input_in bytes) 64 (to_end bytes) laws (end_valid bytes) (kind k ks) (body_place_in bytes) a.0 lawful (omega (arith, w.whole)) a.1 in
    let g = passed (ltb a.0.1 (length bytes)) (record { place = a.0.1; reason = 21 }) (done a.0.0) values a.2 in
    let same = ok_is a.0.0 values g.1 in
    let end : a.0.1 ≡ length bytes = omega (arith, s.within, ltb-false _ _ g.0) in
    let B : List Data → Type 0 = λ ds. BodyStands bytes (kind k ks) (items_of ds) (length bytes) in
    subst B same (record { fit = s.fit; stand = subst (λ (n : ℕ). Stands (input_in bytes) (body_place_in bytes) (spellings (input_in bytes).order (body_place_in bytes) (items_of a.0.0)) n) end s.stand; within = omega arith })

rest_read : (bytes : List ℕ) (ks : Kinds) (found : Found) (values : List Data) → ReadLaws (input_in bytes) → IsWhole bytes → AreLawful ks → signature_found found.signature ≡ ks → rest_at bytes found ≡ Ok values → RestRead bytes ks values
unfolding rest_at
rest_read bytes ks found values laws w lawful types e =
    let a = bind_ok (padding_at (input_in bytes) 8 (to_end bytes) (fields_end_in bytes)) (values_at bytes (signature_found found.signature)) values e in
    let p = padding_takes (input_in bytes) 8 (to_end bytes) (fields_end_in bytes) a.0 (end_valid bytes) a.1 in
    let at_body : values_at bytes ks (body_place_in bytes) ≡ Ok values = subst (λ (n : ℕ). values_at bytes ks n ≡ Ok values) p.place (subst (λ (js : Kinds). values_at bytes js a.0 ≡ Ok values) types a.2) in
    record {
      zeros = subst (λ (n : ℕ). Stands (input_in bytes) (fields_end_in bytes) (padding 8 (fields_end_in bytes)) n) p.place p.stands;
      stand = values_read bytes ks values laws w lawful at_body;
    }

-- all that was read of a message
pub record MessageRead (bytes : List ℕ) (found : Found) (values : List Data) : Type 0 where
  pub fields : List Field
  pub stand : FieldsStand bytes fields (fields_end_in bytes)
  pub tracks : Tracks found fields
  pub good : GoodFound found
  pub no_zero : with_code 0 fields ≡ []
  pub required : has_required (type_in bytes) found ≡ true
  pub rest : RestRead bytes (body_types fields) values

pub message_read : (bytes : List ℕ) (found : Found) (values : List Data) → ReadLaws (input_in bytes) → IsWhole bytes → message_at bytes ≡ Ok (found, values) → MessageRead bytes found values
unfolding message_at ended_at
message_read bytes found values laws w e =
    let a = bind_ok (all_fields_at (input_in bytes) (fields_bound bytes) (fields_end_in bytes) none_found 16) (ended_at bytes) (found, values) e in
    let t = walk_read (input_in bytes) (fields_bound bytes) laws (fields_valid bytes w) (fields_end_in bytes) none_found [] 16 a.0 tracks_none none_good refl (omega arith) (omega arith) a.1 in
    by a.0 t (has_required (type_in bytes) a.0) refl a.2
  where
    missing : (p : ℕ) (r : Result (List Data) Fault) (ds : List Data) → missing_at p r ≡ Ok ds → ⊥
    missing p (Ok x) ds e = cc
    missing p (Err g) ds e = which (g.place == p && ltb g.reason 34) e
      where
        which : (t : Bool) → cond t (failed g) (bad {A = List Data} p 34) ≡ Ok ds → ⊥
        which true e = cc
        which false e = cc

    same : (f : Found) (ds : List Data) → done {A = Found × List Data} (f, ds) ≡ Ok (found, values) → (f ≡ found) × (ds ≡ values)
    same f ds e = let pair = ok_is {A = Found × List Data} (f, ds) (found, values) e in (ap (λ (x : Found × List Data). x.0) pair, ap (λ (x : Found × List Data). x.1) pair)

    by : (f : Found) → WalkRead (input_in bytes) (fields_bound bytes) [] 16 f → (t : Bool) → has_required (type_in bytes) f ≡ t
        → (cond t (rest_at bytes f) (missing_at (fields_end_in bytes) (rest_at bytes f)) >>= with_found f) ≡ Ok (found, values) → MessageRead bytes found values
    by f t false is e = absurd (let a = bind_ok (missing_at (fields_end_in bytes) (rest_at bytes f)) (with_found f) (found, values) e in missing (fields_end_in bytes) (rest_at bytes f) a.0 a.1)
    by f t true is e =
        let a = bind_ok (rest_at bytes f) (with_found f) (found, values) e in
        let s = same f a.0 a.2 in
        let lawful = body_lawful bytes t.more (fields_end_in bytes) t.stand in
        let types = sym (types_found f.signature) ∙ ap types_of_value (t.tracks Signature) in
        let r = rest_read bytes (body_types t.more) f values laws w lawful types (a.1 ∙ ap (λ (ds : List Data). done ds) s.1) in
        let M : Found → Type 0 = λ g. MessageRead bytes g values in
        subst M s.0 (record { fields = t.more; stand = t.stand; tracks = t.tracks; good = t.good; no_zero = t.lacks; required = is; rest = r })
