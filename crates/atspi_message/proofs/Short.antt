-- Short messages that keep the rules are what their bytes spell; and a message keeps that under another sender.
use Rattle.std.proofs.Common.{◌≡◌, ℕ, ◌<◌, ◌≤◌, ◌^◌, Bool, true, false, List, [], ◌∷◌, ◌++◌, length, Option, Some, None, refl, sym, ap, subst, ◌∙◌, length-append, arith}
use Rattle.std.specs.Prelude.{◌==◌, nat_lt, IfSome, encode_utf8_all, if◌then◌else◌}
use Rattle.std.specs.Int.{w32}
use Rattle.std.specs.Str.{all_scalars}
use Rattle.std.proofs.lemmas.Bool.{ltb-true, ltb-false}
use Rattle.std.proofs.lemmas.Str.{IsUtf8-from_ascii, chars-IsAscii, scalars-chars}
use Rattle.atspi_base.specs.Text.{HasNoZero}
use Rattle.atspi_base.specs.valid_names.Names.{IsInterface, IsMember, IsBusName}
use Rattle.atspi_types.specs.Kinds.{Kind, number, text, path, signature, array, u32}
use Rattle.atspi_types.specs.Data.{Data, number_data, text_data, path_data, array_data, items_of, types_of, IsWellTyped}
use Rattle.atspi_types.specs.Signatures.{IsSignature}
use Rattle.atspi_marshal.specs.Input.{number_bytes}
use Rattle.atspi_marshal.specs.Spelling.{padding, single, spelling, spellings}
use Rattle.atspi_marshal.proofs.Typing.{typed}
use Rattle.atspi_message.specs.declared.code.Code.{Code}
use Rattle.atspi_message.specs.declared.code.Code.TheVariants as codes
use Rattle.atspi_message.specs.Codes.{IsNameFor}
use Rattle.atspi_message.specs.Envelope.{Envelope}
use Rattle.atspi_message.specs.Bytes.{Field, field_kind, field_items, field_if, signature_if, rising_fields, with_code, at_most_one, body_place, body_bytes, header_bytes, spelled_with, FitsWire, IsMessage, written}
use Rattle.atspi_message.proofs.Names.{name_is_plain, name_spells}
use Rattle.atspi_message.proofs.MessageWriting.{are_fields}
use Rattle.atspi_message.proofs.Rising.{written_is}
use Rattle.atspi_message.specs.Sits.{Sits, AllSit}
use Rattle.atspi_message.specs.Spellable.{IsSpellable}
use Rattle.atspi_message.proofs.Sitting.{fields_sit, sits, fits, fields_fit}

-- names as texts
pub name_sits : (c : Code) (bytes : List ℕ) → IsNameFor c bytes → (all_scalars bytes ≡ true) × HasNoZero (encode_utf8_all bytes)
name_sits c bytes h =
    let plain = name_is_plain c bytes h in
    (ap all_scalars (sym (chars-IsAscii bytes plain.0)) ∙ scalars-chars bytes (IsUtf8-from_ascii bytes plain.0), subst (λ (bs : List ℕ). HasNoZero bs) (sym (name_spells c bytes h)) plain.1)

pub if_map : {A : Type 0} (P Q : A → Type 0) (o : Option A) → ((x : A) → P x → Q x) → IfSome o P → IfSome o Q
if_map P Q None f h = tt
if_map P Q (Some x) f h = f x h

-- the types of fields are signatures
text_type : IsSignature (single text)
text_type = record { lawful = (tt, tt); fits = record { short = omega arith; arrays = omega arith; structs = omega arith } }

path_type : IsSignature (single path)
path_type = record { lawful = (tt, tt); fits = record { short = omega arith; arrays = omega arith; structs = omega arith } }

number_type : IsSignature (single (number u32))
number_type = record { lawful = (tt, tt); fits = record { short = omega arith; arrays = omega arith; structs = omega arith } }

signature_type : IsSignature (single signature)
signature_type = record { lawful = (tt, tt); fits = record { short = omega arith; arrays = omega arith; structs = omega arith } }

-- the fields of a message sit
abbrev FieldsSit : List Field → Type 0
FieldsSit fs = AllSit (field_items fs) 63

both_sit : (fs gs : List Field) → FieldsSit fs → FieldsSit gs → FieldsSit (fs ++ gs)
both_sit [] gs f g = g
both_sit (x ∷ fs) gs f g = (f.0, both_sit fs gs f.1 g)

one_sits : {A : Type 0} (code : ℕ) (k : Kind) (view : A → Data) (o : Option A) → code < 256 → IsSignature (single k) → IfSome o (λ x. Sits (view x) 61) → FieldsSit (field_if code k view o)
one_sits code k view None small is h = tt
one_sits code k view (Some x) small is h = ((small, ((is, h), tt)), tt)

types_sit : (ds : List Data) → IsSignature (types_of (items_of ds)) → FieldsSit (signature_if ds)
types_sit [] h = tt
types_sit (d ∷ ds) h = ((omega arith, ((signature_type, h), tt)), tt)

rising_sit : (e : Envelope) → IsSpellable e → FieldsSit (rising_fields e)
unfolding rising_fields
rising_sit e h =
    both_sit (field_if 1 path path_data e.path) _ (one_sits 1 path path_data e.path (omega arith) path_type h.named.path)
    (both_sit (field_if 2 text text_data e.interface) _ (one_sits 2 text text_data e.interface (omega arith) text_type (if_map IsInterface _ e.interface (name_sits codes.Interface) h.named.interface))
    (both_sit (field_if 3 text text_data e.member) _ (one_sits 3 text text_data e.member (omega arith) text_type (if_map IsMember _ e.member (name_sits codes.Member) h.named.member))
    (both_sit (field_if 4 text text_data e.error) _ (one_sits 4 text text_data e.error (omega arith) text_type (if_map IsInterface _ e.error (name_sits codes.Error) h.named.error))
    (both_sit (field_if 5 (number u32) (number_data u32) e.reply) _ (one_sits 5 (number u32) (number_data u32) e.reply (omega arith) number_type h.reply)
    (both_sit (field_if 6 text text_data e.destination) _ (one_sits 6 text text_data e.destination (omega arith) text_type (if_map IsBusName _ e.destination (name_sits codes.Destination) h.named.destination))
    (both_sit (field_if 7 text text_data e.sender) (signature_if e.body) (one_sits 7 text text_data e.sender (omega arith) text_type (if_map IsBusName _ e.sender (name_sits codes.Sender) h.named.sender))
    (types_sit e.body h.types)))))))

-- the fields and the body are parts of what is written
fields_within : (e : Envelope) (fs : List Field) → length (spelling e.order 12 (array_data field_kind (field_items fs))) ≤ length (spelled_with e fs)
unfolding spelled_with header_bytes
fields_within e fs =
    let fields = spelling e.order 12 (array_data field_kind (field_items fs)) in
    let serial = number_bytes e.order w32 e.serial in
    let size = number_bytes e.order w32 (length (body_bytes e fs)) in
    omega (arith, length-append (header_bytes e fs) (padding 8 (length (header_bytes e fs)) ++ body_bytes e fs), length-append size (serial ++ fields), length-append serial fields)

body_within : (e : Envelope) (fs : List Field) → length (spellings e.order (body_place e.order fs) (items_of e.body)) ≤ length (spelled_with e fs)
unfolding spelled_with body_bytes
body_within e fs =
    omega (arith, length-append (header_bytes e fs) (padding 8 (length (header_bytes e fs)) ++ body_bytes e fs), length-append (padding 8 (length (header_bytes e fs))) (body_bytes e fs))

field_lawful : IsWellTyped (array_data field_kind (field_items []))
field_lawful = ((tt, (tt, tt)), tt)

short_fits : (e : Envelope) → IsSpellable e → length (written e) ≤ 67108864 → FitsWire e (rising_fields e)
short_fits e h short =
    let fs = rising_fields e in
    let fields_short : length (spelling e.order 12 (array_data field_kind (field_items fs))) ≤ 67108864 = omega (arith, fields_within e fs, short) in
    let body_short : length (spellings e.order (body_place e.order fs) (items_of e.body)) ≤ 67108864 = omega (arith, body_within e fs, short) in
    record {
      kind = h.kind;
      flags = h.flags;
      serial = h.serial;
      fields = fits (array_data field_kind (field_items fs)) e.order 64 12 (field_lawful.0, are_fields e) (rising_sit e h) fields_short;
      types = h.types;
      body = fields_fit (items_of e.body) e.order 64 (body_place e.order fs) h.meets.body h.body body_short;
      short = omega (arith, short);
    }

pub short_spelled : (e : Envelope) → IsSpellable e → length (written e) ≤ 67108864 → IsMessage e (written e)
short_spelled e h short = written_is e h.meets h.named (short_fits e h short)

pub unfit_long : (e : Envelope) → IsSpellable e → (FitsWire e (rising_fields e) → ⊥) → 67108864 < length (written e)
unfit_long e h unfit = by (nat_lt 67108864 (length (written e))) refl
  where
    by : (b : Bool) → nat_lt 67108864 (length (written e)) ≡ b → 67108864 < length (written e)
    by true is = ltb-true 67108864 (length (written e)) is
    by false is = absurd (unfit (short_fits e h (ltb-false 67108864 (length (written e)) is)))

-- the value of a code that stands in fields sits
code_sits : (c : ℕ) (fs : List Field) → FieldsSit fs → (d : Data) → with_code c fs ≡ d ∷ [] → Sits d 61
code_sits c [] s d h = absurd cc
code_sits c (f ∷ fs) s d h = by (f.code == c) (code_sits c fs s.1 d) h
  where
    by : (b : Bool) → (with_code c fs ≡ d ∷ [] → Sits d 61) → (if b then f.value ∷ with_code c fs else with_code c fs) ≡ d ∷ [] → Sits d 61
    by true rest g = let same : f.value ≡ d = cc in subst (λ x. Sits x 61) same s.0.1.0.1
    by false rest g = rest g

message_fields : (e : Envelope) (bytes : List ℕ) (m : IsMessage e bytes) → FieldsSit m.fields
message_fields e bytes m =
    let fields = array_data field_kind (field_items m.fields) in
    sits fields e.order 64 12 (typed fields e.order 64 12 (array field_kind) field_lawful.0 m.fits.fields).1 m.fits.fields

reply_small : (e : Envelope) (bytes : List ℕ) → IsMessage e bytes → IfSome e.reply (λ n. n < 2 ^ 32)
reply_small e bytes m = by e.reply m.held.reply
  where
    by : (o : Option ℕ) → with_code 5 m.fields ≡ at_most_one (number_data u32) o → IfSome o (λ n. n < 2 ^ 32)
    by None h = tt
    by (Some n) h = code_sits 5 m.fields (message_fields e bytes m) (number_data u32 n) h

pub message_spellable : (e : Envelope) (bytes : List ℕ) → IsMessage e bytes → IsSpellable e
message_spellable e bytes m = record {
  meets = m.meets;
  named = m.named;
  kind = m.fits.kind;
  flags = m.fits.flags;
  serial = m.fits.serial;
  reply = reply_small e bytes m;
  types = m.fits.types;
  body = fields_sit (items_of e.body) e.order 64 (body_place e.order m.fields) m.meets.body m.fits.body;
}

-- the sender that the bus sets
pub with_sender : (e : Envelope) (name : List ℕ) → IsSpellable e → IsBusName name → IsSpellable (record e { sender = Some name })
with_sender e name h is = record {
  meets = record {
    typed = h.meets.typed;
    required = record { call = h.meets.required.call; return_ = h.meets.required.return_; error = h.meets.required.error; signal = h.meets.required.signal };
    numbered = h.meets.numbered;
    replies = h.meets.replies;
    body = h.meets.body;
  };
  named = record {
    path = h.named.path;
    interface = h.named.interface;
    member = h.named.member;
    error = h.named.error;
    destination = h.named.destination;
    sender = is;
  };
  kind = h.kind;
  flags = h.flags;
  serial = h.serial;
  reply = h.reply;
  types = h.types;
  body = h.body;
}
