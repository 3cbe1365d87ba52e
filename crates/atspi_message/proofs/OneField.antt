-- One field of a header, beside any struct of a byte and a variant.
use Rattle.std.proofs.Common.{◌≡◌, ℕ, zero, suc, ◌+◌, ◌-◌, ◌<◌, ◌≤◌, Bool, true, false, cond, eqb, ltb, List, [], ◌∷◌, ◌++◌, length, take, drop, Option, Some, None, Result, Ok, Err, refl, sym, ap, subst, ◌∙◌, arith, inl, inr, ◌⊎◌}
use Rattle.std.specs.Prelude.{◌==◌, ◌≢◌}
use Rattle.std.specs.Int.{w8, w32, from_le_bytes, from_be_bytes}
use Rattle.std.proofs.lemmas.Bool.{eqb-true, eqb-false, eq-eqb, ltb-true, ltb-false, le-ltb}
use Rattle.std.proofs.lemmas.List.{length-append}
use Rattle.atspi_types.specs.declared.fault.Order.{Order}
use Rattle.atspi_types.specs.declared.fault.Order.TheVariants.{Little, Big}
use Rattle.atspi_types.specs.Kinds.{Kind, Kinds, number, byte, variant, structure, no_kinds, kind, IsLawful}
use Rattle.atspi_types.specs.Data.{Data, number_data, boolean_data, text_data, path_data, signature_data, array_data, structure_data, dictionary_data, variant_data, item, no_items}
use Rattle.atspi_types.specs.declared.fault.Fault.{Fault}
use Rattle.atspi_marshal.specs.declared.input.Bound.{Bound}
use Rattle.atspi_marshal.specs.Input.{Input, Stands, from_bytes, number_in, byte_in, slice_in, aligned}
use Rattle.atspi_marshal.specs.Spelling.{Fits, zeros, padding}
use Rattle.atspi_marshal.specs.Faults.{IsItem, Wrong}
use Rattle.atspi_types.specs.SignatureFaults.{Before}
use Rattle.atspi_marshal.specs.Reading.{◌>>=◌, bad, passing_reason, zeros_in_front, padding_at, room_at, read, level, single_at, structure_at, number_at, fields_at, fields_first, as_structure, as_variant}
use Rattle.atspi_marshal.proofs.Places.{IsValid, Padded, padding_takes, Roomy, room_takes, bind_ok, ok_is, done, passed, passed_not, Stands-byte, aligned-one}
use Rattle.atspi_message.specs.declared.code.Code.{Code}
use Rattle.atspi_message.specs.Codes.{number_of, code_of, kind_for}
use Rattle.atspi_message.specs.Bytes.{Field, field_kind, field_data}
use Rattle.atspi_message.specs.Faults.{Lacks, WrongAlone, no_code, second}
use Rattle.atspi_message.specs.inner.Reading.{Found, slot, put, is_there, value_at, typed_at, with_value, dropped, known_at, coded_at, field_at}
use Rattle.atspi_message.proofs.Room.{room_here}
use Rattle.atspi_message.proofs.Told.{ReadLaws, Alone, Told, told_is, told_behind, failed, err_is}
use Rattle.atspi_message.proofs.Typed.{Typed, typed_ok, typed_told, typed_value, inside_to}
use Rattle.atspi_message.proofs.Values.{IsGoodValue, Valued, value_ok, value_told}
use Rattle.atspi_message.proofs.Found.{code_of-number, number-code_of, number_not_zero, put_some, found_with, Tracks, there_not}

-- the code and the variant of a field as a struct
abbrev pub packed : ℕ → Data → Data
packed n d = structure_data (item (number_data byte n) (item d no_items))

abbrev pub pack : ℕ → Data × ℕ → Result (Data × ℕ) Fault
pack n x = Ok (packed n x.0, x.1)

byte_number : (i : Input) (at : ℕ) → at + 1 ≤ length i.bytes → number_in i w8 at ≡ byte_in i at
byte_number i at le = ap (from_bytes i.order w8) (Stands-byte i at le).1 ∙ alone i.order (byte_in i at)
  where
    alone : (o : Order) (b : ℕ) → from_bytes o w8 (b ∷ []) ≡ b
    alone Little b = refl
    alone Big b = refl

-- behind its padding a struct of a byte and a variant has room for the byte
abbrev pub behind_code : Input → Bound → ℕ → Result (Data × ℕ) Fault
behind_code i b p = read i 62 variant b (p + 1) >>= pack (byte_in i p)

abbrev a_byte : Input → ℕ → Result (Data × ℕ) Fault
a_byte i q = Ok (number_data byte (number_in i w8 q), q + 1)

abbrev last_field : Data × ℕ → Result (List Data × ℕ) Fault
last_field y = Ok (y.0 ∷ [], y.1)

two_fields : (i : Input) (b : Bound) (p : ℕ) → IsValid i b → p ≤ b.end
    → (fields_at (λ k q. read i 62 k b q) (number byte ∷ variant ∷ []) p >>= as_structure) ≡ (cond (ltb b.end (p + 1)) (bad p b.reason) (Ok p) >>= behind_code i b)
unfolding read level single_at number_at
two_fields i b p valid le = rw (room_here i 1 1 b p (a_byte i) (aligned-one p) le) (split (ltb b.end (p + 1)) (read i 62 variant b (p + 1)) refl refl)
  where
    split : (t : Bool) (r : Result (Data × ℕ) Fault) → ltb b.end (p + 1) ≡ t → read i 62 variant b (p + 1) ≡ r
        → ((cond t (bad p b.reason) (a_byte i p) >>= λ x. fields_at (λ k q. read i 62 k b q) (variant ∷ []) x.1 >>= fields_first x.0) >>= as_structure) ≡ (cond t (bad p b.reason) (Ok p) >>= behind_code i b)
    split true r is e = refl
    split false r is e = rw e (by r (byte_number i p (omega (arith, ltb-false b.end (p + 1) is, valid.long))))
      where
        by : (r : Result (Data × ℕ) Fault) → number_in i w8 p ≡ byte_in i p → (((r >>= last_field) >>= fields_first (number_data byte (number_in i w8 p))) >>= as_structure) ≡ (r >>= pack (byte_in i p))
        by (Err f) n = refl
        by (Ok x) n = rw n refl

pub field_value : (i : Input) (b : Bound) (at : ℕ) → IsValid i b → read i 63 field_kind b at ≡ (room_at i 8 1 b at >>= behind_code i b)
unfolding read level structure_at room_at
field_value i b at valid = split (padding_at i 8 b at) refl
  where
    split : (r : Result ℕ Fault) → padding_at i 8 b at ≡ r
        → (r >>= λ p. fields_at (λ k q. read i 62 k b q) (number byte ∷ variant ∷ []) p >>= as_structure) ≡ ((r >>= λ p. cond (ltb b.end (p + 1)) (bad p b.reason) (Ok p)) >>= behind_code i b)
    split (Err f) e = refl
    split (Ok p) e = two_fields i b p valid (padding_takes i 8 b at p valid e).within

-- the parts of a struct of a byte and a variant that was read
pub record Parts (i : Input) (b : Bound) (at : ℕ) (x : Data × ℕ) : Type 0 where
  pub roomy : aligned 8 at + 1 ≤ b.end
  pub room_is : room_at i 8 1 b at ≡ Ok (aligned 8 at)
  pub inner : Data
  pub variant_is : read i 62 variant b (aligned 8 at + 1) ≡ Ok (inner, x.1)
  pub is : x.0 ≡ packed (byte_in i (aligned 8 at)) inner

pub room_place : (i : Input) (b : Bound) (at p : ℕ) → IsValid i b → room_at i 8 1 b at ≡ Ok p → (p ≡ aligned 8 at) × (p + 1 ≤ b.end)
room_place i b at p valid e = let r = room_takes i 8 1 b at p valid e in (r.place, r.within)

pub field_parts : (i : Input) (b : Bound) (at : ℕ) (x : Data × ℕ) → IsValid i b → read i 63 field_kind b at ≡ Ok x → Parts i b at x
field_parts i b at x valid e =
    let a = bind_ok (room_at i 8 1 b at) (behind_code i b) x (sym (field_value i b at valid) ∙ e) in
    let place = room_place i b at a.0 valid a.1 in
    let rest : behind_code i b (aligned 8 at) ≡ Ok x = subst (λ (p : ℕ). behind_code i b p ≡ Ok x) place.0 a.2 in
    let c = bind_ok (read i 62 variant b (aligned 8 at + 1)) (pack (byte_in i (aligned 8 at))) x rest in
    let made = ok_is (packed (byte_in i (aligned 8 at)) c.0.0, c.0.1) x c.2 in
    record {
      roomy = subst (λ (p : ℕ). p + 1 ≤ b.end) place.0 place.1;
      room_is = subst (λ (p : ℕ). room_at i 8 1 b at ≡ Ok p) place.0 a.1;
      inner = c.0.0;
      variant_is = c.1 ∙ ap (λ (n : ℕ). done (c.0.0, n)) (ap (λ (y : Data × ℕ). y.1) made);
      is = sym (ap (λ (y : Data × ℕ). y.0) made);
    }

-- what a variant is
variant_form : (o : Order) (levels at : ℕ) (d : Data) → Fits o (suc levels) at d variant → (k : Kind) × (v : Data) × (d ≡ variant_data k v)
variant_form o levels at (number_data n x) h = absurd h
variant_form o levels at (boolean_data x) h = absurd h
variant_form o levels at (text_data x) h = absurd h
variant_form o levels at (path_data x) h = absurd h
variant_form o levels at (signature_data x) h = absurd h
variant_form o levels at (array_data k x) h = absurd h
variant_form o levels at (structure_data x) h = absurd h
variant_form o levels at (dictionary_data k v x) h = absurd h
variant_form o levels at (variant_data k v) h = (k, v, refl)

-- a field that is read behind others
pub record FieldRead (i : Input) (b : Bound) (found : Found) (at : ℕ) (y : Found × ℕ) : Type 0 where
  pub field : Field
  pub read_ : read i 63 field_kind b at ≡ Ok (field_data field, y.1)
  pub found_is : y.0 ≡ found_with field found
  pub not_zero : field.code ≢ 0
  pub good : (c : Code) → field.code ≡ number_of c → IsGoodValue c field.value × (is_there (slot c found) ≡ false)

-- the code with a variant that was read
whole_field : (i : Input) (b : Bound) (at p next : ℕ) (k : Kind) (v : Data) → IsValid i b → room_at i 8 1 b at ≡ Ok p → read i 62 variant b (p + 1) ≡ Ok (variant_data k v, next)
    → read i 63 field_kind b at ≡ Ok (field_data (record { code = byte_in i p; kind = k; value = v }), next)
whole_field i b at p next k v valid room e = field_value i b at valid ∙ rw (room, e) refl

unknown_read : (i : Input) (b : Bound) (found : Found) (at p : ℕ) (y : Found × ℕ) → ReadLaws i → IsValid i b → room_at i 8 1 b at ≡ Ok p → byte_in i p ≢ 0 → code_of (byte_in i p) ≡ None
    → (read i 62 variant b (p + 1) >>= dropped found) ≡ Ok y → FieldRead i b found at y
unknown_read i b found at p y laws valid room coded none e =
    let a = bind_ok (read i 62 variant b (p + 1)) (dropped found) y e in
    let made = ok_is (found, a.0.1) y a.2 in
    let is = (laws.sound 62 variant b (p + 1) a.0 tt valid a.1).0 in
    let form = variant_form i.order 61 (p + 1) a.0.0 is.fits in
    let variant_is : read i 62 variant b (p + 1) ≡ Ok (variant_data form.0 form.1, a.0.1) = a.1 ∙ ap (λ (d : Data). done (d, a.0.1)) form.2 in
    let whole = whole_field i b at p a.0.1 form.0 form.1 valid room variant_is in
    subst (λ (z : Found × ℕ). FieldRead i b found at z) made (record {
      field = record { code = byte_in i p; kind = form.0; value = form.1 };
      read_ = whole;
      found_is = sym (ap (λ (o : Option Code). put_some o form.1 found) none);
      not_zero = coded;
      good = λ c is. absurd (let some = ap code_of is ∙ code_of-number c in let clash = sym none ∙ some in cc);
    })

known_read : (i : Input) (b : Bound) (found : Found) (at p : ℕ) (c : Code) (y : Found × ℕ) → ReadLaws i → IsValid i b → room_at i 8 1 b at ≡ Ok p → p + 1 ≤ b.end → aligned 4 (p + 4) ≡ p + 4 → byte_in i p ≢ 0 → code_of (byte_in i p) ≡ Some c
    → known_at i b found p c ≡ Ok y → FieldRead i b found at y
unfolding known_at
known_read i b found at p c y laws valid room within same coded some e =
    let a = passed (is_there (slot c found)) (record { place = p; reason = 30 }) (typed_at i b c (p + 1) >>= λ q. value_at i b c q >>= with_value c found) y e in
    let t = bind_ok (typed_at i b c (p + 1)) (λ q. value_at i b c q >>= with_value c found) y a.1 in
    let typed = typed_ok i b c (p + 1) t.0 within t.1 in
    let place : t.0 ≡ p + 4 = omega (arith, typed.is) in
    let rest : (value_at i b c (p + 4) >>= with_value c found) ≡ Ok y = subst (λ (q : ℕ). (value_at i b c q >>= with_value c found) ≡ Ok y) place t.2 in
    let v = bind_ok (value_at i b c (p + 4)) (with_value c found) y rest in
    let made = ok_is (put c v.0.0 found, v.0.1) y v.2 in
    let fits : p + 4 ≤ b.end = omega (arith, (inside_to i b (p + 1) typed.typed.0).whole, typed.typed.1) in
    let valued = value_ok i 60 b c (p + 4) v.0 same fits v.1 in
    let third : p + 1 + 3 ≡ p + 4 = omega arith in
    let inner : (read i 61 (kind_for c) b (p + 1 + 3) >>= as_variant (kind_for c)) ≡ Ok (variant_data (kind_for c) v.0.0, v.0.1) = rw (third, valued.read_) refl in
    let variant_is = typed_value i 61 b (p + 1) c laws valid typed.typed typed.ended ∙ inner in
    let whole = whole_field i b at p v.0.1 (kind_for c) v.0.0 valid room variant_is in
    subst (λ (z : Found × ℕ). FieldRead i b found at z) made (record {
      field = record { code = byte_in i p; kind = kind_for c; value = v.0.0 };
      read_ = whole;
      found_is = sym (ap (λ (o : Option Code). put_some o v.0.0 found) some);
      not_zero = coded;
      good = λ k is. (
          let who : c ≡ k = (let both = sym some ∙ ap code_of is ∙ code_of-number k in cc) in
          let G : Code → Type 0 = λ j. IsGoodValue j v.0.0 × (is_there (slot j found) ≡ false) in
          subst G who (valued.good, a.0));
    })

pub eights : (at : ℕ) → aligned 4 (aligned 8 at + 4) ≡ aligned 8 at + 4
eights at = omega arith

pub field_read : (i : Input) (b : Bound) (found : Found) (at : ℕ) (y : Found × ℕ) → ReadLaws i → IsValid i b → field_at i b found at ≡ Ok y → FieldRead i b found at y
unfolding field_at
field_read i b found at y laws valid e =
    let a = bind_ok (room_at i 8 1 b at) (λ p. cond (byte_in i p == 0) (bad p 28) (coded_at i b found p (code_of (byte_in i p)))) y e in
    let place = room_place i b at a.0 valid a.1 in
    let g = passed (byte_in i a.0 == 0) (record { place = a.0; reason = 28 }) (coded_at i b found a.0 (code_of (byte_in i a.0))) y a.2 in
    let same : aligned 4 (a.0 + 4) ≡ a.0 + 4 = subst (λ (p : ℕ). aligned 4 (p + 4) ≡ p + 4) (sym place.0) (eights at) in
    by (code_of (byte_in i a.0)) a.0 a.1 place.1 same (eqb-false _ 0 g.0) refl g.1
  where
    by : (o : Option Code) (p : ℕ) → room_at i 8 1 b at ≡ Ok p → p + 1 ≤ b.end → aligned 4 (p + 4) ≡ p + 4 → byte_in i p ≢ 0 → code_of (byte_in i p) ≡ o → coded_at i b found p o ≡ Ok y → FieldRead i b found at y
    by (Some c) p room within same coded some e = known_read i b found at p c y laws valid room within same coded some e
    by None p room within same coded none e = unknown_read i b found at p y laws valid room coded none e
