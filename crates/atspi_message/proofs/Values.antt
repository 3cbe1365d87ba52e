-- The value of a known field, beside any value of its type.
use Rattle.std.proofs.Common.{◌≡◌, ℕ, zero, suc, ◌+◌, ◌-◌, ◌<◌, ◌≤◌, Bool, true, false, cond, eqb, ltb, List, [], ◌∷◌, length, Result, Ok, Err, refl, sym, ap, subst, ◌∙◌, arith, inl, inr, ◌⊎◌, chars}
use Rattle.std.specs.Prelude.{◌==◌, ◌≢◌}
use Rattle.std.specs.Int.{w32, byte_len}
use Rattle.std.proofs.lemmas.Bool.{eqb-true, eqb-false, ltb-true, ltb-false}
use Rattle.std.specs.Str.{is_utf8}
use Rattle.std.specs.Str.Lossy.{utf8_valid_len}
use Rattle.atspi_base.specs.Text.{bytes_before_zero}
use Rattle.atspi_base.specs.ReadsText.{text_in}
use Rattle.atspi_base.specs.declared.text.TextFault.{TextFault}
use Rattle.atspi_base.specs.declared.text.TextFault.TheVariants.{Zero, Utf8}
use Rattle.atspi_base.specs.declared.text.TextFault.TheVariants.{NoMemory as TextNoMemory}
use Rattle.atspi_types.specs.Kinds.{Kind, Kinds, kinds_of, number, text, path, signature, u32, IsLawful}
use Rattle.atspi_base.specs.valid_names.Names.{IsPath, is_path}
use Rattle.atspi_types.specs.Data.{Data, number_data, text_data, path_data, signature_data}
use Rattle.atspi_types.specs.declared.fault.Fault.{Fault}
use Rattle.atspi_base.proofs.OfValidNames.NameLemmas.{IsPath-from_test}
use Rattle.atspi_marshal.specs.declared.input.Bound.{Bound}
use Rattle.atspi_marshal.specs.Input.{Input, number_in, byte_in, aligned}
use Rattle.atspi_types.specs.SignatureReading.{signature_in}
use Rattle.atspi_marshal.specs.Faults.{IsInside, HasFront, long_in, short_in, place_of}
use Rattle.atspi_types.specs.SignatureFaults.{Before}
use Rattle.atspi_marshal.specs.Reading.{◌>>=◌, bad, read, level, single_at, room_at, number_at, ended, text_with, text_body_at, path_body_at, long_at, short_at, signature_with, signature_body_at}
use Rattle.atspi_marshal.proofs.Places.{IsValid, bind_ok, ok_is, passed, passed_not}
use Rattle.atspi_message.specs.declared.code.Code.{Code}
use Rattle.atspi_message.specs.declared.code.Code.TheVariants.{Path, Interface, Member, Error, Reply, Destination, Sender, Signature, Descriptors}
use Rattle.atspi_message.specs.Codes.{number_of, kind_for, letter_of, IsText, IsNameFor}
use Rattle.atspi_message.specs.Bytes.{Field}
use Rattle.atspi_message.specs.Faults.{IsTyped, WrongAlone, no_name, no_serial, descriptors}
use Rattle.atspi_message.specs.inner.Reading.{is_name, name_data, name_reason, name_body_at, name_at, reply_at, descriptors_at, value_at}
use Rattle.atspi_message.proofs.Room.{room_here, LongFits, long_cases, long_in_room, long_out_of_room, ShortFits, short_cases, short_in_room, short_out_of_room}
use Rattle.atspi_message.proofs.Told.{ReadLaws, Alone, Told, told_is, failed, err_is}
use Rattle.atspi_message.proofs.Names.{name_from_test, test_from_name, name_reads}

-- the value is one that the field may have
abbrev pub IsGoodValue : Code → Data → Type 0
IsGoodValue Path d = (bytes : List ℕ) × (d ≡ path_data bytes) × IsPath bytes
IsGoodValue Interface d = (bytes : List ℕ) × (d ≡ text_data bytes) × IsNameFor Interface bytes
IsGoodValue Member d = (bytes : List ℕ) × (d ≡ text_data bytes) × IsNameFor Member bytes
IsGoodValue Error d = (bytes : List ℕ) × (d ≡ text_data bytes) × IsNameFor Error bytes
IsGoodValue Reply d = (n : ℕ) × (d ≡ number_data u32 n) × (n ≢ 0)
IsGoodValue Destination d = (bytes : List ℕ) × (d ≡ text_data bytes) × IsNameFor Destination bytes
IsGoodValue Sender d = (bytes : List ℕ) × (d ≡ text_data bytes) × IsNameFor Sender bytes
IsGoodValue Signature d = (ks : Kinds) × (d ≡ signature_data ks)
IsGoodValue Descriptors d = d ≡ number_data u32 0

pub record Valued (i : Input) (levels : ℕ) (b : Bound) (c : Code) (at : ℕ) (x : Data × ℕ) : Type 0 where
  pub read_ : read i levels (kind_for c) b at ≡ Ok x
  pub good : IsGoodValue c x.0

-- a text at a multiple of 4
pub text_here : (i : Input) (levels : ℕ) (b : Bound) (at : ℕ) → aligned 4 at ≡ at → LongFits i b at → read i (suc levels) text b at ≡ text_with i at (number_in i w32 at) (text_in (long_in i at))
unfolding read level single_at long_at text_body_at
text_here i levels b at same fits = long_in_room i b at (text_body_at i) same fits

text_out : (i : Input) (levels : ℕ) (b : Bound) (at : ℕ) → aligned 4 at ≡ at → at ≤ b.end → (LongFits i b at → ⊥) → read i (suc levels) text b at ≡ bad at b.reason
unfolding read level single_at long_at text_body_at
text_out i levels b at same le no_room = long_out_of_room i b at (text_body_at i) same le no_room

path_here : (i : Input) (levels : ℕ) (b : Bound) (at : ℕ) → aligned 4 at ≡ at → LongFits i b at → read i (suc levels) path b at ≡ name_body_at Path i at
unfolding read level single_at long_at path_body_at name_body_at
path_here i levels b at same fits = long_in_room i b at (path_body_at i) same fits

path_out : (i : Input) (levels : ℕ) (b : Bound) (at : ℕ) → aligned 4 at ≡ at → at ≤ b.end → (LongFits i b at → ⊥) → read i (suc levels) path b at ≡ bad at b.reason
unfolding read level single_at long_at path_body_at
path_out i levels b at same le no_room = long_out_of_room i b at (path_body_at i) same le no_room

pub name_here : (i : Input) (b : Bound) (c : Code) (at : ℕ) → aligned 4 at ≡ at → LongFits i b at → name_at c i b at ≡ name_body_at c i at
unfolding name_at long_at
name_here i b c at same fits = long_in_room i b at (name_body_at c i) same fits

name_out : (i : Input) (b : Bound) (c : Code) (at : ℕ) → aligned 4 at ≡ at → at ≤ b.end → (LongFits i b at → ⊥) → name_at c i b at ≡ bad at b.reason
unfolding name_at long_at
name_out i b c at same le no_room = long_out_of_room i b at (name_body_at c i) same le no_room

pub long_inside : (i : Input) (b : Bound) (at : ℕ) → aligned 4 at ≡ at → LongFits i b at → IsInside i text b at
long_inside i b at same fits =
    let P : ℕ → Type 0 = λ p. (p + 4 ≤ b.end) × (p + 5 + number_in i w32 p ≤ b.end) in subst P (sym same) (fits.front, fits.whole)

pub inside_long : (i : Input) (b : Bound) (at : ℕ) → aligned 4 at ≡ at → IsInside i text b at → LongFits i b at
inside_long i b at same fits =
    let P : ℕ → Type 0 = λ p. (p + 4 ≤ b.end) × (p + 5 + number_in i w32 p ≤ b.end) in
    let g = subst P same fits in record { front = g.0; whole = g.1 }

-- what a text tells stands behind its length
text_behind : (i : Input) (p n : ℕ) (r : Result (List ℕ) TextFault) (g : Fault) → (r ≡ Err TextNoMemory → ⊥) → text_with i p n r ≡ Err g → p < g.place
text_behind i p n (Ok cs) g never e = split (byte_in i (p + 4 + n) == 0) e
  where
    split : (t : Bool) → cond {A = Result (Data × ℕ) Fault} t (Ok (text_data cs, p + 4 + n + 1)) (bad (p + 4 + n) 12) ≡ Err g → p < g.place
    split true e = absurd cc
    split false e = omega (arith, ap (λ (f : Fault). f.place) (err_is _ g e))
text_behind i p n (Err (Zero z)) g never e = omega (arith, ap (λ (f : Fault). f.place) (err_is _ g e))
text_behind i p n (Err (Utf8 z)) g never e = omega (arith, ap (λ (f : Fault). f.place) (err_is _ g e))
text_behind i p n (Err TextNoMemory) g never e = absurd (never refl)

never_memory : (bytes : List ℕ) → text_in bytes ≡ Err TextNoMemory → ⊥
unfolding text_in
never_memory bytes e = split (ltb (bytes_before_zero bytes) (utf8_valid_len bytes)) (is_utf8 bytes) (bytes_before_zero bytes) (utf8_valid_len bytes) (chars bytes) e
  where
    split : (t u : Bool) (z v : ℕ) (cs : List ℕ) → cond t (Err (Zero z)) (cond u (Ok cs) (Err (Utf8 v))) ≡ Err TextNoMemory → ⊥
    split true u z v cs e = cc
    split false true z v cs e = cc
    split false false z v cs e = cc

-- a text that is a name
text_of_name : (i : Input) (levels : ℕ) (b : Bound) (c : Code) (at : ℕ) → aligned 4 at ≡ at → LongFits i b at → IsNameFor c (long_in i at) → read i (suc levels) text b at ≡ ended i (at + 4 + number_in i w32 at) (text_data (long_in i at))
text_of_name i levels b c at same fits named = text_here i levels b at same fits ∙ ap (text_with i at (number_in i w32 at)) (name_reads c (long_in i at) named)

name_ok : (i : Input) (levels : ℕ) (b : Bound) (c : Code) (at : ℕ) (x : Data × ℕ) → IsText c → name_data c (long_in i at) ≡ text_data (long_in i at) → aligned 4 at ≡ at → at ≤ b.end → name_at c i b at ≡ Ok x
    → (read i (suc levels) text b at ≡ Ok x) × ((bytes : List ℕ) × (x.0 ≡ text_data bytes) × IsNameFor c bytes)
unfolding name_body_at
name_ok i levels b c at x is_text data_is same le e =
    elim (long_cases i b at) [
      | inl fits ↦
          let end = at + 4 + number_in i w32 at in
          let a = passed_not (is_name c (long_in i at)) (record { place = at; reason = name_reason c }) (ended i end (name_data c (long_in i at))) x (sym (name_here i b c at same fits) ∙ e) in
          let named = name_from_test c (long_in i at) is_text a.0 in
          let there : ended i end (text_data (long_in i at)) ≡ Ok x = sym (ap (λ (d : Data). ended i end d) data_is) ∙ a.1 in
          let g = passed_not (byte_in i end == 0) (record { place = end; reason = 12 }) (Ok (text_data (long_in i at), end + 1)) x there in
          (text_of_name i levels b c at same fits named ∙ there, (long_in i at, sym (ap (λ (y : Data × ℕ). y.0) (ok_is (text_data (long_in i at), end + 1) x g.1)), named))
      | inr no_room ↦ absurd (let clash = sym (name_out i b c at same le no_room) ∙ e in cc)
    ]

-- a fault of a name: that of the text, or the name is outside its rule
name_told : (i : Input) (levels : ℕ) (b : Bound) (fs : List Field) (p : ℕ) (c : Code) (f : Fault) → ReadLaws i → IsValid i b → byte_in i p ≡ number_of c → IsTyped i b c (p + 1) → IsText c
    → name_reason c ≡ 31 → name_data c (long_in i (p + 4)) ≡ text_data (long_in i (p + 4)) → aligned 4 (p + 4) ≡ p + 4 → p + 4 ≤ b.end → name_at c i b (p + 4) ≡ Err f
    → Told (WrongAlone i b fs p) (read i (suc levels) text b (p + 4)) f
unfolding name_body_at
name_told i levels b fs p c f laws valid coded typed is_text reason_is data_is same le e =
    elim (long_cases i b (p + 4)) [
      | inl fits ↦ split (is_name c (long_in i (p + 4))) refl fits (sym (name_here i b c (p + 4) same fits) ∙ e)
      | inr no_room ↦ inl (text_out i levels b (p + 4) same le no_room ∙ ap failed (err_is _ f (sym (name_out i b c (p + 4) same le no_room) ∙ e)))
    ]
  where
    split : (t : Bool) → is_name c (long_in i (p + 4)) ≡ t → LongFits i b (p + 4) → cond t (ended i (p + 4 + 4 + number_in i w32 (p + 4)) (name_data c (long_in i (p + 4)))) (bad (p + 4) (name_reason c)) ≡ Err f
        → Told (WrongAlone i b fs p) (read i (suc levels) text b (p + 4)) f
    split true is fits e = inl (text_of_name i levels b c (p + 4) same fits (name_from_test c (long_in i (p + 4)) is_text is) ∙ sym (ap (λ (d : Data). ended i (p + 4 + 4 + number_in i w32 (p + 4)) d) data_is) ∙ e)
    split false is fits e =
        let whose : record { place = p + 4; reason = name_reason c } ≡ f = err_is _ f e in
        let outside : IsNameFor c (long_in i (p + 4)) → ⊥ = λ named. (let clash = sym is ∙ test_from_name c (long_in i (p + 4)) named in cc) in
        let W : ℕ → Type 0 = λ reason. WrongAlone i b fs p (p + 4) reason in
        let A : Fault → Type 0 = λ g. Told (WrongAlone i b fs p) (read i (suc levels) text b (p + 4)) g in
        subst A whose (inr (record {
          there = subst W (sym reason_is) (no_name c coded typed is_text (long_inside i b (p + 4) same fits) outside);
          before = λ g wrong. inl (text_behind i (p + 4) (number_in i w32 (p + 4)) (text_in (long_in i (p + 4))) g (never_memory (long_in i (p + 4))) (sym (text_here i levels b (p + 4) same fits) ∙ wrong));
          inside = λ x ok. (laws.sound (suc levels) text b (p + 4) x tt valid ok).1;
        }))

-- numbers of 32 bits
pub number_here : (i : Input) (levels : ℕ) (b : Bound) (at : ℕ) → aligned 4 at ≡ at → at ≤ b.end → read i (suc levels) (number u32) b at ≡ cond (ltb b.end (at + 4)) (bad at b.reason) (Ok (number_data u32 (number_in i w32 at), at + 4))
unfolding read level single_at number_at
number_here i levels b at same le = room_here i 4 4 b at (λ p. Ok (number_data u32 (number_in i w32 p), p + 4)) same le

pub reply_here : (i : Input) (b : Bound) (at : ℕ) → aligned 4 at ≡ at → at ≤ b.end → reply_at i b at ≡ cond (ltb b.end (at + 4)) (bad at b.reason) (cond (number_in i w32 at == 0) (bad at 32) (Ok (number_data u32 (number_in i w32 at), at + 4)))
unfolding reply_at
reply_here i b at same le = room_here i 4 4 b at (λ p. cond (number_in i w32 p == 0) (bad p 32) (Ok (number_data u32 (number_in i w32 p), p + 4))) same le

pub descriptors_here : (i : Input) (b : Bound) (at : ℕ) → aligned 4 at ≡ at → at ≤ b.end → descriptors_at i b at ≡ cond (ltb b.end (at + 4)) (bad at b.reason) (cond (number_in i w32 at == 0) (Ok (number_data u32 (number_in i w32 at), at + 4)) (bad at 33))
unfolding descriptors_at
descriptors_here i b at same le = room_here i 4 4 b at (λ p. cond (number_in i w32 p == 0) (Ok (number_data u32 (number_in i w32 p), p + 4)) (bad p 33)) same le

pub front_from : (i : Input) (b : Bound) (at : ℕ) → aligned 4 at ≡ at → at + 4 ≤ b.end → HasFront i (number u32) b at
front_from i b at same le = let P : ℕ → Type 0 = λ p. p + 4 ≤ b.end in subst P (sym same) le

pub front_to : (i : Input) (b : Bound) (at : ℕ) → aligned 4 at ≡ at → HasFront i (number u32) b at → at + 4 ≤ b.end
front_to i b at same le = let P : ℕ → Type 0 = λ p. p + 4 ≤ b.end in subst P same le

abbrev a_number : Input → ℕ → Result (Data × ℕ) Fault
a_number i at = Ok (number_data u32 (number_in i w32 at), at + 4)

reply_ok : (i : Input) (levels : ℕ) (b : Bound) (at : ℕ) (x : Data × ℕ) → aligned 4 at ≡ at → at ≤ b.end → reply_at i b at ≡ Ok x → (read i (suc levels) (number u32) b at ≡ Ok x) × ((n : ℕ) × (x.0 ≡ number_data u32 n) × (n ≢ 0))
reply_ok i levels b at x same le e = split (ltb b.end (at + 4)) (number_in i w32 at == 0) refl (number_here i levels b at same le) (sym (reply_here i b at same le) ∙ e)
  where
    split : (t u : Bool) → (number_in i w32 at == 0) ≡ u → read i (suc levels) (number u32) b at ≡ cond t (bad at b.reason) (a_number i at) → cond t (bad at b.reason) (cond u (bad at 32) (a_number i at)) ≡ Ok x
        → (read i (suc levels) (number u32) b at ≡ Ok x) × ((n : ℕ) × (x.0 ≡ number_data u32 n) × (n ≢ 0))
    split true u is r e = absurd cc
    split false true is r e = absurd cc
    split false false is r e = (r ∙ e, (number_in i w32 at, sym (ap (λ (y : Data × ℕ). y.0) (ok_is (number_data u32 (number_in i w32 at), at + 4) x e)), λ z. eqb-false _ 0 is z))

descriptors_ok : (i : Input) (levels : ℕ) (b : Bound) (at : ℕ) (x : Data × ℕ) → aligned 4 at ≡ at → at ≤ b.end → descriptors_at i b at ≡ Ok x → (read i (suc levels) (number u32) b at ≡ Ok x) × (x.0 ≡ number_data u32 0)
descriptors_ok i levels b at x same le e = split (ltb b.end (at + 4)) (number_in i w32 at == 0) refl (number_here i levels b at same le) (sym (descriptors_here i b at same le) ∙ e)
  where
    split : (t u : Bool) → (number_in i w32 at == 0) ≡ u → read i (suc levels) (number u32) b at ≡ cond t (bad at b.reason) (a_number i at) → cond t (bad at b.reason) (cond u (a_number i at) (bad at 33)) ≡ Ok x
        → (read i (suc levels) (number u32) b at ≡ Ok x) × (x.0 ≡ number_data u32 0)
    split true u is r e = absurd cc
    split false false is r e = absurd cc
    split false true is r e = (r ∙ e, sym (ap (λ (y : Data × ℕ). y.0) (ok_is (number_data u32 (number_in i w32 at), at + 4) x e)) ∙ ap (number_data u32) (eqb-true _ 0 is))

reply_told : (i : Input) (levels : ℕ) (b : Bound) (fs : List Field) (p : ℕ) (f : Fault) → byte_in i p ≡ number_of Reply → IsTyped i b Reply (p + 1) → aligned 4 (p + 4) ≡ p + 4 → p + 4 ≤ b.end → reply_at i b (p + 4) ≡ Err f
    → Told (WrongAlone i b fs p) (read i (suc levels) (number u32) b (p + 4)) f
reply_told i levels b fs p f coded typed same le e = split (ltb b.end (p + 4 + 4)) (number_in i w32 (p + 4) == 0) refl refl (number_here i levels b (p + 4) same le) (sym (reply_here i b (p + 4) same le) ∙ e)
  where
    split : (t u : Bool) → ltb b.end (p + 4 + 4) ≡ t → (number_in i w32 (p + 4) == 0) ≡ u → read i (suc levels) (number u32) b (p + 4) ≡ cond t (bad (p + 4) b.reason) (a_number i (p + 4))
        → cond t (bad (p + 4) b.reason) (cond u (bad (p + 4) 32) (a_number i (p + 4))) ≡ Err f → Told (WrongAlone i b fs p) (read i (suc levels) (number u32) b (p + 4)) f
    split true u t_is is r e = inl (r ∙ e)
    split false false t_is is r e = absurd cc
    split false true t_is is r e =
        let A : Fault → Type 0 = λ g. Told (WrongAlone i b fs p) (read i (suc levels) (number u32) b (p + 4)) g in
        subst A (err_is _ f e) (inr (record {
          there = no_serial coded typed (front_from i b (p + 4) same (ltb-false b.end (p + 4 + 4) t_is)) (eqb-true _ 0 is);
          before = λ g wrong. absurd (let clash = sym r ∙ wrong in cc);
          inside = λ x ok. omega (arith, ap (λ (y : Data × ℕ). y.1) (ok_is (number_data u32 (number_in i w32 (p + 4)), p + 4 + 4) x (sym r ∙ ok)));
        }))

descriptors_told : (i : Input) (levels : ℕ) (b : Bound) (fs : List Field) (p : ℕ) (f : Fault) → byte_in i p ≡ number_of Descriptors → IsTyped i b Descriptors (p + 1) → aligned 4 (p + 4) ≡ p + 4 → p + 4 ≤ b.end → descriptors_at i b (p + 4) ≡ Err f
    → Told (WrongAlone i b fs p) (read i (suc levels) (number u32) b (p + 4)) f
descriptors_told i levels b fs p f coded typed same le e = split (ltb b.end (p + 4 + 4)) (number_in i w32 (p + 4) == 0) refl refl (number_here i levels b (p + 4) same le) (sym (descriptors_here i b (p + 4) same le) ∙ e)
  where
    split : (t u : Bool) → ltb b.end (p + 4 + 4) ≡ t → (number_in i w32 (p + 4) == 0) ≡ u → read i (suc levels) (number u32) b (p + 4) ≡ cond t (bad (p + 4) b.reason) (a_number i (p + 4))
        → cond t (bad (p + 4) b.reason) (cond u (a_number i (p + 4)) (bad (p + 4) 33)) ≡ Err f → Told (WrongAlone i b fs p) (read i (suc levels) (number u32) b (p + 4)) f
    split true u t_is is r e = inl (r ∙ e)
    split false true t_is is r e = absurd cc
    split false false t_is is r e =
        let A : Fault → Type 0 = λ g. Told (WrongAlone i b fs p) (read i (suc levels) (number u32) b (p + 4)) g in
        subst A (err_is _ f e) (inr (record {
          there = descriptors coded typed (front_from i b (p + 4) same (ltb-false b.end (p + 4 + 4) t_is)) (λ z. eqb-false _ 0 is z);
          before = λ g wrong. absurd (let clash = sym r ∙ wrong in cc);
          inside = λ x ok. omega (arith, ap (λ (y : Data × ℕ). y.1) (ok_is (number_data u32 (number_in i w32 (p + 4)), p + 4 + 4) x (sym r ∙ ok)));
        }))

-- paths and signatures are read as any
path_is : (i : Input) (levels : ℕ) (b : Bound) (at : ℕ) → aligned 4 at ≡ at → at ≤ b.end → read i (suc levels) path b at ≡ name_at Path i b at
path_is i levels b at same le =
    elim (long_cases i b at) [
      | inl fits ↦ path_here i levels b at same fits ∙ sym (name_here i b Path at same fits)
      | inr no_room ↦ path_out i levels b at same le no_room ∙ sym (name_out i b Path at same le no_room)
    ]

path_good : (i : Input) (b : Bound) (at : ℕ) (x : Data × ℕ) → aligned 4 at ≡ at → at ≤ b.end → name_at Path i b at ≡ Ok x → (bytes : List ℕ) × (x.0 ≡ path_data bytes) × IsPath bytes
unfolding name_body_at
path_good i b at x same le e =
    elim (long_cases i b at) [
      | inl fits ↦
          let end = at + 4 + number_in i w32 at in
          let a = passed_not (is_path (long_in i at)) (record { place = at; reason = 15 }) (ended i end (path_data (long_in i at))) x (sym (name_here i b Path at same fits) ∙ e) in
          let g = passed_not (byte_in i end == 0) (record { place = end; reason = 12 }) (Ok (path_data (long_in i at), end + 1)) x a.1 in
          (long_in i at, sym (ap (λ (y : Data × ℕ). y.0) (ok_is (path_data (long_in i at), end + 1) x g.1)), IsPath-from_test (long_in i at) a.0)
      | inr no_room ↦ absurd (let clash = sym (name_out i b Path at same le no_room) ∙ e in cc)
    ]

signature_is_read : (i : Input) (levels : ℕ) (b : Bound) (at : ℕ) → read i (suc levels) signature b at ≡ short_at (signature_body_at i) i b at
unfolding read level single_at
signature_is_read i levels b at = refl

signature_with_ok : (i : Input) (p : ℕ) (r : Result (List Kind) Fault) (x : Data × ℕ) → signature_with i p r ≡ Ok x → (ks : Kinds) × (x.0 ≡ signature_data ks)
signature_with_ok i p (Ok ks) x e =
    let end = p + 1 + byte_in i p in
    let g = passed_not (byte_in i end == 0) (record { place = end; reason = 12 }) (Ok (signature_data (kinds_of ks), end + 1)) x e in
    (kinds_of ks, sym (ap (λ (y : Data × ℕ). y.0) (ok_is (signature_data (kinds_of ks), end + 1) x g.1)))
signature_with_ok i p (Err f) x e = absurd cc

signature_good : (i : Input) (b : Bound) (at : ℕ) (x : Data × ℕ) → at ≤ b.end → short_at (signature_body_at i) i b at ≡ Ok x → (ks : Kinds) × (x.0 ≡ signature_data ks)
unfolding short_at signature_body_at
signature_good i b at x le e =
    elim (short_cases i b at) [
      | inl fits ↦ signature_with_ok i at (signature_in (short_in i at)) x (sym (short_in_room i b at (signature_body_at i) fits) ∙ e)
      | inr no_room ↦ absurd (let clash = sym (short_out_of_room i b at (signature_body_at i) le no_room) ∙ e in cc)
    ]

-- the value of a known field that is read is any value of its type, and a good one
pub value_ok : (i : Input) (levels : ℕ) (b : Bound) (c : Code) (at : ℕ) (x : Data × ℕ) → aligned 4 at ≡ at → at ≤ b.end → value_at i b c at ≡ Ok x → Valued i (suc levels) b c at x
value_ok i levels b Path at x same le e = record { read_ = path_is i levels b at same le ∙ e; good = path_good i b at x same le e }
value_ok i levels b Interface at x same le e = let t = name_ok i levels b Interface at x tt refl same le e in record { read_ = t.0; good = t.1 }
value_ok i levels b Member at x same le e = let t = name_ok i levels b Member at x tt refl same le e in record { read_ = t.0; good = t.1 }
value_ok i levels b Error at x same le e = let t = name_ok i levels b Error at x tt refl same le e in record { read_ = t.0; good = t.1 }
value_ok i levels b Reply at x same le e = let t = reply_ok i levels b at x same le e in record { read_ = t.0; good = t.1 }
value_ok i levels b Destination at x same le e = let t = name_ok i levels b Destination at x tt refl same le e in record { read_ = t.0; good = t.1 }
value_ok i levels b Sender at x same le e = let t = name_ok i levels b Sender at x tt refl same le e in record { read_ = t.0; good = t.1 }
value_ok i levels b Signature at x same le e = record { read_ = signature_is_read i levels b at ∙ e; good = signature_good i b at x le e }
value_ok i levels b Descriptors at x same le e = let t = descriptors_ok i levels b at x same le e in record { read_ = t.0; good = t.1 }

-- what is told of it is told of any value, or is one of its own faults
pub value_told : (i : Input) (levels : ℕ) (b : Bound) (fs : List Field) (p : ℕ) (c : Code) (f : Fault) → ReadLaws i → IsValid i b → byte_in i p ≡ number_of c → IsTyped i b c (p + 1) → aligned 4 (p + 4) ≡ p + 4 → p + 4 ≤ b.end
    → value_at i b c (p + 4) ≡ Err f → Told (WrongAlone i b fs p) (read i (suc levels) (kind_for c) b (p + 4)) f
value_told i levels b fs p Path f laws valid coded typed same le e = inl (path_is i levels b (p + 4) same le ∙ e)
value_told i levels b fs p Interface f laws valid coded typed same le e = name_told i levels b fs p Interface f laws valid coded typed tt refl refl same le e
value_told i levels b fs p Member f laws valid coded typed same le e = name_told i levels b fs p Member f laws valid coded typed tt refl refl same le e
value_told i levels b fs p Error f laws valid coded typed same le e = name_told i levels b fs p Error f laws valid coded typed tt refl refl same le e
value_told i levels b fs p Reply f laws valid coded typed same le e = reply_told i levels b fs p f coded typed same le e
value_told i levels b fs p Destination f laws valid coded typed same le e = name_told i levels b fs p Destination f laws valid coded typed tt refl refl same le e
value_told i levels b fs p Sender f laws valid coded typed same le e = name_told i levels b fs p Sender f laws valid coded typed tt refl refl same le e
value_told i levels b fs p Signature f laws valid coded typed same le e = inl (signature_is_read i levels b (p + 4) ∙ e)
value_told i levels b fs p Descriptors f laws valid coded typed same le e = descriptors_told i levels b fs p f coded typed same le e
