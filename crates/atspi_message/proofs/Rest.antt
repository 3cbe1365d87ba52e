-- What stands behind the fields: padding and the body.
use Rattle.std.proofs.Common.{◌≡◌, ℕ, zero, suc, ◌+◌, ◌-◌, ◌<◌, ◌≤◌, Bool, true, false, cond, ltb, List, [], ◌∷◌, ◌++◌, length, get_or, take, drop, lit≤, Option, Some, None, Result, Ok, Err, refl, sym, ap, subst, ◌∙◌, arith, inl, inr, ◌⊎◌}
use Rattle.std.specs.Prelude.{◌≢◌, ◌==◌}
use Rattle.std.proofs.lemmas.Bool.{eqb-true, ltb-true, ltb-false, lt-ltb, le-ltb, cases_lt}
use Rattle.std.proofs.lemmas.List.{get_or-drop, length-drop}
use Rattle.atspi_types.specs.Kinds.{Num, Kind, Kinds, number, boolean, text, path, signature, array, structure, variant, dictionary, no_kinds, kind, types_in, IsLawful, AreLawful}
use Rattle.atspi_types.specs.Signatures.{IsSignature}
use Rattle.atspi_types.specs.Data.{Data, Items, Entries, number_data, boolean_data, text_data, path_data, signature_data, array_data, structure_data, dictionary_data, variant_data, item, no_items, items_of, values_in}
use Rattle.atspi_types.specs.declared.fault.Fault.{Fault}
use Rattle.atspi_types.specs.declared.fault.Order.{Order}
use Rattle.atspi_marshal.specs.declared.input.Bound.{Bound}
use Rattle.atspi_marshal.specs.Input.{Input, Stands, to_end, byte_in, slice_in, aligned}
use Rattle.atspi_marshal.specs.Spelling.{spelling, spellings, padding, Fits, AllFit, FieldsFit}
use Rattle.atspi_marshal.specs.Faults.{IsItem, AreItems, WrongField}
use Rattle.atspi_types.specs.SignatureFaults.{Before}
use Rattle.atspi_marshal.specs.Reading.{◌>>=◌, bad, passing_reason, zeros_in_front, padding_at, read, fields_at}
use Rattle.atspi_marshal.proofs.Places.{IsValid, Padded, padding_takes, bind_ok, ok_is, done, passed}
use Rattle.atspi_message.specs.declared.code.Code.TheVariants.{Signature}
use Rattle.atspi_message.specs.Bytes.{Field, field_kind, field_data, field_items, with_code}
use Rattle.atspi_message.specs.Front.{input_in, type_in, fields_end_in, body_place_in, body_length_in, length_in}
use Rattle.atspi_message.specs.Faults.{fields_bound, FieldsStand, body_types, types_of_value, BodyStands, WrongMessage, padding_not_zero, no_types, in_body, left_over}
use Rattle.atspi_message.specs.inner.Reading.{Found, nothing_left, values_at, signature_found, rest_at}
use Rattle.atspi_message.proofs.Told.{ReadLaws, failed, err_is}
use Rattle.atspi_message.proofs.Found.{slot_list, Tracks}
use Rattle.atspi_message.proofs.FieldFaults.{TellsBy}
use Rattle.atspi_message.proofs.Body.{Stand, one_at, body_read, body_told, body_least, body_again, body_grows}

-- the bytes are as long as they state
pub record IsWhole (bytes : List ℕ) : Type 0 where
  pub long : 16 ≤ length bytes
  pub whole : length_in bytes ≡ length bytes

pub fields_valid : (bytes : List ℕ) → IsWhole bytes → IsValid (input_in bytes) (fields_bound bytes)
fields_valid bytes w = record { long = omega (arith, w.whole); late = (lit≤ tt, lit≤ tt) }

pub end_valid : (bytes : List ℕ) → IsValid (input_in bytes) (to_end bytes)
end_valid bytes = record { long = omega arith; late = (lit≤ tt, lit≤ tt) }

-- the types of a body are lawful
value_lawful : (o : Order) (levels at : ℕ) (v : Data) (k : Kind) → Fits o (suc levels) at v k → AreLawful (types_of_value (v ∷ []))
value_lawful o levels at (number_data n x) k h = tt
value_lawful o levels at (boolean_data x) k h = tt
value_lawful o levels at (text_data x) k h = tt
value_lawful o levels at (path_data x) k h = tt
value_lawful o levels at (array_data j x) k h = tt
value_lawful o levels at (structure_data x) k h = tt
value_lawful o levels at (dictionary_data j w x) k h = tt
value_lawful o levels at (variant_data j x) k h = tt
value_lawful o levels at (signature_data ks) (number m) h = absurd h
value_lawful o levels at (signature_data ks) boolean h = absurd h
value_lawful o levels at (signature_data ks) text h = absurd h
value_lawful o levels at (signature_data ks) path h = absurd h
value_lawful o levels at (signature_data ks) signature h = h.lawful
value_lawful o levels at (signature_data ks) (array j) h = absurd h
value_lawful o levels at (signature_data ks) (structure js) h = absurd h
value_lawful o levels at (signature_data ks) variant h = absurd h
value_lawful o levels at (signature_data ks) (dictionary j w) h = absurd h

no_types_signature : IsSignature no_kinds
no_types_signature = record { lawful = tt; fits = record { short = lit≤ tt; arrays = lit≤ tt; structs = lit≤ tt } }

-- the types of a body are those of a signature
value_signature : (o : Order) (levels at : ℕ) (v : Data) (k : Kind) → Fits o (suc levels) at v k → IsSignature (types_of_value (v ∷ []))
value_signature o levels at (number_data n x) k h = no_types_signature
value_signature o levels at (boolean_data x) k h = no_types_signature
value_signature o levels at (text_data x) k h = no_types_signature
value_signature o levels at (path_data x) k h = no_types_signature
value_signature o levels at (array_data j x) k h = no_types_signature
value_signature o levels at (structure_data x) k h = no_types_signature
value_signature o levels at (dictionary_data j w x) k h = no_types_signature
value_signature o levels at (variant_data j x) k h = no_types_signature
value_signature o levels at (signature_data ks) (number m) h = absurd h
value_signature o levels at (signature_data ks) boolean h = absurd h
value_signature o levels at (signature_data ks) text h = absurd h
value_signature o levels at (signature_data ks) path h = absurd h
value_signature o levels at (signature_data ks) signature h = h
value_signature o levels at (signature_data ks) (array j) h = absurd h
value_signature o levels at (signature_data ks) (structure js) h = absurd h
value_signature o levels at (signature_data ks) variant h = absurd h
value_signature o levels at (signature_data ks) (dictionary j w) h = absurd h

first_type : (v : Data) (ds : List Data) → types_of_value (v ∷ ds) ≡ types_of_value (v ∷ [])
first_type (number_data n x) ds = refl
first_type (boolean_data x) ds = refl
first_type (text_data x) ds = refl
first_type (path_data x) ds = refl
first_type (array_data j x) ds = refl
first_type (structure_data x) ds = refl
first_type (dictionary_data j w x) ds = refl
first_type (variant_data j x) ds = refl
first_type (signature_data ks) ds = refl

types_lawful : (o : Order) (fs : List Field) (at : ℕ) → AllFit o 63 at (field_items fs) field_kind → AreLawful (body_types fs)
types_lawful o [] at h = tt
types_lawful o (f ∷ fs) at h = by (f.code == 8) (types_lawful o fs (at + length (spelling o at (field_data f))) h.1)
  where
    by : (t : Bool) → AreLawful (body_types fs) → AreLawful (types_of_value (cond t (f.value ∷ with_code 8 fs) (with_code 8 fs)))
    by false rest = rest
    by true rest = subst (λ (ks : Kinds). AreLawful ks) (sym (first_type f.value (with_code 8 fs))) (value_lawful o 60 _ f.value f.kind h.0.1.0.1)

types_signature : (o : Order) (fs : List Field) (at : ℕ) → AllFit o 63 at (field_items fs) field_kind → IsSignature (body_types fs)
types_signature o [] at h = no_types_signature
types_signature o (f ∷ fs) at h = by (f.code == 8) (types_signature o fs (at + length (spelling o at (field_data f))) h.1)
  where
    by : (t : Bool) → IsSignature (body_types fs) → IsSignature (types_of_value (cond t (f.value ∷ with_code 8 fs) (with_code 8 fs)))
    by false rest = rest
    by true rest = subst (λ (ks : Kinds). IsSignature ks) (sym (first_type f.value (with_code 8 fs))) (value_signature o 60 _ f.value f.kind h.0.1.0.1)

pub body_signature : (bytes : List ℕ) (fs : List Field) (next : ℕ) → FieldsStand bytes fs next → IsSignature (body_types fs)
body_signature bytes fs next are = types_signature (input_in bytes).order fs 16 are.fit

pub body_lawful : (bytes : List ℕ) (fs : List Field) (next : ℕ) → FieldsStand bytes fs next → AreLawful (body_types fs)
body_lawful bytes fs next are = types_lawful (input_in bytes).order fs 16 are.fit

-- the types that were found
pub types_found : (o : Option Data) → types_of_value (slot_list o) ≡ signature_found o
types_found None = refl
types_found (Some (number_data n x)) = refl
types_found (Some (boolean_data x)) = refl
types_found (Some (text_data x)) = refl
types_found (Some (path_data x)) = refl
types_found (Some (array_data j x)) = refl
types_found (Some (structure_data x)) = refl
types_found (Some (dictionary_data j w x)) = refl
types_found (Some (variant_data j x)) = refl
types_found (Some (signature_data ks)) = refl

-- padding that ends inside
not_zeros : (bytes : List ℕ) (n q : ℕ) → q < n → get_or bytes q 0 ≢ 0 → zeros_in_front (take n bytes) ≤ q
not_zeros bytes zero q lt some = absurd (omega (arith, lt))
not_zeros [] (suc n) q lt some = omega arith
not_zeros (zero ∷ bytes) (suc n) zero lt some = absurd (some refl)
not_zeros (zero ∷ bytes) (suc n) (suc q) lt some = omega (arith, not_zeros bytes n q (omega (arith, lt)) some)
not_zeros (suc b ∷ bytes) (suc n) q lt some = omega arith

zeros_are : (bytes : List ℕ) (n : ℕ) → zeros_in_front (take n bytes) < n → zeros_in_front (take n bytes) < length bytes → get_or bytes (zeros_in_front (take n bytes)) 0 ≢ 0
zeros_are bytes zero lt in_ e = omega (arith, lt)
zeros_are [] (suc n) lt in_ e = omega (arith, in_)
zeros_are (zero ∷ bytes) (suc n) lt in_ e = zeros_are bytes n (omega (arith, lt)) (omega (arith, in_)) e
zeros_are (suc b ∷ bytes) (suc n) lt in_ e = cc

abbrev pub front_zeros : List ℕ → ℕ
front_zeros bytes = zeros_in_front (slice_in (input_in bytes) (fields_end_in bytes) (body_place_in bytes - fields_end_in bytes))

pub padding_is : (bytes : List ℕ) → IsWhole bytes → padding_at (input_in bytes) 8 (to_end bytes) (fields_end_in bytes)
    ≡ cond (ltb (front_zeros bytes) (body_place_in bytes - fields_end_in bytes)) (bad (fields_end_in bytes + front_zeros bytes) 10) (Ok (body_place_in bytes))
unfolding padding_at
padding_is bytes w = rw (le-ltb (length bytes) (body_place_in bytes) (omega (arith, w.whole))) refl

padding_tells : (bytes : List ℕ) (q : ℕ) → IsWhole bytes → fields_end_in bytes ≤ q → q < body_place_in bytes → byte_in (input_in bytes) q ≢ 0 → TellsBy (padding_at (input_in bytes) 8 (to_end bytes) (fields_end_in bytes)) q 10
padding_tells bytes q w from lt some =
    let end = fields_end_in bytes in
    let there : get_or (drop end bytes) (q - end) 0 ≢ 0 = λ z. some (ap (λ (k : ℕ). get_or bytes k 0) (let is : q ≡ end + (q - end) = omega (arith, from) in is) ∙ sym (get_or-drop end bytes (q - end) 0) ∙ z) in
    let le = not_zeros (drop end bytes) (body_place_in bytes - end) (q - end) (omega (arith, from, lt)) there in
    (record { place = end + front_zeros bytes; reason = 10 }, padding_is bytes w ∙ rw (lt-ltb (front_zeros bytes) (body_place_in bytes - end) (omega (arith, le, from, lt))) refl, by (cases (end + front_zeros bytes) q (omega (arith, le, from))))
  where
    cases : (a b : ℕ) → a ≤ b → (a < b) ⊎ (a ≡ b)
    cases a b le = elim (cases_lt a b) [ inl lt ↦ inl lt | inr ge ↦ inr (omega (arith, le, ge)) ]

    by : (fields_end_in bytes + front_zeros bytes < q) ⊎ (fields_end_in bytes + front_zeros bytes ≡ q) → Before (fields_end_in bytes + front_zeros bytes) 10 q 10
    by (inl lt) = inl lt
    by (inr same) = inr (same, omega arith)

-- the values
abbrev i_of : List ℕ → Input
i_of bytes = input_in bytes

values_told : (bytes : List ℕ) (fs : List Field) (ks : Kinds) (f : Fault) → ReadLaws (input_in bytes) → IsWhole bytes → FieldsStand bytes fs (fields_end_in bytes) → ks ≡ body_types fs → values_at bytes ks (body_place_in bytes) ≡ Err f → WrongMessage bytes f.place f.reason
values_told bytes fs no_kinds f laws w stand types e = by (ltb (body_place_in bytes) (length bytes)) refl e
  where
    by : (t : Bool) → ltb (body_place_in bytes) (length bytes) ≡ t → cond {A = Result (List Data) Fault} t (bad (body_place_in bytes) 35) (Ok []) ≡ Err f → WrongMessage bytes f.place f.reason
    by false is e = absurd cc
    by true is e = subst (λ (g : Fault). WrongMessage bytes g.place g.reason) (err_is _ f e) (no_types fs stand (sym types) (ltb-true _ _ is))
values_told bytes fs (kind k ks) f laws w stand types e = by (fields_at (one_at (input_in bytes) 64 (to_end bytes)) (types_in (kind k ks)) (body_place_in bytes)) refl e
  where
    lawful : AreLawful (kind k ks)
    lawful = subst (λ (js : Kinds). AreLawful js) (sym types) (body_lawful bytes fs (fields_end_in bytes) stand)

    within : body_place_in bytes ≤ length bytes
    within = omega (arith, w.whole)

    left : (x : List Data × ℕ) (t : Bool) → fields_at (one_at (input_in bytes) 64 (to_end bytes)) (types_in (kind k ks)) (body_place_in bytes) ≡ Ok x → ltb x.1 (length bytes) ≡ t → cond t (bad x.1 21) (Ok x.0) ≡ Err f → WrongMessage bytes f.place f.reason
    left x false is lt e = absurd cc
    left x true is lt e =
        let lawful = subst (λ (js : Kinds). AreLawful js) (sym types) (body_lawful bytes fs (fields_end_in bytes) stand) in
        let s = body_read (input_in bytes) 64 (to_end bytes) laws (end_valid bytes) (kind k ks) (body_place_in bytes) x lawful (omega (arith, w.whole)) is in
        let B : Kinds → Type 0 = λ js. BodyStands bytes js (items_of x.0) x.1 in
        let some : body_types fs ≢ no_kinds = λ none. (let clash = types ∙ none in cc) in
        subst (λ (g : Fault). WrongMessage bytes g.place g.reason) (err_is _ f e) (left_over fs (items_of x.0) x.1 stand some (subst B types (record { fit = s.fit; stand = s.stand; within = s.within })) (ltb-true _ _ lt))

    by : (r : Result (List Data × ℕ) Fault) → fields_at (one_at (input_in bytes) 64 (to_end bytes)) (types_in (kind k ks)) (body_place_in bytes) ≡ r → (r >>= nothing_left bytes) ≡ Err f → WrongMessage bytes f.place f.reason
    by (Ok x) is e = left x (ltb x.1 (length bytes)) is refl e
    by (Err g) is e =
        let lawful = subst (λ (js : Kinds). AreLawful js) (sym types) (body_lawful bytes fs (fields_end_in bytes) stand) in
        let wrong = body_told (input_in bytes) 64 (to_end bytes) laws (end_valid bytes) (kind k ks) (body_place_in bytes) f lawful (omega (arith, w.whole)) (is ∙ ap failed (err_is g f e)) in
        in_body fs f.place f.reason stand (subst (λ (js : Kinds). WrongField (input_in bytes) 64 js (to_end bytes) (body_place_in bytes) f.place f.reason) types wrong)

pub rest_told : (bytes : List ℕ) (fs : List Field) (found : Found) (f : Fault) → ReadLaws (input_in bytes) → IsWhole bytes → FieldsStand bytes fs (fields_end_in bytes) → Tracks found fs → rest_at bytes found ≡ Err f → WrongMessage bytes f.place f.reason
unfolding rest_at
rest_told bytes fs found f laws w stand tracks e = by (ltb (front_zeros bytes) (body_place_in bytes - fields_end_in bytes)) refl (sym (ap (λ (r : Result ℕ Fault). r >>= values_at bytes (signature_found found.signature)) (padding_is bytes w)) ∙ e)
  where
    by : (t : Bool) → ltb (front_zeros bytes) (body_place_in bytes - fields_end_in bytes) ≡ t → (cond t (bad (fields_end_in bytes + front_zeros bytes) 10) (Ok (body_place_in bytes)) >>= values_at bytes (signature_found found.signature)) ≡ Err f → WrongMessage bytes f.place f.reason
    by false is e = values_told bytes fs (signature_found found.signature) f laws w stand (sym (types_found found.signature) ∙ ap types_of_value (tracks Signature)) e
    by true is e =
        let end = fields_end_in bytes in
        let lt = ltb-true _ _ is in
        let inside : front_zeros bytes < length (drop end bytes) = omega (arith, lt, length-drop end bytes, w.whole) in
        let some = zeros_are (drop end bytes) (body_place_in bytes - end) lt inside in
        subst (λ (g : Fault). WrongMessage bytes g.place g.reason) (err_is _ f e)
        (padding_not_zero fs (end + front_zeros bytes) stand (omega arith) (omega (arith, lt)) (λ z. some (get_or-drop end bytes (front_zeros bytes) 0 ∙ z)))

-- the rest is told about, the least first
pub data WrongRest (bytes : List ℕ) (fs : List Field) : ℕ → ℕ → Type 0 where
  of_padding : (q : ℕ) → fields_end_in bytes ≤ q → q < body_place_in bytes → byte_in (input_in bytes) q ≢ 0 → WrongRest bytes fs q 10
  of_types : body_types fs ≡ no_kinds → body_place_in bytes < length bytes → WrongRest bytes fs (body_place_in bytes) 35
  of_body : (place reason : ℕ) → WrongField (input_in bytes) 64 (body_types fs) (to_end bytes) (body_place_in bytes) place reason → WrongRest bytes fs place reason
  of_end : (ds : Items) (next : ℕ) → body_types fs ≢ no_kinds → BodyStands bytes (body_types fs) ds next → next < length bytes → WrongRest bytes fs next 21

pub rest_behind : (bytes : List ℕ) (fs : List Field) (q s : ℕ) → ReadLaws (input_in bytes) → FieldsStand bytes fs (fields_end_in bytes) → WrongRest bytes fs q s → fields_end_in bytes ≤ q
rest_behind bytes fs q s laws stand (of_padding q' from lt some) = from
rest_behind bytes fs q s laws stand (of_types none lt) = omega arith
rest_behind bytes fs q s laws stand (of_body place reason wrong) = omega (arith, body_grows (input_in bytes) 64 (to_end bytes) laws (end_valid bytes) (body_types fs) (body_place_in bytes) place reason (body_lawful bytes fs (fields_end_in bytes) stand) wrong)
rest_behind bytes fs q s laws stand (of_end ds next some body lt) = omega (arith, body.stand.0)

values_least : (bytes : List ℕ) (fs : List Field) (ks : Kinds) (q s : ℕ) → ReadLaws (input_in bytes) → IsWhole bytes → FieldsStand bytes fs (fields_end_in bytes) → ks ≡ body_types fs → body_place_in bytes ≤ q → WrongRest bytes fs q s → TellsBy (values_at bytes ks (body_place_in bytes)) q s
values_least bytes fs ks q s laws w stand types le (of_padding q' from lt some) = absurd (omega (arith, le, lt))
values_least bytes fs no_kinds q s laws w stand types le (of_types none lt) = (record { place = body_place_in bytes; reason = 35 }, rw (lt-ltb _ _ lt) refl, inr (refl, omega arith))
values_least bytes fs (kind k ks) q s laws w stand types le (of_types none lt) = absurd (let clash = types ∙ none in cc)
values_least bytes fs no_kinds q s laws w stand types le (of_body place reason wrong) = absurd (let here = subst (λ (js : Kinds). WrongField (input_in bytes) 64 js (to_end bytes) (body_place_in bytes) place reason) (sym types) wrong in nothing_wrong here)
  where
    nothing_wrong : WrongField (input_in bytes) 64 no_kinds (to_end bytes) (body_place_in bytes) place reason → ⊥
    nothing_wrong h = elim h [ ]
values_least bytes fs (kind k ks) q s laws w stand types le (of_body place reason wrong) =
    let here = subst (λ (js : Kinds). WrongField (input_in bytes) 64 js (to_end bytes) (body_place_in bytes) place reason) (sym types) wrong in
    let lawful = subst (λ (js : Kinds). AreLawful js) (sym types) (body_lawful bytes fs (fields_end_in bytes) stand) in
    let l = body_least (input_in bytes) 64 (to_end bytes) laws (end_valid bytes) (kind k ks) (body_place_in bytes) place reason lawful (omega (arith, w.whole)) here in
    (l.0, ap (λ (r : Result (List Data × ℕ) Fault). r >>= nothing_left bytes) l.1, l.2)
values_least bytes fs no_kinds q s laws w stand types le (of_end ds next some body lt) = absurd (some (sym types))
values_least bytes fs (kind k ks) q s laws w stand types le (of_end ds next some body lt) =
    let lawful = subst (λ (js : Kinds). AreLawful js) (sym types) (body_lawful bytes fs (fields_end_in bytes) stand) in
    let B : Kinds → Type 0 = λ js. BodyStands bytes js ds next in
    let here = subst B (sym types) body in
    let e = body_again (input_in bytes) 64 (to_end bytes) laws (end_valid bytes) (kind k ks) ds (body_place_in bytes) next lawful (record { fit = here.fit; stand = here.stand; within = here.within }) in
    (record { place = next; reason = 21 }, ap (λ (r : Result (List Data × ℕ) Fault). r >>= nothing_left bytes) e ∙ rw (lt-ltb next (length bytes) lt) refl, inr (refl, omega arith))

in_padding : (bytes : List ℕ) (fs : List Field) (found : Found) (q s : ℕ) → ReadLaws (input_in bytes) → IsWhole bytes → FieldsStand bytes fs (fields_end_in bytes) → q < body_place_in bytes → WrongRest bytes fs q s
    → TellsBy (padding_at (input_in bytes) 8 (to_end bytes) (fields_end_in bytes) >>= values_at bytes (signature_found found.signature)) q s
in_padding bytes fs found q s laws w stand lt (of_padding q' from below some) =
    let t = padding_tells bytes q w from below some in
    (t.0, ap (λ (r : Result ℕ Fault). r >>= values_at bytes (signature_found found.signature)) t.1, t.2)
in_padding bytes fs found q s laws w stand lt (of_types none more) = absurd (omega (arith, lt))
in_padding bytes fs found q s laws w stand lt (of_body place reason wrong) = absurd (omega (arith, lt, body_grows (input_in bytes) 64 (to_end bytes) laws (end_valid bytes) (body_types fs) (body_place_in bytes) place reason (body_lawful bytes fs (fields_end_in bytes) stand) wrong))
in_padding bytes fs found q s laws w stand lt (of_end ds next some body more) = absurd (omega (arith, lt, body.stand.0))

pub rest_least : (bytes : List ℕ) (fs : List Field) (found : Found) (q s : ℕ) → ReadLaws (input_in bytes) → IsWhole bytes → FieldsStand bytes fs (fields_end_in bytes) → Tracks found fs → WrongRest bytes fs q s → TellsBy (rest_at bytes found) q s
unfolding rest_at
rest_least bytes fs found q s laws w stand tracks wrong = elim (cases_lt q (body_place_in bytes)) [
  | inl lt ↦ in_padding bytes fs found q s laws w stand lt wrong
  | inr le ↦ behind le (padding_at (input_in bytes) 8 (to_end bytes) (fields_end_in bytes)) refl
]
  where
    behind : body_place_in bytes ≤ q → (r : Result ℕ Fault) → padding_at (input_in bytes) 8 (to_end bytes) (fields_end_in bytes) ≡ r → TellsBy (r >>= values_at bytes (signature_found found.signature)) q s
    behind le (Ok p) is =
        let place : p ≡ body_place_in bytes = (padding_takes (input_in bytes) 8 (to_end bytes) (fields_end_in bytes) p (end_valid bytes) is).place in
        let types : signature_found found.signature ≡ body_types fs = sym (types_found found.signature) ∙ ap types_of_value (tracks Signature) in
        let T : ℕ → Type 0 = λ n. TellsBy (values_at bytes (signature_found found.signature) n) q s in
        subst T (sym place) (values_least bytes fs (signature_found found.signature) q s laws w stand types le wrong)
    behind le (Err g) is = (g, refl, inl (by (ltb (front_zeros bytes) (body_place_in bytes - fields_end_in bytes)) refl (sym (padding_is bytes w) ∙ is)))
      where
        by : (t : Bool) → ltb (front_zeros bytes) (body_place_in bytes - fields_end_in bytes) ≡ t → cond t (bad (fields_end_in bytes + front_zeros bytes) 10) (Ok (body_place_in bytes)) ≡ Err g → g.place < q
        by false t_is e = absurd cc
        by true t_is e = omega (arith, ltb-true _ _ t_is, ap (λ (f : Fault). f.place) (err_is _ g e), le)

pub rest_place : (bytes : List ℕ) (fs : List Field) (found : Found) (f : Fault) → ReadLaws (input_in bytes) → IsWhole bytes → FieldsStand bytes fs (fields_end_in bytes) → Tracks found fs → rest_at bytes found ≡ Err f → fields_end_in bytes ≤ f.place
unfolding rest_at
rest_place bytes fs found f laws w stand tracks e = by (ltb (front_zeros bytes) (body_place_in bytes - fields_end_in bytes)) refl (sym (ap (λ (r : Result ℕ Fault). r >>= values_at bytes (signature_found found.signature)) (padding_is bytes w)) ∙ e)
  where
    behind : (ks : Kinds) → ks ≡ body_types fs → values_at bytes ks (body_place_in bytes) ≡ Err f → fields_end_in bytes ≤ f.place
    behind no_kinds types e = none (ltb (body_place_in bytes) (length bytes)) e
      where
        none : (t : Bool) → cond {A = Result (List Data) Fault} t (bad (body_place_in bytes) 35) (Ok []) ≡ Err f → fields_end_in bytes ≤ f.place
        none false e = absurd cc
        none true e = omega (arith, ap (λ (g : Fault). g.place) (err_is _ f e))
    behind (kind k ks) types e = some (fields_at (one_at (input_in bytes) 64 (to_end bytes)) (types_in (kind k ks)) (body_place_in bytes)) refl e
      where
        some : (r : Result (List Data × ℕ) Fault) → fields_at (one_at (input_in bytes) 64 (to_end bytes)) (types_in (kind k ks)) (body_place_in bytes) ≡ r → (r >>= nothing_left bytes) ≡ Err f → fields_end_in bytes ≤ f.place
        some (Ok x) is e =
            let lawful = subst (λ (js : Kinds). AreLawful js) (sym types) (body_lawful bytes fs (fields_end_in bytes) stand) in
            let s = body_read (input_in bytes) 64 (to_end bytes) laws (end_valid bytes) (kind k ks) (body_place_in bytes) x lawful (omega (arith, w.whole)) is in
            left (ltb x.1 (length bytes)) e (omega (arith, s.stand.0))
          where
            left : (t : Bool) → cond t (bad x.1 21) (Ok x.0) ≡ Err f → fields_end_in bytes ≤ x.1 → fields_end_in bytes ≤ f.place
            left false e le = absurd cc
            left true e le = omega (arith, le, ap (λ (g : Fault). g.place) (err_is _ f e))
        some (Err g) is e =
            let lawful = subst (λ (js : Kinds). AreLawful js) (sym types) (body_lawful bytes fs (fields_end_in bytes) stand) in
            let wrong = body_told (input_in bytes) 64 (to_end bytes) laws (end_valid bytes) (kind k ks) (body_place_in bytes) f lawful (omega (arith, w.whole)) (is ∙ ap failed (err_is g f e)) in
            omega (arith, body_grows (input_in bytes) 64 (to_end bytes) laws (end_valid bytes) (kind k ks) (body_place_in bytes) f.place f.reason lawful wrong)

    by : (t : Bool) → ltb (front_zeros bytes) (body_place_in bytes - fields_end_in bytes) ≡ t → (cond t (bad (fields_end_in bytes + front_zeros bytes) 10) (Ok (body_place_in bytes)) >>= values_at bytes (signature_found found.signature)) ≡ Err f → fields_end_in bytes ≤ f.place
    by false is e = behind (signature_found found.signature) (sym (types_found found.signature) ∙ ap types_of_value (tracks Signature)) e
    by true is e = omega (arith, ap (λ (g : Fault). g.place) (err_is _ f e))
