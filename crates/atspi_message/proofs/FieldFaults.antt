-- What is wrong with a field is told, the least first; and a good field is read.
use Rattle.std.proofs.Common.{◌≡◌, ℕ, zero, suc, ◌+◌, ◌-◌, ◌<◌, ◌≤◌, Bool, true, false, cond, eqb, ltb, List, [], ◌∷◌, ◌++◌, length, take, drop, encode_utf8_all, Option, Some, None, Result, Ok, Err, refl, sym, ap, subst, ◌∙◌, arith, inl, inr, ◌⊎◌}
use Rattle.std.specs.Prelude.{◌==◌, ◌≢◌, ◌&&◌}
use Rattle.std.specs.Int.{w32}
use Rattle.std.proofs.lemmas.Bool.{eqb-true, eqb-false, eq-eqb, ltb-true, ltb-false, le-ltb}
use Rattle.atspi_base.specs.ReadsText.{text_in}
use Rattle.atspi_base.specs.declared.text.TextFault.{TextFault}
use Rattle.atspi_base.proofs.TextLemmas.{text_is}
use Rattle.atspi_types.specs.Kinds.{Kind, Kinds, number, text, path, signature, byte, variant, u32, no_kinds, kind, IsLawful}
use Rattle.atspi_types.specs.Data.{Data, number_data, boolean_data, text_data, path_data, signature_data, array_data, structure_data, dictionary_data, variant_data, item, no_items}
use Rattle.atspi_types.specs.declared.fault.Order.{Order}
use Rattle.atspi_types.specs.declared.fault.Fault.{Fault}
use Rattle.atspi_marshal.specs.declared.input.Bound.{Bound}
use Rattle.atspi_marshal.specs.Input.{Input, number_in, byte_in, slice_in, aligned}
use Rattle.atspi_types.specs.SignatureReading.{signature_in}
use Rattle.atspi_marshal.specs.Spelling.{Fits, single}
use Rattle.atspi_marshal.specs.Faults.{IsItem, IsInside, HasFront, long_in, short_in}
use Rattle.atspi_types.specs.SignatureFaults.{Before}
use Rattle.atspi_marshal.specs.Reading.{◌>>=◌, bad, passing_reason, zeros_in_front, padding_at, room_at, read, inner_at, as_variant, variant_with, text_with, ended}
use Rattle.atspi_marshal.proofs.Places.{IsValid, bind_ok, ok_is, done, passed_not}
use Rattle.atspi_message.specs.declared.code.Code.{Code}
use Rattle.atspi_message.specs.declared.code.Code.TheVariants.{Path, Interface, Member, Error, Reply, Destination, Sender, Signature, Descriptors}
use Rattle.atspi_message.specs.Codes.{number_of, code_of, kind_for, letter_of, IsText, IsNameFor}
use Rattle.atspi_message.specs.Bytes.{Field, field_kind, field_data}
use Rattle.atspi_message.specs.Faults.{Lacks, IsTyped, WrongAlone, no_code, other_type as other_is, second, no_name, no_serial, descriptors}
use Rattle.atspi_message.specs.inner.Reading.{Found, slot, put, is_there, is_name, name_reason, name_body_at, name_at, reply_at, descriptors_at, value_at, other_type, typed_body_at, typed_at, with_value, dropped, known_at, coded_at, field_at}
use Rattle.atspi_message.proofs.Room.{LongFits, ShortFits, short_in_room, long_in_room}
use Rattle.atspi_message.proofs.Told.{ReadLaws, Alone, Told, told_is, told_behind, failed, err_is}
use Rattle.atspi_message.proofs.Typed.{Typed, typed_ok, typed_told, typed_value, inside_to, inside_from, variant_here, IsTyped-types}
use Rattle.atspi_message.proofs.Values.{IsGoodValue, value_ok, value_told, text_here, name_here, number_here, reply_here, descriptors_here, inside_long, front_to}
use Rattle.atspi_message.proofs.Names.{name_spells, test_from_name, name_from_test}
use Rattle.atspi_message.proofs.Found.{code_of-number, number-code_of, number_not_zero, put_some, found_with, Tracks, there_not, lacks_there}
use Rattle.atspi_message.proofs.OneField.{packed, pack, behind_code, field_value, Parts, field_parts, room_place, eights, FieldRead, field_read}

-- a fault at a place before the one where a value of what follows begins
alone_before : (i : Input) (b : Bound) (fs : List Field) (p n : ℕ) (f : Fault) → ReadLaws i → IsValid i b → p + 1 ≤ b.end → f.place ≤ p → WrongAlone i b fs p f.place f.reason → Alone (WrongAlone i b fs p) (read i 62 variant b (p + 1) >>= pack n) f
alone_before i b fs p n f laws valid within le wrong = by (read i 62 variant b (p + 1)) refl
  where
    by : (r : Result (Data × ℕ) Fault) → read i 62 variant b (p + 1) ≡ r → Alone (WrongAlone i b fs p) (r >>= pack n) f
    by (Ok x) e = record { there = wrong; before = λ g clash. absurd cc; inside = λ y same. (let end : x.1 ≡ y.1 = cc in omega (arith, (laws.sound 62 variant b (p + 1) x tt valid e).1, end, le)) }
    by (Err h) e = record {
      there = wrong;
      before = λ g same. inl (omega (arith, le, laws.behind 62 variant b (p + 1) h.place h.reason (laws.there 62 variant b (p + 1) h tt valid within e), ap (λ (f : Fault). f.place) (err_is h g same)));
      inside = λ y clash. absurd cc;
    }

known_told : (i : Input) (b : Bound) (found : Found) (fs : List Field) (p : ℕ) (c : Code) (f : Fault) → ReadLaws i → IsValid i b → Tracks found fs → p + 1 ≤ b.end → aligned 4 (p + 4) ≡ p + 4 → code_of (byte_in i p) ≡ Some c
    → known_at i b found p c ≡ Err f → Told (WrongAlone i b fs p) (behind_code i b p) f
unfolding known_at
known_told i b found fs p c f laws valid tracks within same some e = by_seen (is_there (slot c found)) refl e
  where
    own : ℕ → ℕ → Type 0
    own = WrongAlone i b fs p

    coded : byte_in i p ≡ number_of c
    coded = number-code_of (byte_in i p) c some

    by_value : (q : ℕ) (r : Result (Data × ℕ) Fault) → typed_at i b c (p + 1) ≡ Ok q → value_at i b c q ≡ r → (r >>= with_value c found) ≡ Err f → Told (WrongAlone i b fs p) (behind_code i b p) f
    by_value q (Ok x) t v e = absurd cc
    by_value q (Err g) t v e =
        let typed = typed_ok i b c (p + 1) q within t in
        let place : q ≡ p + 4 = omega (arith, typed.is) in
        let fits : p + 4 ≤ b.end = omega (arith, (inside_to i b (p + 1) typed.typed.0).whole, typed.typed.1) in
        let whole : g ≡ f = err_is g f e in
        let failing : value_at i b c (p + 4) ≡ Err f = subst (λ (n : ℕ). value_at i b c n ≡ Err f) place (v ∙ ap failed whole) in
        let told = value_told i 60 b fs p c f laws valid (number-code_of (byte_in i p) c some) typed.typed same fits failing in
        let third : p + 1 + 3 ≡ p + 4 = omega arith in
        let inner = told_behind (WrongAlone i b fs p) (read i 61 (kind_for c) b (p + 4)) (λ d. variant_data (kind_for c) d) f told in
        let inner_is : read i 62 variant b (p + 1) ≡ (read i 61 (kind_for c) b (p + 4) >>= as_variant (kind_for c)) = typed_value i 61 b (p + 1) c laws valid typed.typed typed.ended ∙ ap (λ (n : ℕ). read i 61 (kind_for c) b n >>= as_variant (kind_for c)) third in
        told_behind (WrongAlone i b fs p) (read i 62 variant b (p + 1)) (λ d. packed (byte_in i p) d) f (told_is (WrongAlone i b fs p) _ _ f inner_is inner)

    by_type : (r : Result ℕ Fault) → typed_at i b c (p + 1) ≡ r → (r >>= λ q. value_at i b c q >>= with_value c found) ≡ Err f → Told (WrongAlone i b fs p) (behind_code i b p) f
    by_type (Ok q) t e = by_value q (value_at i b c q) t refl e
    by_type (Err g) t e =
        let told = typed_told i 61 b fs p c f laws valid (number-code_of (byte_in i p) c some) within (t ∙ ap failed (err_is g f e)) in
        told_behind (WrongAlone i b fs p) (read i 62 variant b (p + 1)) (λ d. packed (byte_in i p) d) f told

    by_seen : (t : Bool) → is_there (slot c found) ≡ t → cond t (bad p 30) (typed_at i b c (p + 1) >>= λ q. value_at i b c q >>= with_value c found) ≡ Err f → Told (WrongAlone i b fs p) (behind_code i b p) f
    by_seen true is e =
        let A : Fault → Type 0 = λ g. Told (WrongAlone i b fs p) (behind_code i b p) g in
        subst A (err_is _ f e) (inr (alone_before i b fs p (byte_in i p) (record { place = p; reason = 30 }) laws valid within (omega arith) (second c within (number-code_of (byte_in i p) c some) (there_not found fs c tracks is))))
    by_seen false is e = by_type (typed_at i b c (p + 1)) refl e

pub field_told : (i : Input) (b : Bound) (found : Found) (fs : List Field) (at : ℕ) (f : Fault) → ReadLaws i → IsValid i b → Tracks found fs → field_at i b found at ≡ Err f → Told (WrongAlone i b fs (aligned 8 at)) (read i 63 field_kind b at) f
unfolding field_at
field_told i b found fs at f laws valid tracks e = told_is (WrongAlone i b fs (aligned 8 at)) _ _ f (field_value i b at valid) (by_room (room_at i 8 1 b at) refl e)
  where
    by_code : (o : Option Code) (p : ℕ) → p + 1 ≤ b.end → aligned 4 (p + 4) ≡ p + 4 → code_of (byte_in i p) ≡ o → coded_at i b found p o ≡ Err f → Told (WrongAlone i b fs p) (behind_code i b p) f
    by_code (Some c) p within same some e = known_told i b found fs p c f laws valid tracks within same some e
    by_code None p within same none e = unknown (read i 62 variant b (p + 1)) refl e
      where
        unknown : (r : Result (Data × ℕ) Fault) → read i 62 variant b (p + 1) ≡ r → (r >>= dropped found) ≡ Err f → Told (WrongAlone i b fs p) (behind_code i b p) f
        unknown (Ok x) is e = absurd cc
        unknown (Err g) is e = inl (ap (λ (r : Result (Data × ℕ) Fault). r >>= pack (byte_in i p)) is ∙ ap failed (err_is g f e))

    by_zero : (t : Bool) (p : ℕ) → p + 1 ≤ b.end → aligned 4 (p + 4) ≡ p + 4 → (byte_in i p == 0) ≡ t → cond t (bad p 28) (coded_at i b found p (code_of (byte_in i p))) ≡ Err f → Told (WrongAlone i b fs p) (behind_code i b p) f
    by_zero true p within same is e =
        let A : Fault → Type 0 = λ g. Told (WrongAlone i b fs p) (behind_code i b p) g in
        subst A (err_is _ f e) (inr (alone_before i b fs p (byte_in i p) (record { place = p; reason = 28 }) laws valid within (omega arith) (no_code within (eqb-true _ 0 is))))
    by_zero false p within same is e = by_code (code_of (byte_in i p)) p within same refl e

    by_room : (r : Result ℕ Fault) → room_at i 8 1 b at ≡ r → (r >>= λ p. cond (byte_in i p == 0) (bad p 28) (coded_at i b found p (code_of (byte_in i p)))) ≡ Err f → Told (WrongAlone i b fs (aligned 8 at)) (r >>= behind_code i b) f
    by_room (Err g) is e = inl (ap failed (err_is g f e))
    by_room (Ok p) is e =
        let place = room_place i b at p valid is in
        let same : aligned 4 (p + 4) ≡ p + 4 = subst (λ (q : ℕ). aligned 4 (q + 4) ≡ q + 4) (sym place.0) (eights at) in
        let T : ℕ → Type 0 = λ q. Told (WrongAlone i b fs q) (behind_code i b p) f in
        subst T place.0 (by_zero (byte_in i p == 0) p place.1 same refl e)

-- padding that ends inside tells a place before its end
pub room_before : (i : Input) (b : Bound) (at : ℕ) (g : Fault) → aligned 8 at + 1 ≤ b.end → room_at i 8 1 b at ≡ Err g → g.place < aligned 8 at
unfolding room_at padding_at
room_before i b at g within e = split (ltb b.end whole) (ltb zeros (whole - at)) (ltb b.end (whole + 1)) refl refl refl e
  where
    whole : ℕ
    whole = aligned 8 at

    zeros : ℕ
    zeros = zeros_in_front (slice_in i at (aligned 8 at - at))

    split : (t u v : Bool) → ltb b.end (aligned 8 at) ≡ t → ltb (zeros_in_front (slice_in i at (aligned 8 at - at))) (aligned 8 at - at) ≡ u → ltb b.end (aligned 8 at + 1) ≡ v
        → (cond t (bad at (passing_reason i b at)) (cond u (bad (at + zeros_in_front (slice_in i at (aligned 8 at - at))) 10) (Ok (aligned 8 at))) >>= λ p. cond (ltb b.end (p + 1)) (bad p b.reason) (Ok p)) ≡ Err g → g.place < aligned 8 at
    split true u v t_is u_is v_is e = absurd (omega (arith, ltb-true b.end (aligned 8 at) t_is, within))
    split false true v t_is u_is v_is e = omega (arith, ltb-true _ _ u_is, ap (λ (f : Fault). f.place) (err_is _ g e))
    split false false true t_is u_is v_is e = absurd (omega (arith, ltb-true b.end (aligned 8 at + 1) v_is, within))
    split false false false t_is u_is v_is e = absurd (let clash : done (aligned 8 at) ≡ Err g = sym (ap (λ (t : Bool). cond t (bad (aligned 8 at) b.reason) (Ok (aligned 8 at))) v_is) ∙ e in cc)

-- a fault is told that comes before
abbrev pub TellsBy : {A : Type 0} → Result A Fault → ℕ → ℕ → Type 0
TellsBy r q s = (f : Fault) × (r ≡ Err f) × Before f.place f.reason q s

tells_at : {A : Type 0} (r : Result A Fault) (q s : ℕ) → r ≡ bad q s → TellsBy r q s
tells_at r q s e = (record { place = q; reason = s }, e, inr (refl, omega arith))

-- the room before, and then what stands there
told_in_room : (i : Input) (b : Bound) (found : Found) (at q s : ℕ) → IsValid i b → aligned 8 at + 1 ≤ b.end → aligned 8 at ≤ q
    → TellsBy (cond (byte_in i (aligned 8 at) == 0) (bad (aligned 8 at) 28) (coded_at i b found (aligned 8 at) (code_of (byte_in i (aligned 8 at))))) q s → TellsBy (field_at i b found at) q s
unfolding field_at
told_in_room i b found at q s valid within le told = by (room_at i 8 1 b at) refl
  where
    by : (r : Result ℕ Fault) → room_at i 8 1 b at ≡ r → TellsBy (r >>= λ p. cond (byte_in i p == 0) (bad p 28) (coded_at i b found p (code_of (byte_in i p)))) q s
    by (Err g) e = (g, refl, inl (omega (arith, room_before i b at g within e, le)))
    by (Ok p) e =
        let place = (room_place i b at p valid e).0 in
        let T : ℕ → Type 0 = λ n. TellsBy (cond (byte_in i n == 0) (bad n 28) (coded_at i b found n (code_of (byte_in i n)))) q s in
        subst T (sym place) told

-- a known code, the first time
told_known : (i : Input) (b : Bound) (found : Found) (c : Code) (p q s : ℕ) → byte_in i p ≡ number_of c → p < q → TellsBy (typed_at i b c (p + 1) >>= λ n. value_at i b c n >>= with_value c found) q s
    → TellsBy (cond (byte_in i p == 0) (bad p 28) (coded_at i b found p (code_of (byte_in i p)))) q s
unfolding known_at
told_known i b found c p q s coded lt told = by (byte_in i p == 0) (code_of (byte_in i p)) refl (ap code_of coded ∙ code_of-number c)
  where
    seen : (t : Bool) → TellsBy (cond t (bad p 30) (typed_at i b c (p + 1) >>= λ n. value_at i b c n >>= with_value c found)) q s
    seen true = (record { place = p; reason = 30 }, refl, inl lt)
    seen false = told

    by : (t : Bool) (o : Option Code) → (byte_in i p == 0) ≡ t → o ≡ Some c → TellsBy (cond t (bad p 28) (coded_at i b found p o)) q s
    by true o is some = absurd (number_not_zero c (sym coded ∙ eqb-true _ 0 is))
    by false None is some = absurd cc
    by false (Some k) is some = let who : c ≡ k = cc in
        let T : Code → Type 0 = λ j. TellsBy (known_at i b found p j) q s in
        subst T who (seen (is_there (slot c found)))

-- where the type is the field's, its value stands behind it
told_typed : (i : Input) (b : Bound) (found : Found) (c : Code) (p q s : ℕ) → IsTyped i b c (p + 1) → p + 3 < q → TellsBy (value_at i b c (p + 4)) q s → TellsBy (typed_at i b c (p + 1) >>= λ n. value_at i b c n >>= with_value c found) q s
unfolding typed_at typed_body_at
told_typed i b found c p q s typed lt told = rw (short_in_room i b (p + 1) (typed_body_at i c) (inside_to i b (p + 1) typed.0), eq-eqb _ _ typed.1, eq-eqb _ _ typed.2) (by (byte_in i (p + 1 + 2) == 0) (value_at i b c (p + 1 + 3)) (ap (λ (n : ℕ). value_at i b c n) third))
  where
    third : p + 1 + 3 ≡ p + 4
    third = omega arith

    by : (t : Bool) (r : Result (Data × ℕ) Fault) → r ≡ value_at i b c (p + 4) → TellsBy (cond t (Ok (p + 1 + 3)) (bad (p + 1 + 2) 12) >>= λ n. value_at i b c n >>= with_value c found) q s
    by false r e = (record { place = p + 1 + 2; reason = 12 }, refl, inl (omega (arith, lt)))
    by true r e =
        let f = told.0 in
        let third : p + 1 + 3 ≡ p + 4 = omega arith in
        (f, ap (λ (n : ℕ). value_at i b c n >>= with_value c found) third ∙ ap (λ (r : Result (Data × ℕ) Fault). r >>= with_value c found) told.1, told.2)

refused : (c : Code) (bytes : List ℕ) → IsText c → (IsNameFor c bytes → ⊥) → is_name c bytes ≡ false
refused c bytes is_text outside = by (is_name c bytes) refl
  where
    by : (t : Bool) → is_name c bytes ≡ t → t ≡ false
    by true is = absurd (outside (name_from_test c bytes is_text is))
    by false is = refl

-- a name outside its rule
name_tells : (i : Input) (b : Bound) (c : Code) (at : ℕ) → IsText c → aligned 4 at ≡ at → LongFits i b at → (IsNameFor c (long_in i at) → ⊥) → value_at i b c at ≡ bad at 31
unfolding name_body_at
name_tells i b Path at is_text same fits outside = absurd is_text
name_tells i b Interface at is_text same fits outside = name_here i b Interface at same fits ∙ rw (refused Interface (long_in i at) tt outside) refl
name_tells i b Member at is_text same fits outside = name_here i b Member at same fits ∙ rw (refused Member (long_in i at) tt outside) refl
name_tells i b Error at is_text same fits outside = name_here i b Error at same fits ∙ rw (refused Error (long_in i at) tt outside) refl
name_tells i b Reply at is_text same fits outside = absurd is_text
name_tells i b Destination at is_text same fits outside = name_here i b Destination at same fits ∙ rw (refused Destination (long_in i at) tt outside) refl
name_tells i b Sender at is_text same fits outside = name_here i b Sender at same fits ∙ rw (refused Sender (long_in i at) tt outside) refl
name_tells i b Signature at is_text same fits outside = absurd is_text
name_tells i b Descriptors at is_text same fits outside = absurd is_text

zero_tells : (i : Input) (b : Bound) (at : ℕ) → aligned 4 at ≡ at → at + 4 ≤ b.end → number_in i w32 at ≡ 0 → reply_at i b at ≡ bad at 32
zero_tells i b at same le zero_is = reply_here i b at same (omega (arith, le)) ∙ rw (le-ltb b.end (at + 4) le, zero_is) refl

some_tell : (i : Input) (b : Bound) (at : ℕ) → aligned 4 at ≡ at → at + 4 ≤ b.end → number_in i w32 at ≢ 0 → descriptors_at i b at ≡ bad at 33
some_tell i b at same le some = descriptors_here i b at same (omega (arith, le)) ∙ rw (le-ltb b.end (at + 4) le) (by (number_in i w32 at == 0) refl)
  where
    by : (t : Bool) → (number_in i w32 at == 0) ≡ t → cond {A = Result (Data × ℕ) Fault} t (Ok (number_data u32 (number_in i w32 at), at + 4)) (bad at 33) ≡ bad at 33
    by true is = absurd (some (eqb-true _ 0 is))
    by false is = refl

-- another type
type_tells : (i : Input) (b : Bound) (c : Code) (at : ℕ) (k : Kind) → ReadLaws i → IsValid i b → ShortFits i b at → signature_in (short_in i at) ≡ Ok (k ∷ []) → k ≢ kind_for c → typed_at i b c at ≡ bad at 29
unfolding typed_at typed_body_at
type_tells i b c at k laws valid fits types differs = short_in_room i b at (typed_body_at i c) fits ∙ by (byte_in i at == 1) (byte_in i (at + 1) == letter_of c) refl refl
  where
    other : other_type at (signature_in (short_in i at)) ≡ bad at 29
    other = ap (other_type at) types

    by : (t u : Bool) → (byte_in i at == 1) ≡ t → (byte_in i (at + 1) == letter_of c) ≡ u → cond (t && u) (cond (byte_in i (at + 2) == 0) (Ok (at + 3)) (bad (at + 2) 12)) (other_type at (signature_in (short_in i at))) ≡ bad at 29
    by true true t_is u_is = absurd (let same = sym types ∙ IsTyped-types i b at c laws valid (inside_from i b at fits, eqb-true _ 1 t_is, eqb-true _ _ u_is) in let who : k ≡ kind_for c = cc in differs who)
    by true false t_is u_is = ap (other_type at) types
    by false u t_is u_is = ap (other_type at) types

bound_fails : {A : Type 0} (r : Result ℕ Fault) (f : ℕ → Result A Fault) (q s : ℕ) → r ≡ bad q s → (r >>= f) ≡ bad q s
bound_fails r f q s e = rw e refl

twice : (i : Input) (b : Bound) (found : Found) (fs : List Field) (c : Code) (p : ℕ) → Tracks found fs → byte_in i p ≡ number_of c → (Lacks (number_of c) fs → ⊥) → TellsBy (cond (byte_in i p == 0) (bad p 28) (coded_at i b found p (code_of (byte_in i p)))) p 30
unfolding known_at
twice i b found fs c p tracks coded again = by (byte_in i p == 0) (code_of (byte_in i p)) refl (ap code_of coded ∙ code_of-number c)
  where
    seen : (t : Bool) → is_there (slot c found) ≡ t → TellsBy (cond t (bad p 30) (typed_at i b c (p + 1) >>= λ n. value_at i b c n >>= with_value c found)) p 30
    seen true is = tells_at _ p 30 refl
    seen false is = absurd (again (lacks_there found fs c tracks is))

    by : (t : Bool) (o : Option Code) → (byte_in i p == 0) ≡ t → o ≡ Some c → TellsBy (cond t (bad p 28) (coded_at i b found p o)) p 30
    by true o is some = absurd (number_not_zero c (sym coded ∙ eqb-true _ 0 is))
    by false None is some = absurd cc
    by false (Some k) is some = let who : c ≡ k = cc in
        let T : Code → Type 0 = λ j. TellsBy (known_at i b found p j) p 30 in
        subst T who (seen (is_there (slot c found)) refl)

-- each fault of a field's own is told, or one before it
pub field_least : (i : Input) (b : Bound) (found : Found) (fs : List Field) (at q s : ℕ) → ReadLaws i → IsValid i b → Tracks found fs → WrongAlone i b fs (aligned 8 at) q s → TellsBy (field_at i b found at) q s
field_least i b found fs at q s laws valid tracks (no_code within zero_is) =
    told_in_room i b found at _ _ valid within (omega arith) (rw zero_is (tells_at _ (aligned 8 at) 28 refl))
field_least i b found fs at q s laws valid tracks (other_is c k coded inside spelled lawful differs) =
    let fits = inside_to i b (aligned 8 at + 1) inside in
    let types = ap signature_in spelled ∙ laws.signature_again (k ∷ []) lawful in
    told_in_room i b found at _ _ valid (omega (arith, fits.whole)) (omega arith)
    (told_known i b found c (aligned 8 at) _ _ coded (omega arith) (tells_at _ (aligned 8 at + 1) 29 (bound_fails _ _ (aligned 8 at + 1) 29 (type_tells i b c (aligned 8 at + 1) k laws valid fits types differs))))
field_least i b found fs at q s laws valid tracks (second c within coded again) = told_in_room i b found at _ _ valid within (omega arith) (twice i b found fs c (aligned 8 at) tracks coded again)
field_least i b found fs at q s laws valid tracks (no_name c coded typed is_text inside outside) =
    told_in_room i b found at _ _ valid (omega (arith, (inside_to i b (aligned 8 at + 1) typed.0).whole)) (omega arith)
    (told_known i b found c (aligned 8 at) _ _ coded (omega arith)
    (told_typed i b found c (aligned 8 at) _ _ typed (omega arith) (tells_at _ (aligned 8 at + 4) 31 (name_tells i b c (aligned 8 at + 4) is_text (eights at) (inside_long i b (aligned 8 at + 4) (eights at) inside) outside))))
field_least i b found fs at q s laws valid tracks (no_serial coded typed front zero_is) =
    told_in_room i b found at _ _ valid (omega (arith, (inside_to i b (aligned 8 at + 1) typed.0).whole)) (omega arith)
    (told_known i b found Reply (aligned 8 at) _ _ coded (omega arith)
    (told_typed i b found Reply (aligned 8 at) _ _ typed (omega arith) (tells_at _ (aligned 8 at + 4) 32 (zero_tells i b (aligned 8 at + 4) (eights at) (front_to i b (aligned 8 at + 4) (eights at) front) zero_is))))
field_least i b found fs at q s laws valid tracks (descriptors coded typed front some) =
    told_in_room i b found at _ _ valid (omega (arith, (inside_to i b (aligned 8 at + 1) typed.0).whole)) (omega arith)
    (told_known i b found Descriptors (aligned 8 at) _ _ coded (omega arith)
    (told_typed i b found Descriptors (aligned 8 at) _ _ typed (omega arith) (tells_at _ (aligned 8 at + 4) 33 (some_tell i b (aligned 8 at + 4) (eights at) (front_to i b (aligned 8 at + 4) (eights at) front) some))))
