-- A fault that reading tells is there.
use Rattle.std.proofs.Common.{get_or, take, drop, inl, inr, ◌⊎◌, ◌≡◌, ℕ, zero, suc, ◌+◌, ◌-◌, ◌<◌, ◌≤◌, ◌^◌, Bool, true, false, cond, eqb, ltb, List, [], ◌∷◌, ◌++◌, length, encode_utf8_all, Option, Some, None, Result, Ok, Err, refl, sym, ap, subst, ◌∙◌, arith}
use Rattle.std.specs.Prelude.{◌==◌, ◌≢◌, ◌&&◌}
use Rattle.std.specs.Int.{Width, w32, byte_len}
use Rattle.std.specs.Str.Lossy.{utf8_valid_len}
use Rattle.std.proofs.lemmas.Bool.{ltb-false, ltb-true, eqb-true, eqb-false, cases_lt}
use Rattle.std.proofs.lemmas.List.{get_or-drop, get_or-take, length-take, length-drop}
use Rattle.atspi_base.specs.Text.{HasNoZero}
use Rattle.atspi_base.specs.ReadsText.{text_in}
use Rattle.atspi_base.proofs.TextLemmas.{text_is}
use Rattle.atspi_base.specs.declared.text.TextFault.{TextFault}
use Rattle.atspi_base.specs.declared.text.TextFault.TheVariants.{Zero, Utf8}
use Rattle.atspi_base.specs.declared.text.TextFault.TheVariants.{NoMemory as TextNoMemory}
use Rattle.atspi_base.specs.valid_names.Names.{IsPath, is_path}
use Rattle.atspi_types.specs.Kinds.{Num, width, number_alignment, Kind, number, boolean, text, path, signature, array, structure, variant, dictionary, Kinds, no_kinds, kind, kinds_of, types_in, alignment, IsBasic, IsLawful, AreLawful}
use Rattle.atspi_types.specs.Signatures.{signature_bytes, IsSignature}
use Rattle.atspi_types.specs.Data.{Data, number_data, boolean_data, text_data, path_data, signature_data, array_data, structure_data, variant_data, dictionary_data, Items, no_items, item, items_of}
use Rattle.atspi_types.specs.SignatureReading.{signature_in}
use Rattle.atspi_types.specs.declared.fault.Order.{Order}
use Rattle.atspi_marshal.specs.declared.input.Bound.{Bound}
use Rattle.atspi_types.specs.declared.fault.Fault.{Fault}
use Rattle.atspi_marshal.specs.Input.{Input, Stands, number_bytes, number_in, byte_in, slice_in, aligned, whole, to_end}
use Rattle.atspi_marshal.specs.Spelling.{padding, counted, counted_short, start_of, array_spelling, single, spelling, spellings, entry_spellings, Fits, AllFit, FieldsFit, EntriesFit}
use Rattle.atspi_marshal.specs.Faults.{IsItem, AreItems, entry_kind, inside, long_in, short_in, place_of, front_len, end_of, HasFront, IsInside, IsContainer, ArrayFits, inside_of, Wrong, padding_not_zero, padding_passes, front_passes, end_passes, too_deep, not_boolean, zero_in_text, not_utf8, not_path, text_not_ended, path_not_ended, bad_signature, signature_not_ended, bad_variant, variant_not_ended, not_one_type, in_variant, array_too_long, array_padding, in_element, in_dictionary, in_field, WrongField, this_field, later_field}
use Rattle.atspi_marshal.specs.Reading.{◌>>=◌, bad, zeros_in_front, passing_reason, Reader, padding_at, room_at, number_at, boolean_at, ended, text_with, text_body_at, path_body_at, long_place, long_at, short_place, short_at, signature_with, signature_body_at, as_variant, inner_at, variant_with, variant_body_at, put_first, elements_at, as_array, array_body_at, array_place, unless_deep, array_at, entries_in, as_dictionary, dictionary_body_at, dictionary_at, nothing, single_at, first_of, first_in, nothing, fields_first, fields_at, as_structure, first_of, deep_at, structure_at, is_structure, level, read, decoded}
use Rattle.atspi_marshal.proofs.Places.{done, aligned-one, padding_takes, room_takes, IsBytes, IsValid, Room, bind_ok, ok_is, passed, passed_not, length-slice, Stands-nil, Stands-append, Stands-slice, Stands-byte, room_then, padding_then, wide, wide32, number_takes}
use Rattle.atspi_types.proofs.SignatureLaws.{signature_in-read, signature_in-told}
use Rattle.atspi_marshal.proofs.Levels.{dictionary_is, types_in-kinds_of}
use Rattle.atspi_marshal.proofs.Entries.{structs_of, structs-entries, entry_spellings-structs, all_entries_fit}
use Rattle.atspi_base.proofs.OfValidNames.NameLemmas.{IsPath-from_test, is_path-from_IsPath}
use Rattle.atspi_marshal.proofs.Sound.{Takes, IsSound, IsSound-read, entry_lawful, all_lawful}
use Rattle.atspi_marshal.proofs.TextFaults.{TextFaultIs, text_fault, zero_at}

-- a chain that failed: its first step did, or what follows it
pub bind_err : {A B : Type 0} (r : Result A Fault) (g : A → Result B Fault) (f : Fault) → (r >>= g) ≡ Err f → (r ≡ Err f) ⊎ ((x : A) × (r ≡ Ok x) × (g x ≡ Err f))
bind_err (Ok x) g f e = inr (x, refl, e)
bind_err (Err d) g f e = inl cc

-- a test that failed, or what follows it
pub test_err : {A : Type 0} (t : Bool) (d f : Fault) (r : Result A Fault) → cond t (Err d) r ≡ Err f → ((t ≡ true) × (d ≡ f)) ⊎ ((t ≡ false) × (r ≡ Err f))
test_err true d f r e = inl (refl, cc)
test_err false d f r e = inr (refl, e)

pub at_fault : {A : Type 0} (d f : Fault) (r : Result A Fault) → r ≡ Err d → r ≡ Err f → d ≡ f
at_fault d f (Err h) e g = cc
at_fault d f (Ok x) e g = absurd cc

abbrev pub fault_at : ℕ → ℕ → Fault
fault_at p r = record { place = p; reason = r }

abbrev pair_ok : Data → ℕ → Result (Data × ℕ) Fault
pair_ok d next = Ok (d, next)

abbrev failed : Fault → Result (Data × ℕ) Fault
failed f = Err f

err_is : (d f : Fault) → failed d ≡ failed f → d ≡ f
err_is d f e = cc

abbrev pub IsThere : Input → ℕ → Reader → Type 0
IsThere i levels one = (k : Kind) (b : Bound) (at : ℕ) (f : Fault) → IsLawful k → IsValid i b → at ≤ b.end → one k b at ≡ Err f → Wrong i levels k b at f.place f.reason

-- what is wrong with the front of an item: its padding, or the bytes that it begins with
pub data FrontWrong (i : Input) (n len : ℕ) (b : Bound) (at : ℕ) : ℕ → ℕ → Type 0 where
  front_zero : (q : ℕ) → at ≤ q → q < aligned n at → q < b.end → byte_in i q ≢ 0 → FrontWrong i n len b at q 10
  front_padding : b.end < aligned n at → FrontWrong i n len b at at b.reason
  front_bytes : aligned n at ≤ b.end → b.end < aligned n at + len → FrontWrong i n len b at (aligned n at) b.reason

pub front_wrong : (i : Input) (levels : ℕ) (k : Kind) (b : Bound) (at q s : ℕ) → FrontWrong i (alignment k) (front_len k) b at q s → Wrong i levels k b at q s
front_wrong i levels k b at q s (front_zero q' low high within ne) = padding_not_zero levels k b at q' low high within ne
front_wrong i levels k b at q s (front_padding lt) = padding_passes levels k b at lt
front_wrong i levels k b at q s (front_bytes le lt) = front_passes levels k b at le lt

zeros_end : (bytes : List ℕ) → zeros_in_front bytes < length bytes → get_or bytes (zeros_in_front bytes) 0 ≢ 0
zeros_end [] lt = absurd (omega arith)
zeros_end (zero ∷ bytes) lt = zeros_end bytes (omega arith)
zeros_end (suc b ∷ bytes) lt = λ e. omega (arith, e)

abbrev pub FaultIn : Input → ℕ → ℕ → Bound → ℕ → Fault → Type 0
FaultIn i n len b at f = FrontWrong i n len b at f.place f.reason

-- padding that passes the end
passing_there : (i : Input) (n len : ℕ) (b : Bound) (at : ℕ) → b.end < aligned n at → FaultIn i n len b at (record { place = at; reason = passing_reason i b at })
passing_there i n len b at lt = by (ltb at b.end) refl
  where
    by_byte : (t : Bool) → (byte_in i at == 0) ≡ t → at < b.end → FaultIn i n len b at (record { place = at; reason = cond t b.reason 10 })
    by_byte true t in_end = front_padding lt
    by_byte false t in_end = front_zero at (omega arith) (omega (arith, lt, in_end)) in_end (eqb-false (byte_in i at) 0 t)

    by : (t : Bool) → ltb at b.end ≡ t → FaultIn i n len b at (record { place = at; reason = cond t (cond (byte_in i at == 0) b.reason 10) b.reason })
    by true t = by_byte (byte_in i at == 0) refl (ltb-true at b.end t)
    by false t = front_padding lt

padding_there : (i : Input) (n len : ℕ) (b : Bound) (at : ℕ) (f : Fault) → IsValid i b → padding_at i n b at ≡ Err f → FaultIn i n len b at f
unfolding padding_at
padding_there i n len b at f valid e =
    let p = aligned n at in
    let z = zeros_in_front (slice_in i at (p - at)) in
    elim (test_err (ltb b.end p) (record { place = at; reason = passing_reason i b at }) f (cond (ltb z (p - at)) (bad (at + z) 10) (Ok p)) e) [
      | inl h ↦ subst (λ (g : Fault). FaultIn i n len b at g) h.1 (passing_there i n len b at (ltb-true b.end p h.0))
      | inr h ↦
          elim (test_err (ltb z (p - at)) (record { place = at + z; reason = 10 }) f (Ok p) h.1) [
            | inl h' ↦
                let le : p ≤ b.end = ltb-false b.end p h.0 in
                let pad = p - at in
                let lt : z < pad = ltb-true z pad h'.0 in
                let long : length (slice_in i at pad) ≡ pad = omega (arith, length-take pad (drop at i.bytes), length-drop at i.bytes, le, valid.long) in
                let here : get_or (slice_in i at pad) z 0 ≡ byte_in i (at + z) = get_or-take pad (drop at i.bytes) z 0 lt ∙ get_or-drop at i.bytes z 0 in
                subst (λ (g : Fault). FaultIn i n len b at g) h'.1 (front_zero (at + z) (omega arith) (omega (arith, lt)) (omega (arith, lt, le)) (λ w. zeros_end (slice_in i at pad) (omega (arith, long, lt)) (here ∙ w)))
            | inr h' ↦ absurd cc
          ]
    ]

room_there : (i : Input) (n len : ℕ) (b : Bound) (at : ℕ) (f : Fault) → IsValid i b → room_at i n len b at ≡ Err f → FaultIn i n len b at f
unfolding room_at
room_there i n len b at f valid e =
    elim (bind_err (padding_at i n b at) (λ p. cond (ltb b.end (p + len)) (bad p b.reason) (Ok p)) f e) [
      | inl h ↦ padding_there i n len b at f valid h
      | inr x ↦
          let padded = padding_takes i n b at x.0 valid x.1 in
          elim (test_err (ltb b.end (x.0 + len)) (record { place = x.0; reason = b.reason }) f (Ok x.0) x.2) [
            | inl h ↦ subst (λ (g : Fault). FaultIn i n len b at g) h.1 (subst (λ (p : ℕ). FaultIn i n len b at (record { place = p; reason = b.reason })) (sym padded.place) (front_bytes (omega (arith, padded.place, padded.within)) (omega (arith, padded.place, ltb-true b.end (x.0 + len) h.0))))
            | inr h ↦ absurd cc
          ]
    ]

-- behind its room
pub data Behind {A : Type 0} (i : Input) (n len : ℕ) (b : Bound) (at : ℕ) (g : ℕ → Result A Fault) (f : Fault) : Type 0 where
  in_front : FaultIn i n len b at f → Behind i n len b at g f
  behind : aligned n at + len ≤ b.end → g (aligned n at) ≡ Err f → Behind i n len b at g f

room_behind : {A : Type 0} (i : Input) (n len : ℕ) (b : Bound) (at : ℕ) (g : ℕ → Result A Fault) (f : Fault) → IsValid i b → (room_at i n len b at >>= g) ≡ Err f → Behind i n len b at g f
room_behind i n len b at g f valid e =
    elim (bind_err (room_at i n len b at) g f e) [
      | inl h ↦ in_front (room_there i n len b at f valid h)
      | inr x ↦
          let r = room_takes i n len b at x.0 valid x.1 in
          behind (omega (arith, r.place, r.within)) (subst (λ (p : ℕ). g p ≡ Err f) r.place x.2)
    ]

padding_behind : {A : Type 0} (i : Input) (n : ℕ) (b : Bound) (at : ℕ) (g : ℕ → Result A Fault) (f : Fault) → IsValid i b → (padding_at i n b at >>= g) ≡ Err f → Behind i n 0 b at g f
padding_behind i n b at g f valid e =
    elim (bind_err (padding_at i n b at) g f e) [
      | inl h ↦ in_front (padding_there i n 0 b at f valid h)
      | inr x ↦
          let r = padding_takes i n b at x.0 valid x.1 in
          behind (omega (arith, r.place, r.within)) (subst (λ (p : ℕ). g p ≡ Err f) r.place x.2)
    ]

-- numbers and booleans

abbrev pub number_ok : Input → Num → ℕ → Result (Data × ℕ) Fault
number_ok i n p = Ok (number_data n (number_in i (width n) p), p + byte_len (width n))

abbrev pub boolean_ok : Input → ℕ → Result (Data × ℕ) Fault
boolean_ok i p = cond (ltb 1 (number_in i w32 p)) (bad p 11) (Ok (boolean_data (number_in i w32 p == 1), p + 4))

number_there : (i : Input) (levels : ℕ) (n : Num) (b : Bound) (at : ℕ) (f : Fault) → IsValid i b → number_at i n b at ≡ Err f → Wrong i levels (number n) b at f.place f.reason
unfolding number_at
number_there i levels n b at f valid e = by (room_behind i (number_alignment n) (byte_len (width n)) b at (number_ok i n) f valid e)
  where
    by : Behind i (number_alignment n) (byte_len (width n)) b at (number_ok i n) f → Wrong i levels (number n) b at f.place f.reason
    by (in_front h) = front_wrong i levels (number n) b at f.place f.reason h
    by (behind room h) = absurd cc

boolean_there : (i : Input) (levels : ℕ) (b : Bound) (at : ℕ) (f : Fault) → IsValid i b → boolean_at i b at ≡ Err f → Wrong i levels boolean b at f.place f.reason
unfolding boolean_at
boolean_there i levels b at f valid e = by (room_behind i 4 4 b at (boolean_ok i) f valid e)
  where
    by : Behind i 4 4 b at (boolean_ok i) f → Wrong i levels boolean b at f.place f.reason
    by (in_front h) = front_wrong i levels boolean b at f.place f.reason h
    by (behind room h) =
        let p = aligned 4 at in
        elim (test_err (ltb 1 (number_in i w32 p)) (record { place = p; reason = 11 }) f (Ok (boolean_data (number_in i w32 p == 1), p + 4)) h) [
          | inl g ↦ subst (λ (d : Fault). Wrong i levels boolean b at d.place d.reason) g.1 (not_boolean levels b at room (ltb-true 1 (number_in i w32 p) g.0))
          | inr g ↦ absurd cc
        ]

abbrev pub place_ok : ℕ → Result ℕ Fault
place_ok p = Ok p

abbrev place_failed : Fault → Result ℕ Fault
place_failed f = Err f

place_err : (d f : Fault) → place_failed d ≡ place_failed f → d ≡ f
place_err d f e = cc

true_false : true ≡ false → ⊥
true_false e = cc

put_fails : (d : Data) (r : Result (List Data) Fault) (f : Fault) → (r >>= put_first d) ≡ Err f → r ≡ Err f
put_fails d (Ok y) f e = absurd cc
put_fails d (Err h) f e = cc

-- texts, paths and signatures

-- a length of 32 bits, or what stands behind it
pub data LongFails (i : Input) (body : ℕ → Result (Data × ℕ) Fault) (b : Bound) (at : ℕ) (f : Fault) : Type 0 where
  long_front : FaultIn i 4 4 b at f → LongFails i body b at f
  long_passes : aligned 4 at + 4 ≤ b.end → b.end < aligned 4 at + 5 + number_in i w32 (aligned 4 at) → record { place = aligned 4 at; reason = b.reason } ≡ f → LongFails i body b at f
  long_body : aligned 4 at + 4 ≤ b.end → aligned 4 at + 5 + number_in i w32 (aligned 4 at) ≤ b.end → body (aligned 4 at) ≡ Err f → LongFails i body b at f

abbrev pub long_test : Input → Bound → ℕ → Result ℕ Fault
long_test i b p = cond (ltb b.end (p + 5 + number_in i w32 p)) (bad p b.reason) (Ok p)

regroup : {A B C : Type 0} (r : Result A Fault) (g : A → Result B Fault) (h : B → Result C Fault) → ((r >>= g) >>= h) ≡ (r >>= λ x. g x >>= h)
regroup (Ok x) g h = refl
regroup (Err e) g h = refl

long_there : (i : Input) (body : ℕ → Result (Data × ℕ) Fault) (b : Bound) (at : ℕ) (f : Fault) → IsValid i b → long_at body i b at ≡ Err f → LongFails i body b at f
unfolding long_at long_place
long_there i body b at f valid e = by (room_behind i 4 4 b at (λ p. long_test i b p >>= body) f valid (sym (regroup (room_at i 4 4 b at) (long_test i b) body) ∙ e))
  where
    tested : aligned 4 at + 4 ≤ b.end → (t : Bool) → ltb b.end (aligned 4 at + 5 + number_in i w32 (aligned 4 at)) ≡ t → (cond t (bad (aligned 4 at) b.reason) (Ok (aligned 4 at)) >>= body) ≡ Err f → LongFails i body b at f
    tested room true t h = long_passes room (ltb-true b.end _ t) (err_is (record { place = aligned 4 at; reason = b.reason }) f h)
    tested room false t h = long_body room (ltb-false b.end _ t) h

    by : Behind i 4 4 b at (λ p. long_test i b p >>= body) f → LongFails i body b at f
    by (in_front h) = long_front h
    by (behind room h) = tested room (ltb b.end (aligned 4 at + 5 + number_in i w32 (aligned 4 at))) refl h

pub data ShortFails (i : Input) (body : ℕ → Result (Data × ℕ) Fault) (b : Bound) (at : ℕ) (f : Fault) : Type 0 where
  short_front : FaultIn i 1 1 b at f → ShortFails i body b at f
  short_passes : at + 1 ≤ b.end → b.end < at + 2 + byte_in i at → record { place = at; reason = b.reason } ≡ f → ShortFails i body b at f
  short_body : at + 1 ≤ b.end → at + 2 + byte_in i at ≤ b.end → body at ≡ Err f → ShortFails i body b at f

abbrev pub short_test : Input → Bound → ℕ → Result ℕ Fault
short_test i b p = cond (ltb b.end (p + 2 + byte_in i p)) (bad p b.reason) (Ok p)

short_there : (i : Input) (body : ℕ → Result (Data × ℕ) Fault) (b : Bound) (at : ℕ) (f : Fault) → IsValid i b → short_at body i b at ≡ Err f → ShortFails i body b at f
unfolding short_at short_place
short_there i body b at f valid e = by (room_behind i 1 1 b at (λ p. short_test i b p >>= body) f valid (sym (regroup (room_at i 1 1 b at) (short_test i b) body) ∙ e))
  where
    tested : at + 1 ≤ b.end → (t : Bool) → ltb b.end (at + 2 + byte_in i at) ≡ t → (cond t (bad at b.reason) (Ok at) >>= body) ≡ Err f → ShortFails i body b at f
    tested room true t h = short_passes room (ltb-true b.end _ t) (err_is (record { place = at; reason = b.reason }) f h)
    tested room false t h = short_body room (ltb-false b.end _ t) h

    by : Behind i 1 1 b at (λ p. short_test i b p >>= body) f → ShortFails i body b at f
    by (in_front h) = short_front h
    by (behind room h) = tested (omega (arith, room)) (ltb b.end (at + 2 + byte_in i at)) refl (subst (λ (p : ℕ). (short_test i b p >>= body) ≡ Err f) (aligned-one at) h)

ended_there : (i : Input) (at : ℕ) (d : Data) (f : Fault) → ended i at d ≡ Err f → (byte_in i at ≢ 0) × (record { place = at; reason = 12 } ≡ f)
ended_there i at d f e = by (byte_in i at == 0) refl e
  where
    by : (t : Bool) → (byte_in i at == 0) ≡ t → cond t (pair_ok d (at + 1)) (bad at 12) ≡ Err f → (byte_in i at ≢ 0) × (record { place = at; reason = 12 } ≡ f)
    by true t e = absurd cc
    by false t e = (eqb-false (byte_in i at) 0 t, err_is (record { place = at; reason = 12 }) f e)

abbrev pub WrongAt : Input → ℕ → Kind → Bound → ℕ → Fault → Type 0
WrongAt i levels k b at f = Wrong i levels k b at f.place f.reason

-- what a long item holds
long_byte : (i : Input) (p z n : ℕ) → z < n → get_or (slice_in i (p + 4) n) z 0 ≡ byte_in i (p + 4 + z)
long_byte i p z n lt = get_or-take n (drop (p + 4) i.bytes) z 0 lt ∙ get_or-drop (p + 4) i.bytes z 0

text_with_there : (i : Input) (levels : ℕ) (b : Bound) (at : ℕ) (f : Fault) → IsValid i b → IsInside i text b at → (r : Result (List ℕ) TextFault) → text_in (long_in i (aligned 4 at)) ≡ r → text_with i (aligned 4 at) (number_in i w32 (aligned 4 at)) r ≡ Err f → WrongAt i levels text b at f
text_with_there i levels b at f valid fits (Ok cs) is e =
    let p = aligned 4 at in
    let g = ended_there i (p + 4 + number_in i w32 p) (text_data cs) f e in
    subst (λ (d : Fault). WrongAt i levels text b at d) g.1 (text_not_ended levels b at fits g.0)
text_with_there i levels b at f valid fits (Err (Zero z)) is e =
    let p = aligned 4 at in
    let n = number_in i w32 p in
    let h = text_fault (long_in i p) (Zero z) is in
    let len : length (long_in i p) ≡ n = length-slice i (p + 4) n (omega (arith, fits.1, valid.long)) in
    let lt : z < n = omega (arith, h.0, len) in
    let byte_is : byte_in i (p + 4 + z) ≡ 0 = sym (long_byte i p z n lt) ∙ (ap (λ (m : ℕ). get_or (long_in i p) m 0) h.1 ∙ zero_at (long_in i p) (omega (arith, h.0, h.1))) in
    subst (λ (d : Fault). WrongAt i levels text b at d) (err_is (record { place = p + 4 + z; reason = 13 }) f e) (zero_in_text levels b at (p + 4 + z) fits (omega arith) (omega (arith, lt)) byte_is)
text_with_there i levels b at f valid fits (Err (Utf8 v)) is e =
    let p = aligned 4 at in
    let n = number_in i w32 p in
    let h = text_fault (long_in i p) (Utf8 v) is in
    let len : length (long_in i p) ≡ n = length-slice i (p + 4) n (omega (arith, fits.1, valid.long)) in
    let there : Wrong i levels text b at (p + 4 + utf8_valid_len (long_in i p)) 14 = not_utf8 levels b at fits (omega (arith, h.0, h.1, len)) in
    subst (λ (d : Fault). WrongAt i levels text b at d) (err_is (record { place = p + 4 + v; reason = 14 }) f e) (subst (λ (m : ℕ). Wrong i levels text b at (p + 4 + m) 14) (sym h.1) there)
text_with_there i levels b at f valid fits (Err TextNoMemory) is e = absurd (text_fault (long_in i (aligned 4 at)) TextNoMemory is)

text_there : (i : Input) (levels : ℕ) (b : Bound) (at : ℕ) (f : Fault) → IsValid i b → long_at (text_body_at i) i b at ≡ Err f → WrongAt i levels text b at f
unfolding text_body_at
text_there i levels b at f valid e = by (long_there i (text_body_at i) b at f valid e)
  where
    by : LongFails i (text_body_at i) b at f → WrongAt i levels text b at f
    by (long_front h) = front_wrong i levels text b at f.place f.reason h
    by (long_passes room lt same) = subst (λ (d : Fault). WrongAt i levels text b at d) same (end_passes levels text b at room lt)
    by (long_body room fits h) = text_with_there i levels b at f valid (room, fits) (text_in (long_in i (aligned 4 at))) refl h

path_there : (i : Input) (levels : ℕ) (b : Bound) (at : ℕ) (f : Fault) → IsValid i b → long_at (path_body_at i) i b at ≡ Err f → WrongAt i levels path b at f
unfolding path_body_at
path_there i levels b at f valid e = by (long_there i (path_body_at i) b at f valid e)
  where
    tested : IsInside i path b at → (t : Bool) → is_path (long_in i (aligned 4 at)) ≡ t → cond t (ended i (aligned 4 at + 4 + number_in i w32 (aligned 4 at)) (path_data (long_in i (aligned 4 at)))) (bad (aligned 4 at) 15) ≡ Err f → WrongAt i levels path b at f
    tested fits true t h =
        let p = aligned 4 at in
        let g = ended_there i (p + 4 + number_in i w32 p) (path_data (long_in i p)) f h in
        subst (λ (d : Fault). WrongAt i levels path b at d) g.1 (path_not_ended levels b at fits g.0)
    tested fits false t h =
        let p = aligned 4 at in
        let outside : IsPath (long_in i p) → ⊥ = λ is. true_false (sym (is_path-from_IsPath (long_in i p) is) ∙ t) in
        subst (λ (d : Fault). WrongAt i levels path b at d) (err_is (record { place = p; reason = 15 }) f h) (not_path levels b at fits outside)

    by : LongFails i (path_body_at i) b at f → WrongAt i levels path b at f
    by (long_front h) = front_wrong i levels path b at f.place f.reason h
    by (long_passes room lt same) = subst (λ (d : Fault). WrongAt i levels path b at d) same (end_passes levels path b at room lt)
    by (long_body room fits h) = tested (room, fits) (is_path (long_in i (aligned 4 at))) refl h

-- an item with a length of 8 bits stands at its own place
short_inside : (i : Input) (k : Kind) (b : Bound) (at : ℕ) → aligned 1 at ≡ at → at + 1 ≤ b.end → at + 2 + byte_in i at ≤ b.end → (aligned 1 at + 1 ≤ b.end) × (aligned 1 at + 2 + byte_in i (aligned 1 at) ≤ b.end)
short_inside i k b at same room fits = (omega (arith, same, room), subst (λ (p : ℕ). p + 2 + byte_in i p ≤ b.end) (sym same) fits)

short_passing : (i : Input) (levels : ℕ) (b : Bound) (at : ℕ) → at + 1 ≤ b.end → b.end < at + 2 + byte_in i at → Wrong i levels signature b at at b.reason × Wrong i levels variant b at at b.reason
short_passing i levels b at room lt =
    let same = aligned-one at in
    let over : b.end < aligned 1 at + 2 + byte_in i (aligned 1 at) = subst (λ (p : ℕ). b.end < p + 2 + byte_in i p) (sym same) lt in (
      subst (λ (p : ℕ). Wrong i levels signature b at p b.reason) same (end_passes levels signature b at (omega (arith, same, room)) over),
      subst (λ (p : ℕ). Wrong i levels variant b at p b.reason) same (end_passes levels variant b at (omega (arith, same, room)) over),
    )

signature_with_there : (i : Input) (levels : ℕ) (b : Bound) (at : ℕ) (f : Fault) → IsInside i signature b at → (r : Result (List Kind) Fault) → signature_in (short_in i at) ≡ r → signature_with i at r ≡ Err f → WrongAt i levels signature b at f
signature_with_there i levels b at f fits (Ok ks) is e =
    let g = ended_there i (at + 1 + byte_in i at) (signature_data (kinds_of ks)) f e in
    subst (λ (d : Fault). WrongAt i levels signature b at d) g.1 (signature_not_ended levels b at fits g.0)
signature_with_there i levels b at f fits (Err d) is e =
    subst (λ (g : Fault). WrongAt i levels signature b at g) (err_is (record { place = at + 1 + d.place; reason = d.reason }) f e) (bad_signature levels b at d.place d.reason fits (signature_in-told (short_in i at) d is).there)

signature_there : (i : Input) (levels : ℕ) (b : Bound) (at : ℕ) (f : Fault) → IsValid i b → short_at (signature_body_at i) i b at ≡ Err f → WrongAt i levels signature b at f
unfolding signature_body_at
signature_there i levels b at f valid e = by (short_there i (signature_body_at i) b at f valid e)
  where
    by : ShortFails i (signature_body_at i) b at f → WrongAt i levels signature b at f
    by (short_front h) = front_wrong i levels signature b at f.place f.reason h
    by (short_passes room lt same) = subst (λ (d : Fault). WrongAt i levels signature b at d) same (short_passing i levels b at room lt).0
    by (short_body room fits h) = signature_with_there i levels b at f (short_inside i signature b at (aligned-one at) room fits) (signature_in (short_in i at)) refl h

-- arrays

-- the place of an array's length
pub data PlaceFails (i : Input) (k : Kind) (b : Bound) (at : ℕ) (f : Fault) : Type 0 where
  place_front : FaultIn i 4 4 b at f → PlaceFails i k b at f
  place_long : aligned 4 at + 4 ≤ b.end → 67108864 < number_in i w32 (aligned 4 at) → record { place = aligned 4 at; reason = 17 } ≡ f → PlaceFails i k b at f
  place_passes : aligned 4 at + 4 ≤ b.end → b.end < (inside_of i k at).end → record { place = aligned 4 at; reason = b.reason } ≡ f → PlaceFails i k b at f

-- an array that may be read on
pub record Placed (i : Input) (k : Kind) (b : Bound) (at p : ℕ) : Type 0 where
  pub place : p ≡ aligned 4 at
  pub fits : ArrayFits i k b at

pub array_place_fails : (i : Input) (k : Kind) (b : Bound) (at : ℕ) (f : Fault) → IsValid i b → array_place i (alignment k) b at ≡ Err f → PlaceFails i k b at f
unfolding array_place
array_place_fails i k b at f valid e = by (room_behind i 4 4 b at _ f valid e)
  where
    rest : ℕ → Result ℕ Fault
    rest p = cond (ltb 67108864 (number_in i w32 p)) (bad p 17) (cond (ltb b.end (aligned (alignment k) (p + 4) + number_in i w32 p)) (bad p b.reason) (Ok p))

    second : aligned 4 at + 4 ≤ b.end → (t : Bool) → ltb b.end (aligned (alignment k) (aligned 4 at + 4) + number_in i w32 (aligned 4 at)) ≡ t → cond t (bad (aligned 4 at) b.reason) (place_ok (aligned 4 at)) ≡ Err f → PlaceFails i k b at f
    second room true t h = place_passes room (ltb-true b.end _ t) (place_err (record { place = aligned 4 at; reason = b.reason }) f h)
    second room false t h = absurd cc

    first : aligned 4 at + 4 ≤ b.end → (t : Bool) → ltb 67108864 (number_in i w32 (aligned 4 at)) ≡ t → cond t (bad (aligned 4 at) 17) (cond (ltb b.end (aligned (alignment k) (aligned 4 at + 4) + number_in i w32 (aligned 4 at))) (bad (aligned 4 at) b.reason) (place_ok (aligned 4 at))) ≡ Err f → PlaceFails i k b at f
    first room true t h = place_long room (ltb-true 67108864 _ t) (place_err (record { place = aligned 4 at; reason = 17 }) f h)
    first room false t h = second room (ltb b.end (aligned (alignment k) (aligned 4 at + 4) + number_in i w32 (aligned 4 at))) refl h

    by : Behind i 4 4 b at rest f → PlaceFails i k b at f
    by (in_front h) = place_front h
    by (behind room h) = first room (ltb 67108864 (number_in i w32 (aligned 4 at))) refl h

pub array_placed : (i : Input) (k : Kind) (b : Bound) (at p : ℕ) → IsValid i b → array_place i (alignment k) b at ≡ Ok p → Placed i k b at p
unfolding array_place
array_placed i k b at p valid e =
    let a = room_then i 4 4 b at _ p valid e in
    let q = aligned 4 at in
    let n = number_in i w32 q in
    let g17 = passed (ltb 67108864 n) (record { place = q; reason = 17 }) _ p a.1 in
    let g18 = passed (ltb b.end (inside k q n).end) (record { place = q; reason = b.reason }) (Ok q) p g17.1 in
    record { place = sym (ok_is q p g18.1); fits = ((a.0.within, ltb-false b.end (inside k q n).end g18.0), ltb-false 67108864 n g17.0) }

place_wrong : (i : Input) (levels : ℕ) (k : Kind) (b : Bound) (at : ℕ) (f : Fault) → PlaceFails i k b at f → WrongAt i levels (array k) b at f
place_wrong i levels k b at f (place_front h) = front_wrong i levels (array k) b at f.place f.reason h
place_wrong i levels k b at f (place_long room lt same) = subst (λ (d : Fault). WrongAt i levels (array k) b at d) same (array_too_long levels k b at room lt)
place_wrong i levels k b at f (place_passes room lt same) = subst (λ (d : Fault). WrongAt i levels (array k) b at d) same (end_passes levels (array k) b at room lt)

-- an element that fails, behind those that are spelled
pub record ElementFails (i : Input) (levels : ℕ) (k : Kind) (b : Bound) (at : ℕ) (f : Fault) : Type 0 where
  pub before : Items
  pub next : ℕ
  pub are : AreItems i levels k b at next before
  pub more : next < b.end
  pub wrong : Wrong i levels k b next f.place f.reason

elements_there : (i : Input) (levels : ℕ) (k : Kind) (b : Bound) (one : Reader) → IsSound i levels one → IsThere i levels one → IsLawful k → IsValid i b → (fuel at : ℕ) (f : Fault) → at ≤ b.end → elements_at (one k b) b.end fuel at ≡ Err f → ElementFails i levels k b at f
elements_there i levels k b one sound there lawful valid zero at f low e = absurd cc
elements_there i levels k b one sound there lawful valid (suc fuel) at f low e =
    by (ltb at b.end) refl e (λ (q : ℕ) (within : q ≤ b.end) (h : elements_at (one k b) b.end fuel q ≡ Err f). elements_there i levels k b one sound there lawful valid fuel q f within h)
  where
    by : (t : Bool) → ltb at b.end ≡ t → cond t (one k b at >>= λ x. elements_at (one k b) b.end fuel x.1 >>= put_first x.0) (Ok []) ≡ Err f
        → ((q : ℕ) → q ≤ b.end → elements_at (one k b) b.end fuel q ≡ Err f → ElementFails i levels k b q f) → ElementFails i levels k b at f
    by false t e again = absurd cc
    by true t e again =
        elim (bind_err (one k b at) (λ x. elements_at (one k b) b.end fuel x.1 >>= put_first x.0) f e) [
          | inl h ↦ record { before = no_items; next = at; are = record { fit = tt; stand = Stands-nil i at; within = low }; more = ltb-true at b.end t; wrong = there k b at f lawful valid low h }
          | inr x ↦
              let taken = sound k b at x.0 lawful valid x.1 in
              let rest = again x.0.1 taken.is.within (put_fails x.0.0 (elements_at (one k b) b.end fuel x.0.1) f x.2) in
              let d = x.0.0 in
              let mid : x.0.1 ≡ at + length (spelling i.order at d) = taken.is.stands.0 in
              record {
                before = item d rest.before;
                next = rest.next;
                are = record {
                  fit = (taken.is.fits, subst (λ (m : ℕ). AllFit i.order levels m rest.before k) mid rest.are.fit);
                  stand = Stands-append i at x.0.1 rest.next (spelling i.order at d) _ taken.is.stands (subst (λ (m : ℕ). Stands i x.0.1 (spellings i.order m rest.before) rest.next) mid rest.are.stand);
                  within = rest.are.within;
                };
                more = rest.more;
                wrong = rest.wrong;
              }
        ]

unfoldable pub array_rest : Reader → Input → Kind → ℕ → ℕ → Result (Data × ℕ) Fault
array_rest one i k p s = elements_at (one k (inside k p (number_in i w32 p))) (inside k p (number_in i w32 p)).end (number_in i w32 p) s >>= as_array k (inside k p (number_in i w32 p)).end

made_fails : (k : Kind) (end : ℕ) (r : Result (List Data) Fault) (f : Fault) → (r >>= as_array k end) ≡ Err f → r ≡ Err f
made_fails k end (Ok y) f e = absurd cc
made_fails k end (Err h) f e = cc

-- the padding of the first element never passes the end
inner_padding : (i : Input) (levels : ℕ) (k : Kind) (b : Bound) (at : ℕ) (q s : ℕ) → ArrayFits i k b at → FrontWrong i (alignment k) 0 (inside_of i k at) (aligned 4 at + 4) q s → Wrong i levels (array k) b at q s
inner_padding i levels k b at q s fits (front_zero q' low high in_end ne) = array_padding levels k b at q' fits low high ne
inner_padding i levels k b at q s fits (front_padding lt) = absurd (omega (arith, lt))
inner_padding i levels k b at q s fits (front_bytes le lt) = absurd (omega (arith, le, lt))

pred_suc : (levels : ℕ) → suc levels - 1 ≡ levels
pred_suc levels = omega arith

array_body_there : (i : Input) (levels : ℕ) (one : Reader) → IsSound i levels one → IsThere i levels one → (k : Kind) (b : Bound) (at : ℕ) (f : Fault) → IsLawful k → IsValid i b → ArrayFits i k b at → array_body_at one i k (aligned 4 at) ≡ Err f → WrongAt i (suc levels) (array k) b at f
unfolding array_body_at array_rest
array_body_there i levels one sound there k b at f lawful valid fits e =
    let within = inside_of i k at in
    let p = aligned 4 at in
    let valid_inside : IsValid i within = record { long = omega (arith, valid.long, fits.0.1); late = (omega arith, omega arith) } in
    by valid_inside (padding_behind i (alignment k) within (p + 4) (array_rest one i k p) f valid_inside e)
  where
    by : IsValid i (inside_of i k at) → Behind i (alignment k) 0 (inside_of i k at) (aligned 4 at + 4) (array_rest one i k (aligned 4 at)) f → WrongAt i (suc levels) (array k) b at f
    by valid_inside (in_front h) = inner_padding i (suc levels) k b at f.place f.reason fits h
    by valid_inside (behind room h) =
        let within = inside_of i k at in
        let p = aligned 4 at in
        let s = aligned (alignment k) (p + 4) in
        let n = number_in i w32 p in
        let fails = elements_there i levels k within one sound there lawful valid_inside n s f (omega (arith, room)) (made_fails k within.end (elements_at (one k within) within.end n s) f h) in
        let less = sym (pred_suc levels) in
        in_element (suc levels) k b at fails.next f.place f.reason fails.before fits
        (subst (λ (l : ℕ). AreItems i l k within s fails.next fails.before) less fails.are) fails.more
        (subst (λ (l : ℕ). Wrong i l k within fails.next f.place f.reason) less fails.wrong)

array_there : (i : Input) (levels : ℕ) (one : Reader) → IsSound i levels one → IsThere i levels one → (k : Kind) (b : Bound) (at : ℕ) (f : Fault) → IsLawful k → IsValid i b → array_at false one i k b at ≡ Err f → WrongAt i (suc levels) (array k) b at f
unfolding array_at
array_there i levels one sound there k b at f lawful valid e =
    elim (bind_err (array_place i (alignment k) b at) (unless_deep false (array_body_at one i k)) f e) [
      | inl h ↦ place_wrong i (suc levels) k b at f (array_place_fails i k b at f valid h)
      | inr x ↦
          let placed = array_placed i k b at x.0 valid x.1 in
          array_body_there i levels one sound there k b at f lawful valid placed.fits (subst (λ (p : ℕ). array_body_at one i k p ≡ Err f) placed.place x.2)
    ]

array_deep_there : (i : Input) (one : Reader) (k : Kind) (b : Bound) (at : ℕ) (f : Fault) → IsValid i b → array_at true one i k b at ≡ Err f → WrongAt i 0 (array k) b at f
unfolding array_at
array_deep_there i one k b at f valid e =
    elim (bind_err (array_place i (alignment k) b at) (unless_deep true (array_body_at one i k)) f e) [
      | inl h ↦ place_wrong i 0 k b at f (array_place_fails i k b at f valid h)
      | inr x ↦
          let placed = array_placed i k b at x.0 valid x.1 in
          let same : record { place = aligned 4 at; reason = 20 } ≡ f = ap (λ (p : ℕ). fault_at p 20) (sym placed.place) ∙ err_is (record { place = x.0; reason = 20 }) f x.2 in
          subst (λ (d : Fault). WrongAt i 0 (array k) b at d) same (too_deep (array k) b at tt (omega (arith, placed.fits.0.0)))
    ]

as_dictionary_ok : (k v : Kind) (d : Data) (next : ℕ) → (y : Data × ℕ) × (as_dictionary k v (d, next) ≡ Ok y)
as_dictionary_ok k v (number_data n x) next = (_, refl)
as_dictionary_ok k v (boolean_data t) next = (_, refl)
as_dictionary_ok k v (text_data cs) next = (_, refl)
as_dictionary_ok k v (path_data bs) next = (_, refl)
as_dictionary_ok k v (signature_data ks) next = (_, refl)
as_dictionary_ok k v (array_data j ds) next = (_, refl)
as_dictionary_ok k v (structure_data ds) next = (_, refl)
as_dictionary_ok k v (variant_data j d) next = (_, refl)
as_dictionary_ok k v (dictionary_data j w es) next = (_, refl)

pub dictionary_fails : (k v : Kind) (r : Result (Data × ℕ) Fault) (f : Fault) → (r >>= as_dictionary k v) ≡ Err f → r ≡ Err f
dictionary_fails k v (Ok x) f e = let ok = as_dictionary_ok k v x.0 x.1 in absurd (clash ok.0 (sym ok.1 ∙ e))
  where
    clash : (y : Data × ℕ) → done y ≡ Err f → ⊥
    clash y e = cc
dictionary_fails k v (Err h) f e = e

-- structs

fields_fail : (d : Data) (r : Result (List Data × ℕ) Fault) (f : Fault) → (r >>= fields_first d) ≡ Err f → r ≡ Err f
fields_fail d (Ok y) f e = absurd cc
fields_fail d (Err h) f e = cc

struct_fails : (r : Result (List Data × ℕ) Fault) (f : Fault) → (r >>= as_structure) ≡ Err f → r ≡ Err f
struct_fails (Ok y) f e = absurd cc
struct_fails (Err h) f e = cc

fields_there : (i : Input) (levels : ℕ) (one : Reader) → IsSound i levels one → IsThere i levels one → (ks : Kinds) (b : Bound) (at : ℕ) (f : Fault) → AreLawful ks → IsValid i b → at ≤ b.end → fields_at (λ k p. one k b p) (types_in ks) at ≡ Err f → WrongField i levels ks b at f.place f.reason
fields_there i levels one sound there no_kinds b at f lawful valid low e = absurd cc
fields_there i levels one sound there (kind k ks) b at f lawful valid low e =
    elim (bind_err (one k b at) (λ x. fields_at (λ j p. one j b p) (types_in ks) x.1 >>= fields_first x.0) f e) [
      | inl first ↦ this_field levels k ks b at f.place f.reason (there k b at f lawful.0 valid low first)
      | inr x ↦
          let taken = sound k b at x.0 lawful.0 valid x.1 in
          later_field levels k ks b at x.0.1 f.place f.reason x.0.0 taken.is
          (fields_there i levels one sound there ks b x.0.1 f lawful.1 valid taken.is.within (fields_fail x.0.0 (fields_at (λ j p. one j b p) (types_in ks) x.0.1) f x.2))
    ]

structure_there : (i : Input) (levels : ℕ) (one : Reader) → IsSound i levels one → IsThere i levels one → (ks : Kinds) (b : Bound) (at : ℕ) (f : Fault) → IsLawful (structure ks) → IsValid i b → structure_at false one i (types_in ks) b at ≡ Err f → WrongAt i (suc levels) (structure ks) b at f
unfolding structure_at
structure_there i levels one sound there ks b at f lawful valid e = by (padding_behind i 8 b at (λ p. fields_at (λ k q. one k b q) (types_in ks) p >>= as_structure) f valid e)
  where
    by : Behind i 8 0 b at (λ p. fields_at (λ k q. one k b q) (types_in ks) p >>= as_structure) f → WrongAt i (suc levels) (structure ks) b at f
    by (in_front h) = front_wrong i (suc levels) (structure ks) b at f.place f.reason h
    by (behind room h) =
        let p = aligned 8 at in
        let fields = fields_there i levels one sound there ks b p f (all_lawful ks lawful) valid (omega (arith, room)) (struct_fails (fields_at (λ k q. one k b q) (types_in ks) p) f h) in
        in_field (suc levels) ks b at f.place f.reason (omega (arith, room)) (subst (λ (l : ℕ). WrongField i l ks b p f.place f.reason) (sym (pred_suc levels)) fields)

-- variants

inner_there : (i : Input) (levels : ℕ) (one : Reader) → IsThere i levels one → (k : Kind) (b : Bound) (at : ℕ) (f : Fault) → IsValid i b → IsInside i variant b at → at + 2 + byte_in i at ≤ b.end → signature_in (short_in i at) ≡ Ok (k ∷ []) → inner_at false one i b at k ≡ Err f → WrongAt i (suc levels) variant b at f
unfolding inner_at
inner_there i levels one there k b at f valid fits within is e =
    by (byte_in i (at + 1 + byte_in i at) == 0) refl e
  where
    variant_fails : (r : Result (Data × ℕ) Fault) → (r >>= as_variant k) ≡ Err f → r ≡ Err f
    variant_fails (Ok y) e = absurd cc
    variant_fails (Err h) e = cc

    by : (t : Bool) → (byte_in i (at + 1 + byte_in i at) == 0) ≡ t → cond t (one k b (at + 2 + byte_in i at) >>= as_variant k) (bad (at + 1 + byte_in i at) 12) ≡ Err f → WrongAt i (suc levels) variant b at f
    by true t e =
        let reads = signature_in-read (short_in i at) (k ∷ []) is in
        let wrong = there k b (at + 2 + byte_in i at) f reads.is.lawful.0 valid within (variant_fails (one k b (at + 2 + byte_in i at)) e) in
        in_variant (suc levels) k b at f.place f.reason fits reads.spelled reads.is (eqb-true _ 0 t) (subst (λ (l : ℕ). Wrong i l k b (at + 2 + byte_in i at) f.place f.reason) (sym (pred_suc levels)) wrong)
    by false t e = subst (λ (d : Fault). WrongAt i (suc levels) variant b at d) (err_is (record { place = at + 1 + byte_in i at; reason = 12 }) f e) (variant_not_ended (suc levels) b at fits (eqb-false _ 0 t))

not_one : (i : Input) (levels : ℕ) (b : Bound) (at : ℕ) (f : Fault) (ks : List Kind) → IsInside i variant b at → signature_in (short_in i at) ≡ Ok ks → (length ks ≡ 1 → ⊥) → record { place = at; reason = 16 } ≡ f → WrongAt i levels variant b at f
not_one i levels b at f ks fits is many same =
    let reads = signature_in-read (short_in i at) ks is in
    subst (λ (d : Fault). WrongAt i levels variant b at d) same (not_one_type levels b at (kinds_of ks) fits reads.spelled reads.is (λ one. many (ap length (sym (types_in-kinds_of ks)) ∙ one)))

variant_with_there : (i : Input) (levels : ℕ) (one : Reader) → IsThere i levels one → (b : Bound) (at : ℕ) (f : Fault) → IsValid i b → IsInside i variant b at → at + 2 + byte_in i at ≤ b.end → (r : Result (List Kind) Fault) → signature_in (short_in i at) ≡ r → variant_with false one i b at r ≡ Err f → WrongAt i (suc levels) variant b at f
variant_with_there i levels one there b at f valid fits within (Ok []) is e = not_one i (suc levels) b at f [] fits is (λ one. omega (arith, one)) (err_is (record { place = at; reason = 16 }) f e)
variant_with_there i levels one there b at f valid fits within (Ok (k ∷ [])) is e = inner_there i levels one there k b at f valid fits within is e
variant_with_there i levels one there b at f valid fits within (Ok (k ∷ j ∷ ks)) is e = not_one i (suc levels) b at f (k ∷ j ∷ ks) fits is (λ one. omega (arith, one)) (err_is (record { place = at; reason = 16 }) f e)
variant_with_there i levels one there b at f valid fits within (Err d) is e =
    subst (λ (g : Fault). WrongAt i (suc levels) variant b at g) (err_is (record { place = at + 1 + d.place; reason = d.reason }) f e) (bad_variant (suc levels) b at d.place d.reason fits (signature_in-told (short_in i at) d is).there)

variant_there : (i : Input) (levels : ℕ) (one : Reader) → IsThere i levels one → (b : Bound) (at : ℕ) (f : Fault) → IsValid i b → short_at (variant_body_at false one i b) i b at ≡ Err f → WrongAt i (suc levels) variant b at f
unfolding variant_body_at
variant_there i levels one there b at f valid e = by (short_there i (variant_body_at false one i b) b at f valid e)
  where
    by : ShortFails i (variant_body_at false one i b) b at f → WrongAt i (suc levels) variant b at f
    by (short_front h) = front_wrong i (suc levels) variant b at f.place f.reason h
    by (short_passes room lt same) = subst (λ (d : Fault). WrongAt i (suc levels) variant b at d) same (short_passing i (suc levels) b at room lt).1
    by (short_body room fits h) = variant_with_there i levels one there b at f valid (short_inside i variant b at (aligned-one at) room fits) fits (signature_in (short_in i at)) refl h

variant_too_deep : (i : Input) (b : Bound) (at : ℕ) (f : Fault) → at + 1 ≤ b.end → record { place = at; reason = 20 } ≡ f → WrongAt i 0 variant b at f
variant_too_deep i b at f room same =
    subst (λ (d : Fault). WrongAt i 0 variant b at d) same (subst (λ (p : ℕ). Wrong i 0 variant b at p 20) (aligned-one at) (too_deep variant b at tt (omega (arith, room))))

variant_with_deep : (i : Input) (one : Reader) (b : Bound) (at : ℕ) (f : Fault) → IsInside i variant b at → at + 1 ≤ b.end → (r : Result (List Kind) Fault) → signature_in (short_in i at) ≡ r → variant_with true one i b at r ≡ Err f → WrongAt i 0 variant b at f
unfolding inner_at
variant_with_deep i one b at f fits room (Ok []) is e = not_one i 0 b at f [] fits is (λ one. omega (arith, one)) (err_is (record { place = at; reason = 16 }) f e)
variant_with_deep i one b at f fits room (Ok (k ∷ [])) is e = variant_too_deep i b at f room (err_is (record { place = at; reason = 20 }) f e)
variant_with_deep i one b at f fits room (Ok (k ∷ j ∷ ks)) is e = not_one i 0 b at f (k ∷ j ∷ ks) fits is (λ one. omega (arith, one)) (err_is (record { place = at; reason = 16 }) f e)
variant_with_deep i one b at f fits room (Err d) is e = variant_too_deep i b at f room (err_is (record { place = at; reason = 20 }) f e)

variant_deep_there : (i : Input) (one : Reader) (b : Bound) (at : ℕ) (f : Fault) → IsValid i b → short_at (variant_body_at true one i b) i b at ≡ Err f → WrongAt i 0 variant b at f
unfolding variant_body_at
variant_deep_there i one b at f valid e = by (short_there i (variant_body_at true one i b) b at f valid e)
  where
    by : ShortFails i (variant_body_at true one i b) b at f → WrongAt i 0 variant b at f
    by (short_front h) = front_wrong i 0 variant b at f.place f.reason h
    by (short_passes room lt same) = subst (λ (d : Fault). WrongAt i 0 variant b at d) same (short_passing i 0 b at room lt).1
    by (short_body room fits h) = variant_with_deep i one b at f (short_inside i variant b at (aligned-one at) room fits) room (signature_in (short_in i at)) refl h

-- any item

level_there : (i : Input) (levels : ℕ) (one : Reader) → IsSound i levels one → IsThere i levels one → IsThere i (suc levels) (level false one i)
unfolding level single_at
level_there i levels one sound there (number n) b at f lawful valid low e = number_there i (suc levels) n b at f valid e
level_there i levels one sound there boolean b at f lawful valid low e = boolean_there i (suc levels) b at f valid e
level_there i levels one sound there text b at f lawful valid low e = text_there i (suc levels) b at f valid e
level_there i levels one sound there path b at f lawful valid low e = path_there i (suc levels) b at f valid e
level_there i levels one sound there signature b at f lawful valid low e = signature_there i (suc levels) b at f valid e
level_there i levels one sound there (array k) b at f lawful valid low e = array_there i levels one sound there k b at f lawful valid e
level_there i levels one sound there (structure ks) b at f lawful valid low e = structure_there i levels one sound there ks b at f lawful valid e
level_there i levels one sound there variant b at f lawful valid low e = variant_there i levels one there b at f valid e
level_there i levels one sound there (dictionary k v) b at f lawful valid low e =
    in_dictionary (suc levels) k v b at f.place f.reason (array_there i levels one sound there (entry_kind k v) b at f (entry_lawful k v lawful) valid (dictionary_fails k v (array_at false one i (entry_kind k v) b at) f (sym (dictionary_is false one i k v b at) ∙ e)))

-- at the last level: what is no struct
pub single_deep_there : (i : Input) (one : Reader) (k : Kind) (b : Bound) (at : ℕ) (f : Fault) → is_structure k ≡ false → IsLawful k → IsValid i b → single_at true one i k b at ≡ Err f → Wrong i 0 k b at f.place f.reason
unfolding single_at
single_deep_there i one (number n) b at f plain lawful valid e = number_there i 0 n b at f valid e
single_deep_there i one boolean b at f plain lawful valid e = boolean_there i 0 b at f valid e
single_deep_there i one text b at f plain lawful valid e = text_there i 0 b at f valid e
single_deep_there i one path b at f plain lawful valid e = path_there i 0 b at f valid e
single_deep_there i one signature b at f plain lawful valid e = signature_there i 0 b at f valid e
single_deep_there i one (array k) b at f plain lawful valid e = array_deep_there i one k b at f valid e
single_deep_there i one (structure ks) b at f plain lawful valid e = absurd cc
single_deep_there i one variant b at f plain lawful valid e = variant_deep_there i one b at f valid e
single_deep_there i one (dictionary k v) b at f plain lawful valid e =
    in_dictionary 0 k v b at f.place f.reason (array_deep_there i one (entry_kind k v) b at f valid (dictionary_fails k v (array_at true one i (entry_kind k v) b at) f (sym (dictionary_is true one i k v b at) ∙ e)))

-- the first inner item of a struct stands where the struct does
pub first_there : (i : Input) (one : Reader) (k : Kind) (b : Bound) (p : ℕ) (f : Fault) → IsLawful k → IsValid i b → aligned 8 p ≡ p → p ≤ b.end → single_at true one i (first_of k) b p ≡ Err f → Wrong i 0 k b p f.place f.reason
first_there i one (number n) b p f lawful valid same low e = single_deep_there i one (number n) b p f refl lawful valid e
first_there i one boolean b p f lawful valid same low e = single_deep_there i one boolean b p f refl lawful valid e
first_there i one text b p f lawful valid same low e = single_deep_there i one text b p f refl lawful valid e
first_there i one path b p f lawful valid same low e = single_deep_there i one path b p f refl lawful valid e
first_there i one signature b p f lawful valid same low e = single_deep_there i one signature b p f refl lawful valid e
first_there i one (array k) b p f lawful valid same low e = single_deep_there i one (array k) b p f refl lawful valid e
first_there i one variant b p f lawful valid same low e = single_deep_there i one variant b p f refl lawful valid e
first_there i one (dictionary k v) b p f lawful valid same low e = single_deep_there i one (dictionary k v) b p f refl lawful valid e
first_there i one (structure no_kinds) b p f lawful valid same low e = absurd lawful
first_there i one (structure (kind k ks)) b p f lawful valid same low e =
    in_field 0 (kind k ks) b p f.place f.reason (omega (arith, same, low)) (this_field 0 k ks b (aligned 8 p) f.place f.reason
    (subst (λ (q : ℕ). Wrong i 0 k b q f.place f.reason) (sym same) (first_there i one k b p f lawful.0 valid same low e)))

pub aligned-again : (at : ℕ) → aligned 8 (aligned 8 at) ≡ aligned 8 at
aligned-again at = omega arith

structure_deep_there : (i : Input) (one : Reader) (ks : Kinds) (b : Bound) (at : ℕ) (f : Fault) → IsLawful (structure ks) → IsValid i b → structure_at true one i (types_in ks) b at ≡ Err f → WrongAt i 0 (structure ks) b at f
unfolding structure_at
structure_deep_there i one no_kinds b at f lawful valid e = absurd lawful
structure_deep_there i one (kind k ks) b at f lawful valid e = by (padding_behind i 8 b at (λ p. deep_at p (single_at true one i (first_of k) b p)) f valid e)
  where
    deep_fails : (p : ℕ) (r : Result (Data × ℕ) Fault) → deep_at p r ≡ Err f → (r ≡ Err f) ⊎ (record { place = p; reason = 20 } ≡ f)
    deep_fails p (Ok x) e = inr (err_is (record { place = p; reason = 20 }) f e)
    deep_fails p (Err g) e = elim (test_err (ltb g.reason 20 && g.place == p) g f (bad p 20) e) [ inl h ↦ inl (ap failed h.1) | inr h ↦ inr (err_is (record { place = p; reason = 20 }) f h.1) ]

    by : Behind i 8 0 b at (λ p. deep_at p (single_at true one i (first_of k) b p)) f → WrongAt i 0 (structure (kind k ks)) b at f
    by (in_front h) = front_wrong i 0 (structure (kind k ks)) b at f.place f.reason h
    by (behind room h) =
        let p = aligned 8 at in
        elim (deep_fails p (single_at true one i (first_of k) b p) h) [
          | inl r ↦ in_field 0 (kind k ks) b at f.place f.reason (omega (arith, room)) (this_field 0 k ks b p f.place f.reason (first_there i one k b p f lawful.0 valid (aligned-again at) (omega (arith, room)) r))
          | inr same ↦ subst (λ (d : Fault). WrongAt i 0 (structure (kind k ks)) b at d) same (too_deep (structure (kind k ks)) b at tt (omega (arith, room)))
        ]

deep_there : (i : Input) (one : Reader) → IsThere i 0 (level true one i)
unfolding level
deep_there i one (number n) b at f lawful valid low e = single_deep_there i one (number n) b at f refl lawful valid e
deep_there i one boolean b at f lawful valid low e = single_deep_there i one boolean b at f refl lawful valid e
deep_there i one text b at f lawful valid low e = single_deep_there i one text b at f refl lawful valid e
deep_there i one path b at f lawful valid low e = single_deep_there i one path b at f refl lawful valid e
deep_there i one signature b at f lawful valid low e = single_deep_there i one signature b at f refl lawful valid e
deep_there i one (array k) b at f lawful valid low e = single_deep_there i one (array k) b at f refl lawful valid e
deep_there i one (structure ks) b at f lawful valid low e = structure_deep_there i one ks b at f lawful valid e
deep_there i one variant b at f lawful valid low e = single_deep_there i one variant b at f refl lawful valid e
deep_there i one (dictionary k v) b at f lawful valid low e = single_deep_there i one (dictionary k v) b at f refl lawful valid e

pub IsThere-read : (i : Input) (levels : ℕ) → IsBytes i.bytes → IsThere i levels (read i levels)
unfolding read
IsThere-read i zero h = deep_there i nothing
IsThere-read i (suc levels) h = level_there i levels (read i levels) (IsSound-read i levels h) (IsThere-read i levels h)
