-- Whatever is wrong, reading tells it or something before it.
use Rattle.std.proofs.Common.{get_or, take, drop, inl, inr, ◌⊎◌, ◌≡◌, ℕ, zero, suc, ◌+◌, ◌-◌, ◌<◌, ◌≤◌, ◌^◌, Bool, true, false, cond, eqb, ltb, List, [], ◌∷◌, ◌++◌, length, encode_utf8_all, Option, Some, None, Result, Ok, Err, refl, sym, ap, subst, ◌∙◌, arith}
use Rattle.std.specs.Prelude.{nat_lt, ◌==◌, ◌≢◌, ◌&&◌}
use Rattle.std.specs.Int.{Width, w32, byte_len}
use Rattle.std.specs.Str.Lossy.{utf8_valid_len}
use Rattle.std.proofs.lemmas.Bool.{ltb-false, ltb-true, eqb-true, eqb-false, eq-eqb, lt-ltb, le-ltb, cases_lt}
use Rattle.std.proofs.lemmas.List.{get_or-drop, get_or-take, length-take, length-drop}
use Rattle.atspi_base.specs.Text.{HasNoZero, bytes_before_zero}
use Rattle.atspi_base.specs.ReadsText.{text_in}
use Rattle.atspi_base.proofs.TextLemmas.{text_is}
use Rattle.atspi_base.specs.declared.text.TextFault.{TextFault}
use Rattle.atspi_base.specs.declared.text.TextFault.TheVariants.{Zero, Utf8}
use Rattle.atspi_base.specs.declared.text.TextFault.TheVariants.{NoMemory as TextNoMemory}
use Rattle.atspi_base.specs.valid_names.Names.{IsPath, is_path}
use Rattle.atspi_types.specs.Kinds.{Num, width, number_alignment, Kind, number, boolean, text, path, signature, array, structure, variant, dictionary, Kinds, no_kinds, kind, kinds_of, types_in, alignment, IsBasic, IsLawful, AreLawful}
use Rattle.atspi_types.specs.Signatures.{signature_bytes, IsSignature}
use Rattle.atspi_types.specs.Data.{Data, number_data, boolean_data, text_data, path_data, signature_data, array_data, structure_data, variant_data, dictionary_data, Items, no_items, item, items_of}
use Rattle.atspi_types.specs.SignatureReading.{signature_in}
use Rattle.atspi_types.specs.SignatureFaults.{WrongSignature, Before}
use Rattle.atspi_types.specs.declared.fault.Order.{Order}
use Rattle.atspi_marshal.specs.declared.input.Bound.{Bound}
use Rattle.atspi_types.specs.declared.fault.Fault.{Fault}
use Rattle.atspi_marshal.specs.Input.{Input, Stands, number_bytes, number_in, byte_in, slice_in, aligned, whole, to_end}
use Rattle.atspi_marshal.specs.Spelling.{padding, counted, counted_short, start_of, array_spelling, single, spelling, spellings, entry_spellings, Fits, AllFit, FieldsFit, EntriesFit}
use Rattle.atspi_marshal.specs.Faults.{IsItem, AreItems, entry_kind, inside, long_in, short_in, place_of, front_len, end_of, HasFront, IsInside, IsContainer, ArrayFits, inside_of, Wrong, padding_not_zero, padding_passes, front_passes, end_passes, too_deep, not_boolean, zero_in_text, not_utf8, not_path, text_not_ended, path_not_ended, bad_signature, signature_not_ended, bad_variant, variant_not_ended, not_one_type, in_variant, array_too_long, array_padding, in_element, in_dictionary, in_field, WrongField, this_field, later_field}
use Rattle.atspi_marshal.specs.Reading.{◌>>=◌, bad, zeros_in_front, passing_reason, Reader, padding_at, room_at, number_at, boolean_at, ended, text_with, text_body_at, path_body_at, long_place, long_at, short_place, short_at, signature_with, signature_body_at, as_variant, inner_at, variant_with, variant_body_at, put_first, elements_at, as_array, array_body_at, array_place, unless_deep, array_at, entries_in, as_dictionary, dictionary_body_at, dictionary_at, nothing, single_at, first_of, first_in, nothing, fields_first, fields_at, as_structure, first_of, deep_at, structure_at, is_structure, level, read, decoded}
use Rattle.atspi_marshal.proofs.Places.{done, aligned-one, padding_takes, room_takes, IsBytes, IsValid, Room, bind_ok, ok_is, passed, passed_not, length-slice, Stands-front, Stands-back, Stands-nil, Stands-append, Stands-slice, Stands-byte, room_then, padding_then, wide, wide32, number_takes}
use Rattle.atspi_types.proofs.SignatureLaws.{signature_in-read, signature_in-told, signature_in-again}
use Rattle.atspi_marshal.proofs.Levels.{dictionary_is, types_in-kinds_of}
use Rattle.atspi_marshal.proofs.Entries.{structs_of, structs-entries, entry_spellings-structs, all_entries_fit}
use Rattle.atspi_base.proofs.OfValidNames.NameLemmas.{IsPath-from_test, is_path-from_IsPath}
use Rattle.atspi_marshal.proofs.Sound.{Takes, IsSound, IsSound-read, entry_lawful, all_lawful}
use Rattle.atspi_marshal.proofs.TextFaults.{TextFaultIs, text_fault, zero_before, no_zero_there, zero_refused, utf8_refused}
use Rattle.atspi_marshal.proofs.SignatureFaults.{wrong_told, told_place}
use Rattle.atspi_marshal.proofs.Complete.{IsComplete, IsComplete-read, grows, items_of-values_in}
use Rattle.atspi_marshal.proofs.There.{bind_err, FrontWrong, front_zero, front_padding, front_bytes, FaultIn, IsThere, IsThere-read, first_there, single_deep_there, array_placed, array_place_fails, PlaceFails, array_rest, long_test, short_test, aligned-again, number_ok, boolean_ok, fault_at, dictionary_fails}

abbrev data_bad : ℕ → ℕ → Result (Data × ℕ) Fault
data_bad p r = Err (fault_at p r)

abbrev pair_ok : Data → ℕ → Result (Data × ℕ) Fault
pair_ok d next = Ok (d, next)

abbrev place_is : ℕ → Result ℕ Fault
place_is p = Ok p

-- a fault is told, this one or one before it
pub record Tells {A : Type 0} (r : Result A Fault) (q s : ℕ) : Type 0 where
  pub told : Fault
  pub is : r ≡ Err told
  pub before : Before told.place told.reason q s

tells : {A : Type 0} (r : Result A Fault) (p t q s : ℕ) → r ≡ Err (fault_at p t) → Before p t q s → Tells r q s
tells r p t q s e b = record { told = fault_at p t; is = e; before = b }

Tells-then : {A B : Type 0} (r : Result A Fault) (g : A → Result B Fault) (q s : ℕ) → Tells r q s → Tells (r >>= g) q s
Tells-then r g q s t = record { told = t.told; is = ap (λ x. x >>= g) t.is; before = t.before }

Tells-is : {A : Type 0} (r t : Result A Fault) (q s : ℕ) → r ≡ t → Tells t q s → Tells r q s
Tells-is r t q s e h = record { told = h.told; is = e ∙ h.is; before = h.before }

-- by place and then by number
before_same : (p r s : ℕ) → r ≤ s → Before p r p s
before_same p r s le = inr (refl, le)

before_le : (p q r s : ℕ) → p ≤ q → r ≤ s → Before p r q s
before_le p q r s le les = elim (cases_lt p q) [ inl lt ↦ inl lt | inr ge ↦ inr (omega (arith, le, ge), les) ]

-- the reason of padding that passes the end
passing_le : (i : Input) (b : Bound) (at : ℕ) → 10 ≤ b.reason → passing_reason i b at ≤ b.reason
passing_le i b at late = by (ltb at b.end) (byte_in i at == 0)
  where
    by : (t u : Bool) → cond t (cond u b.reason 10) b.reason ≤ b.reason
    by true true = omega arith
    by true false = omega (arith, late)
    by false u = omega arith

passing_ten : (i : Input) (b : Bound) (at : ℕ) → at < b.end → byte_in i at ≢ 0 → passing_reason i b at ≡ 10
passing_ten i b at lt ne = rw (lt-ltb at b.end lt) (by (byte_in i at == 0) refl)
  where
    by : (t : Bool) → (byte_in i at == 0) ≡ t → cond t b.reason 10 ≡ 10
    by true t = absurd (ne (eqb-true _ 0 t))
    by false t = refl

zeros_stop : (bytes : List ℕ) (j : ℕ) → get_or bytes j 0 ≢ 0 → zeros_in_front bytes ≤ j
zeros_stop [] j ne = omega arith
zeros_stop (zero ∷ bytes) zero ne = absurd (ne refl)
zeros_stop (zero ∷ bytes) (suc j) ne = omega (arith, zeros_stop bytes j ne)
zeros_stop (suc b ∷ bytes) j ne = omega arith

-- padding

padding_passing : (i : Input) (n : ℕ) (b : Bound) (at : ℕ) → b.end < aligned n at → padding_at i n b at ≡ Err (fault_at at (passing_reason i b at))
unfolding padding_at
padding_passing i n b at lt = rw (lt-ltb b.end (aligned n at) lt) refl

padding_zero : (i : Input) (n : ℕ) (b : Bound) (at q : ℕ) → 10 ≤ b.reason → at ≤ q → q < aligned n at → q < b.end → byte_in i q ≢ 0 → Tells (padding_at i n b at) q 10
unfolding padding_at
padding_zero i n b at q late low high within ne =
    elim (cases_lt b.end (aligned n at)) [
      | inl lt ↦
          elim (cases_lt at q) [
            | inl before ↦ tells (padding_at i n b at) at (passing_reason i b at) q 10 (padding_passing i n b at lt) (inl before)
            | inr ge ↦
                let same : q ≡ at = omega (arith, low, ge) in
                let ten = passing_ten i b at (omega (arith, same, within)) (λ z. ne (ap (λ (m : ℕ). byte_in i m) same ∙ z)) in
                tells (padding_at i n b at) at (passing_reason i b at) q 10 (padding_passing i n b at lt) (inr (sym same, omega (arith, ten)))
          ]
      | inr fits ↦
          let pad = aligned n at - at in
          let j = q - at in
          let zs = zeros_in_front (slice_in i at pad) in
          let here : get_or (slice_in i at pad) j 0 ≡ byte_in i q = get_or-take pad (drop at i.bytes) j 0 (omega (arith, low, high)) ∙ (get_or-drop at i.bytes j 0 ∙ ap (λ (m : ℕ). get_or i.bytes m 0) (omega (arith, low))) in
          let stop : zs ≤ j = zeros_stop (slice_in i at pad) j (λ z. ne (sym here ∙ z)) in
          tells (padding_at i n b at) (at + zs) 10 q 10 (rw (le-ltb b.end (aligned n at) fits, lt-ltb zs pad (omega (arith, stop, low, high))) refl) (before_le (at + zs) q 10 10 (omega (arith, stop, low)) (omega arith))
    ]

padding_tells : (i : Input) (n : ℕ) (b : Bound) (at q s : ℕ) → 10 ≤ b.reason → FrontWrong i n 0 b at q s → Tells (padding_at i n b at) q s
padding_tells i n b at q s late (front_zero q' low high within ne) = padding_zero i n b at q' late low high within ne
padding_tells i n b at q s late (front_padding lt) = tells (padding_at i n b at) at (passing_reason i b at) at b.reason (padding_passing i n b at lt) (before_same at _ _ (passing_le i b at late))
padding_tells i n b at q s late (front_bytes le lt) = absurd (omega (arith, le, lt))

-- what is read behind padding, or a fault of the padding that stands before its end
pub record PaddingEarly (i : Input) (n : ℕ) (b : Bound) (at : ℕ) : Type 0 where
  pub fault : Fault
  pub is : padding_at i n b at ≡ Err fault
  pub early : fault.place < aligned n at

padding_goes : (i : Input) (n : ℕ) (b : Bound) (at : ℕ) → at ≤ b.end → (padding_at i n b at ≡ place_is (aligned n at)) ⊎ PaddingEarly i n b at
unfolding padding_at
padding_goes i n b at low =
    elim (cases_lt b.end (aligned n at)) [
      | inl lt ↦ inr (record { fault = fault_at at (passing_reason i b at); is = padding_passing i n b at lt; early = omega (arith, low, lt) })
      | inr fits ↦
          let pad = aligned n at - at in
          let zs = zeros_in_front (slice_in i at pad) in
          elim (cases_lt zs pad) [
            | inl lt ↦ inr (record { fault = fault_at (at + zs) 10; is = rw (le-ltb b.end (aligned n at) fits, lt-ltb zs pad lt) refl; early = omega (arith, lt) })
            | inr ge ↦ inl (rw (le-ltb b.end (aligned n at) fits, le-ltb zs pad ge) refl)
          ]
    ]

-- what is wrong at an item's place or behind it is told, or its padding is
padded_tells : {A : Type 0} (i : Input) (n : ℕ) (b : Bound) (at q s : ℕ) (g : ℕ → Result A Fault) → at ≤ b.end → aligned n at ≤ q → Tells (g (aligned n at)) q s → Tells (padding_at i n b at >>= g) q s
padded_tells i n b at q s g low le t =
    elim (padding_goes i n b at low) [
      | inl ok ↦ Tells-is (padding_at i n b at >>= g) (g (aligned n at)) q s (ap (λ x. x >>= g) ok) t
      | inr e ↦ record { told = e.fault; is = ap (λ x. x >>= g) e.is; before = inl (omega (arith, e.early, le)) }
    ]

-- room

room_is : {A : Type 0} (i : Input) (n len : ℕ) (b : Bound) (at : ℕ) (g : ℕ → Result A Fault) → (room_at i n len b at >>= g) ≡ (padding_at i n b at >>= λ p. cond (ltb b.end (p + len)) (bad p b.reason) (place_is p) >>= g)
unfolding room_at
room_is i n len b at g = assoc (padding_at i n b at)
  where
    assoc : (r : Result ℕ Fault) → ((r >>= λ p. cond (ltb b.end (p + len)) (bad p b.reason) (place_is p)) >>= g) ≡ (r >>= λ p. cond (ltb b.end (p + len)) (bad p b.reason) (place_is p) >>= g)
    assoc (Ok p) = refl
    assoc (Err f) = refl

-- what is wrong with an item's front is told
front_tells : {A : Type 0} (i : Input) (n len : ℕ) (b : Bound) (at q s : ℕ) (g : ℕ → Result A Fault) → 10 ≤ b.reason → at ≤ b.end → FrontWrong i n len b at q s → Tells (room_at i n len b at >>= g) q s
front_tells i n len b at q s g late low (front_zero q' l h within ne) =
    Tells-is (room_at i n len b at >>= g) (padding_at i n b at >>= λ p. cond (ltb b.end (p + len)) (bad p b.reason) (place_is p) >>= g) q' 10 (room_is i n len b at g)
    (Tells-then (padding_at i n b at) (λ p. cond (ltb b.end (p + len)) (bad p b.reason) (place_is p) >>= g) q' 10 (padding_zero i n b at q' late l h within ne))
front_tells i n len b at q s g late low (front_padding lt) =
    Tells-is (room_at i n len b at >>= g) (padding_at i n b at >>= λ p. cond (ltb b.end (p + len)) (bad p b.reason) (place_is p) >>= g) at b.reason (room_is i n len b at g)
    (Tells-then (padding_at i n b at) (λ p. cond (ltb b.end (p + len)) (bad p b.reason) (place_is p) >>= g) at b.reason (padding_tells i n b at at b.reason late (front_padding lt)))
front_tells i n len b at q s g late low (front_bytes le lt) =
    let p = aligned n at in
    Tells-is (room_at i n len b at >>= g) (padding_at i n b at >>= λ p. cond (ltb b.end (p + len)) (bad p b.reason) (place_is p) >>= g) p b.reason (room_is i n len b at g)
    (padded_tells i n b at p b.reason (λ p. cond (ltb b.end (p + len)) (bad p b.reason) (place_is p) >>= g) low (omega arith)
    (tells (cond (ltb b.end (p + len)) (bad p b.reason) (place_is p) >>= g) p b.reason p b.reason (rw (lt-ltb b.end (p + len) lt) refl) (before_same p _ _ (omega arith))))

-- behind its front, what is wrong at an item's place or later is told, or its padding is
room_tells : {A : Type 0} (i : Input) (n len : ℕ) (b : Bound) (at q s : ℕ) (g : ℕ → Result A Fault) → at ≤ b.end → aligned n at + len ≤ b.end → aligned n at ≤ q → Tells (g (aligned n at)) q s → Tells (room_at i n len b at >>= g) q s
room_tells i n len b at q s g low room le t =
    let p = aligned n at in
    Tells-is (room_at i n len b at >>= g) (padding_at i n b at >>= λ p. cond (ltb b.end (p + len)) (bad p b.reason) (place_is p) >>= g) q s (room_is i n len b at g)
    (padded_tells i n b at q s (λ p. cond (ltb b.end (p + len)) (bad p b.reason) (place_is p) >>= g) low le
    (Tells-is (cond (ltb b.end (p + len)) (bad p b.reason) (place_is p) >>= g) (g p) q s (rw (le-ltb b.end (p + len) room) refl) t))

-- nothing that is wrong stands before its item

mutual
  pub wrong_behind : (i : Input) (levels : ℕ) (k : Kind) (b : Bound) (at q s : ℕ) → Wrong i levels k b at q s → at ≤ q
  wrong_behind i levels k b at q s (padding_not_zero l' k' b' at' q' le lt within ne) = le
  wrong_behind i levels k b at q s (padding_passes l' k' b' at' lt) = omega arith
  wrong_behind i levels k b at q s (front_passes l' k' b' at' le lt) = omega arith
  wrong_behind i levels k b at q s (end_passes l' k' b' at' front lt) = omega arith
  wrong_behind i levels k b at q s (too_deep k' b' at' is le) = omega arith
  wrong_behind i levels k b at q s (not_boolean l' b' at' room lt) = omega arith
  wrong_behind i levels k b at q s (zero_in_text l' b' at' q' fits low high z) = omega (arith, low)
  wrong_behind i levels k b at q s (not_utf8 l' b' at' fits lt) = omega arith
  wrong_behind i levels k b at q s (not_path l' b' at' fits outside) = omega arith
  wrong_behind i levels k b at q s (text_not_ended l' b' at' fits ne) = omega arith
  wrong_behind i levels k b at q s (path_not_ended l' b' at' fits ne) = omega arith
  wrong_behind i levels k b at q s (bad_signature l' b' at' p' r' fits w) = omega arith
  wrong_behind i levels k b at q s (signature_not_ended l' b' at' fits ne) = omega arith
  wrong_behind i levels k b at q s (bad_variant l' b' at' p' r' fits w) = omega arith
  wrong_behind i levels k b at q s (variant_not_ended l' b' at' fits ne) = omega arith
  wrong_behind i levels k b at q s (not_one_type l' b' at' ks fits named is many) = omega arith
  wrong_behind i levels k b at q s (in_variant l' k' b' at' q' s' fits named is z w) = omega (arith, wrong_behind i (l' - 1) k' b' (at' + 2 + byte_in i at') q' s' w)
  wrong_behind i levels k b at q s (array_too_long l' k' b' at' room lt) = omega arith
  wrong_behind i levels k b at q s (array_padding l' k' b' at' q' fits low high ne) = omega (arith, low)
  wrong_behind i levels k b at q s (in_element l' k' b' at' next q' s' ds fits are more w) = omega (arith, are.stand.0, wrong_behind i (l' - 1) k' (inside_of i k' at') next q' s' w)
  wrong_behind i levels k b at q s (in_dictionary l' k' v' b' at' q' s' w) = wrong_behind i l' (array (entry_kind k' v')) b' at' q' s' w
  wrong_behind i levels k b at q s (in_field l' ks' b' at' q' s' le w) = omega (arith, field_behind i (l' - 1) ks' b' (aligned 8 at') q' s' w)

  pub field_behind : (i : Input) (levels : ℕ) (ks : Kinds) (b : Bound) (at q s : ℕ) → WrongField i levels ks b at q s → at ≤ q
  field_behind i levels ks b at q s (this_field l' k' ks' b' at' q' s' w) = wrong_behind i l' k' b' at' q' s' w
  field_behind i levels ks b at q s (later_field l' k' ks' b' at' next q' s' d is w) = omega (arith, is.stands.0, field_behind i l' ks' b' next q' s' w)

abbrev pub IsLeast : Input → ℕ → Reader → Type 0
IsLeast i levels one = (k : Kind) (b : Bound) (at q s : ℕ) → IsLawful k → IsValid i b → at ≤ b.end → Wrong i levels k b at q s → Tells (one k b at) q s

late : (i : Input) (b : Bound) → IsValid i b → 10 ≤ b.reason
late i b valid = omega (arith, valid.late.0)

-- numbers and booleans

number_tells : (i : Input) (levels : ℕ) (n : Num) (b : Bound) (at q s : ℕ) → IsValid i b → at ≤ b.end → Wrong i levels (number n) b at q s → Tells (number_at i n b at) q s
unfolding number_at
number_tells i levels n b at q s valid low (padding_not_zero l' k' b' at' q' le lt within ne) = front_tells i (number_alignment n) (byte_len (width n)) b at q 10 (number_ok i n) (late i b valid) low (front_zero q' le lt within ne)
number_tells i levels n b at q s valid low (padding_passes l' k' b' at' lt) = front_tells i (number_alignment n) (byte_len (width n)) b at at b.reason (number_ok i n) (late i b valid) low (front_padding lt)
number_tells i levels n b at q s valid low (front_passes l' k' b' at' le lt) = front_tells i (number_alignment n) (byte_len (width n)) b at _ b.reason (number_ok i n) (late i b valid) low (front_bytes le lt)
number_tells i levels n b at q s valid low (end_passes l' k' b' at' front lt) = absurd (omega (arith, front, lt))
number_tells i levels n b at q s valid low (too_deep k' b' at' is le) = absurd is

boolean_tells : (i : Input) (levels : ℕ) (b : Bound) (at q s : ℕ) → IsValid i b → at ≤ b.end → Wrong i levels boolean b at q s → Tells (boolean_at i b at) q s
unfolding boolean_at
boolean_tells i levels b at q s valid low (padding_not_zero l' k' b' at' q' le lt within ne) = front_tells i 4 4 b at q 10 (boolean_ok i) (late i b valid) low (front_zero q' le lt within ne)
boolean_tells i levels b at q s valid low (padding_passes l' k' b' at' lt) = front_tells i 4 4 b at at b.reason (boolean_ok i) (late i b valid) low (front_padding lt)
boolean_tells i levels b at q s valid low (front_passes l' k' b' at' le lt) = front_tells i 4 4 b at _ b.reason (boolean_ok i) (late i b valid) low (front_bytes le lt)
boolean_tells i levels b at q s valid low (end_passes l' k' b' at' front lt) = absurd (omega (arith, front, lt))
boolean_tells i levels b at q s valid low (too_deep k' b' at' is le) = absurd is
boolean_tells i levels b at q s valid low (not_boolean l' b' at' room lt) =
    let p = aligned 4 at in
    room_tells i 4 4 b at p 11 (boolean_ok i) low room (omega arith) (tells (boolean_ok i p) p 11 p 11 (rw (lt-ltb 1 (number_in i w32 p) lt) refl) (before_same p 11 11 (omega arith)))

-- texts, paths and signatures

-- the front of an item with a length of 32 bits, and its end
long_early : (i : Input) (body : ℕ → Result (Data × ℕ) Fault) (b : Bound) (at q s : ℕ) → IsValid i b → at ≤ b.end → FrontWrong i 4 4 b at q s → Tells (long_at body i b at) q s
unfolding long_at long_place
long_early i body b at q s valid low w = Tells-then (room_at i 4 4 b at >>= long_test i b) body q s (front_tells i 4 4 b at q s (long_test i b) (late i b valid) low w)

long_over : (i : Input) (body : ℕ → Result (Data × ℕ) Fault) (b : Bound) (at : ℕ) → at ≤ b.end → aligned 4 at + 4 ≤ b.end → b.end < aligned 4 at + 5 + number_in i w32 (aligned 4 at) → Tells (long_at body i b at) (aligned 4 at) b.reason
unfolding long_at long_place
long_over i body b at low room lt =
    let p = aligned 4 at in
    Tells-then (room_at i 4 4 b at >>= long_test i b) body p b.reason (room_tells i 4 4 b at p b.reason (long_test i b) low room (omega arith) (tells (long_test i b p) p b.reason p b.reason (rw (lt-ltb b.end (p + 5 + number_in i w32 p) lt) refl) (before_same p _ _ (omega arith))))

long_regroup : (i : Input) (body : ℕ → Result (Data × ℕ) Fault) (b : Bound) (at : ℕ) → long_at body i b at ≡ (room_at i 4 4 b at >>= λ p. long_test i b p >>= body)
unfolding long_at long_place
long_regroup i body b at = assoc (room_at i 4 4 b at)
  where
    assoc : (r : Result ℕ Fault) → ((r >>= long_test i b) >>= body) ≡ (r >>= λ p. long_test i b p >>= body)
    assoc (Ok p) = refl
    assoc (Err f) = refl

long_inside : (i : Input) (body : ℕ → Result (Data × ℕ) Fault) (b : Bound) (at q s : ℕ) → at ≤ b.end → aligned 4 at + 4 ≤ b.end → aligned 4 at + 5 + number_in i w32 (aligned 4 at) ≤ b.end → aligned 4 at ≤ q → Tells (body (aligned 4 at)) q s → Tells (long_at body i b at) q s
long_inside i body b at q s low room fits le t =
    let p = aligned 4 at in
    Tells-is (long_at body i b at) (room_at i 4 4 b at >>= λ p. long_test i b p >>= body) q s (long_regroup i body b at)
    (room_tells i 4 4 b at q s (λ p. long_test i b p >>= body) low room le (Tells-is (long_test i b p >>= body) (body p) q s (rw (le-ltb b.end (p + 5 + number_in i w32 p) fits) refl) t))

-- the same with a length of 8 bits
short_early : (i : Input) (body : ℕ → Result (Data × ℕ) Fault) (b : Bound) (at q s : ℕ) → IsValid i b → at ≤ b.end → FrontWrong i 1 1 b at q s → Tells (short_at body i b at) q s
unfolding short_at short_place
short_early i body b at q s valid low w = Tells-then (room_at i 1 1 b at >>= short_test i b) body q s (front_tells i 1 1 b at q s (short_test i b) (late i b valid) low w)

short_regroup : (i : Input) (body : ℕ → Result (Data × ℕ) Fault) (b : Bound) (at : ℕ) → short_at body i b at ≡ (room_at i 1 1 b at >>= λ p. short_test i b p >>= body)
unfolding short_at short_place
short_regroup i body b at = assoc (room_at i 1 1 b at)
  where
    assoc : (r : Result ℕ Fault) → ((r >>= short_test i b) >>= body) ≡ (r >>= λ p. short_test i b p >>= body)
    assoc (Ok p) = refl
    assoc (Err f) = refl

short_over : (i : Input) (body : ℕ → Result (Data × ℕ) Fault) (b : Bound) (at : ℕ) → at ≤ b.end → aligned 1 at + 1 ≤ b.end → b.end < aligned 1 at + 2 + byte_in i (aligned 1 at) → Tells (short_at body i b at) (aligned 1 at) b.reason
unfolding short_at short_place
short_over i body b at low room lt =
    let p = aligned 1 at in
    Tells-then (room_at i 1 1 b at >>= short_test i b) body p b.reason (room_tells i 1 1 b at p b.reason (short_test i b) low room (omega arith) (tells (short_test i b p) p b.reason p b.reason (rw (lt-ltb b.end (p + 2 + byte_in i p) lt) refl) (before_same p _ _ (omega arith))))

-- a length byte that is inside with its end
pub record ShortInside (i : Input) (b : Bound) (at : ℕ) : Type 0 where
  pub room : aligned 1 at + 1 ≤ b.end
  pub fits : at + 2 + byte_in i at ≤ b.end

inside_short : (i : Input) (b : Bound) (at : ℕ) → aligned 1 at + 1 ≤ b.end → aligned 1 at + 2 + byte_in i (aligned 1 at) ≤ b.end → ShortInside i b at
inside_short i b at room fits = record { room = room; fits = subst (λ (p : ℕ). p + 2 + byte_in i p ≤ b.end) (aligned-one at) fits }

short_inside : (i : Input) (body : ℕ → Result (Data × ℕ) Fault) (b : Bound) (at q s : ℕ) → at ≤ b.end → ShortInside i b at → at ≤ q → Tells (body at) q s → Tells (short_at body i b at) q s
short_inside i body b at q s low h le t =
    let same = aligned-one at in
    let step : Tells (short_test i b at >>= body) q s = Tells-is (short_test i b at >>= body) (body at) q s (rw (le-ltb b.end (at + 2 + byte_in i at) h.fits) refl) t in
    Tells-is (short_at body i b at) (room_at i 1 1 b at >>= λ p. short_test i b p >>= body) q s (short_regroup i body b at)
    (room_tells i 1 1 b at q s (λ p. short_test i b p >>= body) low h.room (omega (arith, same, le)) (subst (λ (p : ℕ). Tells (short_test i b p >>= body) q s) (sym same) step))

ended_tells : (i : Input) (at : ℕ) (d : Data) → byte_in i at ≢ 0 → ended i at d ≡ Err (fault_at at 12)
ended_tells i at d ne = by (byte_in i at == 0) refl
  where
    by : (t : Bool) → (byte_in i at == 0) ≡ t → cond t (pair_ok d (at + 1)) (bad at 12) ≡ Err (fault_at at 12)
    by true t = absurd (ne (eqb-true _ 0 t))
    by false t = refl

-- a text: what reading it gives comes before a place, or is told there
text_fault_tells : (i : Input) (p n q s : ℕ) (f : TextFault) → TextFaultIs (long_in i p) f → ((z : ℕ) → f ≡ Zero z → Before (p + 4 + z) 13 q s) → ((v : ℕ) → f ≡ Utf8 v → Before (p + 4 + v) 14 q s) → Tells (text_with i p n (Err f)) q s
text_fault_tells i p n q s (Zero z) is zero_before utf8_before = tells (text_with i p n (Err (Zero z))) (p + 4 + z) 13 q s refl (zero_before z refl)
text_fault_tells i p n q s (Utf8 v) is zero_before utf8_before = tells (text_with i p n (Err (Utf8 v))) (p + 4 + v) 14 q s refl (utf8_before v refl)
text_fault_tells i p n q s TextNoMemory is zero_before utf8_before = absurd is

text_read_tells : (i : Input) (p q s : ℕ) (f : TextFault) → text_in (long_in i p) ≡ Err f → ((z : ℕ) → f ≡ Zero z → Before (p + 4 + z) 13 q s) → ((v : ℕ) → f ≡ Utf8 v → Before (p + 4 + v) 14 q s) → Tells (text_body_at i p) q s
unfolding text_body_at
text_read_tells i p q s f e zero_before utf8_before =
    Tells-is (text_with i p (number_in i w32 p) (text_in (long_in i p))) (text_with i p (number_in i w32 p) (Err f)) q s (ap (text_with i p (number_in i w32 p)) e)
    (text_fault_tells i p (number_in i w32 p) q s f (text_fault (long_in i p) f e) zero_before utf8_before)

-- facts of a fault, by its shape
zero_is : (bytes : List ℕ) (f : TextFault) (z : ℕ) → TextFaultIs bytes f → f ≡ Zero z → TextFaultIs bytes (Zero z)
zero_is bytes f z is e = subst (TextFaultIs bytes) e is

utf8_is : (bytes : List ℕ) (f : TextFault) (v : ℕ) → TextFaultIs bytes f → f ≡ Utf8 v → TextFaultIs bytes (Utf8 v)
utf8_is bytes f v is e = subst (TextFaultIs bytes) e is

zero_tells : (i : Input) (p q : ℕ) → p + 5 + number_in i w32 p ≤ length i.bytes → p + 4 ≤ q → q < p + 4 + number_in i w32 p → byte_in i q ≡ 0 → Tells (text_body_at i p) q 13
zero_tells i p q fits low high z =
    let bytes = long_in i p in
    let n = number_in i w32 p in
    let j = q - (p + 4) in
    let len : length bytes ≡ n = length-slice i (p + 4) n (omega (arith, fits)) in
    let here : get_or bytes j 0 ≡ 0 = get_or-take n (drop (p + 4) i.bytes) j 0 (omega (arith, low, high)) ∙ (get_or-drop (p + 4) i.bytes j 0 ∙ (ap (λ (m : ℕ). get_or i.bytes m 0) (omega (arith, low)) ∙ z)) in
    let r = zero_refused bytes j (omega (arith, len, low, high)) here in
    let first : bytes_before_zero bytes ≤ j = zero_before bytes j (omega (arith, len, low, high)) here in
    let is = text_fault bytes r.0 r.1 in
    text_read_tells i p q 13 r.0 r.1
    (λ (y : ℕ) (e : r.0 ≡ Zero y). let h = zero_is bytes r.0 y is e in before_le (p + 4 + y) q 13 13 (omega (arith, h.1, first, low)) (omega arith))
    (λ (v : ℕ) (e : r.0 ≡ Utf8 v). let h = utf8_is bytes r.0 v is e in inl (omega (arith, first, low, before_v bytes v j h first here (omega (arith, len, low, high)))))
  where
    before_v : (bytes : List ℕ) (v j : ℕ) → TextFaultIs bytes (Utf8 v) → bytes_before_zero bytes ≤ j → get_or bytes j 0 ≡ 0 → j < length bytes → v < j
    before_v bytes v j h first here lt =
        elim (cases_lt v j) [
          | inl less ↦ less
          | inr ge ↦
              let same : j ≡ utf8_valid_len bytes = omega (arith, h.1, h.2, first, ge) in
              absurd (no_zero_there bytes (omega (arith, same, lt)) (subst (λ (m : ℕ). get_or bytes m 0 ≡ 0) same here))
        ]

utf8_tells : (i : Input) (p : ℕ) → p + 5 + number_in i w32 p ≤ length i.bytes → utf8_valid_len (long_in i p) < number_in i w32 p → Tells (text_body_at i p) (p + 4 + utf8_valid_len (long_in i p)) 14
utf8_tells i p fits lt =
    let bytes = long_in i p in
    let n = number_in i w32 p in
    let v = utf8_valid_len bytes in
    let len : length bytes ≡ n = length-slice i (p + 4) n (omega (arith, fits)) in
    let r = utf8_refused bytes (omega (arith, len, lt)) in
    let is = text_fault bytes r.0 r.1 in
    text_read_tells i p (p + 4 + v) 14 r.0 r.1
    (λ (y : ℕ) (e : r.0 ≡ Zero y). let h = zero_is bytes r.0 y is e in inl (omega (arith, h.2)))
    (λ (w : ℕ) (e : r.0 ≡ Utf8 w). let h = utf8_is bytes r.0 w is e in before_le (p + 4 + w) (p + 4 + v) 14 14 (omega (arith, h.1)) (omega arith))

text_end_tells : (i : Input) (p : ℕ) → p + 5 + number_in i w32 p ≤ length i.bytes → byte_in i (p + 4 + number_in i w32 p) ≢ 0 → Tells (text_body_at i p) (p + 4 + number_in i w32 p) 12
unfolding text_body_at
text_end_tells i p fits ne = by (text_in (long_in i p)) refl
  where
    by : (r : Result (List ℕ) TextFault) → text_in (long_in i p) ≡ r → Tells (text_with i p (number_in i w32 p) (text_in (long_in i p))) (p + 4 + number_in i w32 p) 12
    by (Ok cs) e =
        let end = p + 4 + number_in i w32 p in
        tells (text_with i p (number_in i w32 p) (text_in (long_in i p))) end 12 end 12 (ap (text_with i p (number_in i w32 p)) e ∙ ended_tells i end (text_data cs) ne) (before_same end 12 12 (omega arith))
    by (Err f) e =
        let bytes = long_in i p in
        let n = number_in i w32 p in
        let len : length bytes ≡ n = length-slice i (p + 4) n (omega (arith, fits)) in
        let is = text_fault bytes f e in
        Tells-is (text_with i p n (text_in bytes)) (text_with i p n (Err f)) (p + 4 + n) 12 (ap (text_with i p n) e)
        (text_fault_tells i p n (p + 4 + n) 12 f is
        (λ (y : ℕ) (g : f ≡ Zero y). inl (omega (arith, len, (zero_is bytes f y is g).0)))
        (λ (v : ℕ) (g : f ≡ Utf8 v). inl (omega (arith, len, (utf8_is bytes f v is g).0))))

text_tells : (i : Input) (levels : ℕ) (b : Bound) (at q s : ℕ) → IsValid i b → at ≤ b.end → Wrong i levels text b at q s → Tells (long_at (text_body_at i) i b at) q s
text_tells i levels b at q s valid low (padding_not_zero l' k' b' at' q' le lt within ne) = long_early i (text_body_at i) b at q 10 valid low (front_zero q' le lt within ne)
text_tells i levels b at q s valid low (padding_passes l' k' b' at' lt) = long_early i (text_body_at i) b at at b.reason valid low (front_padding lt)
text_tells i levels b at q s valid low (front_passes l' k' b' at' le lt) = long_early i (text_body_at i) b at _ b.reason valid low (front_bytes le lt)
text_tells i levels b at q s valid low (end_passes l' k' b' at' front lt) = long_over i (text_body_at i) b at low front lt
text_tells i levels b at q s valid low (too_deep k' b' at' is le) = absurd is
text_tells i levels b at q s valid low (zero_in_text l' b' at' q' fits lo hi z) = long_inside i (text_body_at i) b at q 13 low fits.0 fits.1 (omega (arith, lo)) (zero_tells i (aligned 4 at) q (omega (arith, fits.1, valid.long)) lo hi z)
text_tells i levels b at q s valid low (not_utf8 l' b' at' fits lt) = long_inside i (text_body_at i) b at _ 14 low fits.0 fits.1 (omega arith) (utf8_tells i (aligned 4 at) (omega (arith, fits.1, valid.long)) lt)
text_tells i levels b at q s valid low (text_not_ended l' b' at' fits ne) = long_inside i (text_body_at i) b at _ 12 low fits.0 fits.1 (omega arith) (text_end_tells i (aligned 4 at) (omega (arith, fits.1, valid.long)) ne)

-- a path: all but its form is looked at where it has its form
path_form_tells : (i : Input) (p : ℕ) → (IsPath (long_in i p) → ⊥) → Tells (path_body_at i p) p 15
unfolding path_body_at
path_form_tells i p outside = by (is_path (long_in i p)) refl
  where
    by : (t : Bool) → is_path (long_in i p) ≡ t → Tells (cond t (ended i (p + 4 + number_in i w32 p) (path_data (long_in i p))) (bad p 15)) p 15
    by true t = absurd (outside (IsPath-from_test (long_in i p) t))
    by false t = tells (data_bad p 15) p 15 p 15 refl (before_same p 15 15 (omega arith))

path_end_tells : (i : Input) (p : ℕ) → byte_in i (p + 4 + number_in i w32 p) ≢ 0 → Tells (path_body_at i p) (p + 4 + number_in i w32 p) 12
unfolding path_body_at
path_end_tells i p ne = by (is_path (long_in i p))
  where
    by : (t : Bool) → Tells (cond t (ended i (p + 4 + number_in i w32 p) (path_data (long_in i p))) (bad p 15)) (p + 4 + number_in i w32 p) 12
    by true = let end = p + 4 + number_in i w32 p in tells (ended i end (path_data (long_in i p))) end 12 end 12 (ended_tells i end (path_data (long_in i p)) ne) (before_same end 12 12 (omega arith))
    by false = tells (data_bad p 15) p 15 _ 12 refl (inl (omega arith))

path_tells : (i : Input) (levels : ℕ) (b : Bound) (at q s : ℕ) → IsValid i b → at ≤ b.end → Wrong i levels path b at q s → Tells (long_at (path_body_at i) i b at) q s
path_tells i levels b at q s valid low (padding_not_zero l' k' b' at' q' le lt within ne) = long_early i (path_body_at i) b at q 10 valid low (front_zero q' le lt within ne)
path_tells i levels b at q s valid low (padding_passes l' k' b' at' lt) = long_early i (path_body_at i) b at at b.reason valid low (front_padding lt)
path_tells i levels b at q s valid low (front_passes l' k' b' at' le lt) = long_early i (path_body_at i) b at _ b.reason valid low (front_bytes le lt)
path_tells i levels b at q s valid low (end_passes l' k' b' at' front lt) = long_over i (path_body_at i) b at low front lt
path_tells i levels b at q s valid low (too_deep k' b' at' is le) = absurd is
path_tells i levels b at q s valid low (not_path l' b' at' fits outside) = long_inside i (path_body_at i) b at _ 15 low fits.0 fits.1 (omega arith) (path_form_tells i (aligned 4 at) outside)
path_tells i levels b at q s valid low (path_not_ended l' b' at' fits ne) = long_inside i (path_body_at i) b at _ 12 low fits.0 fits.1 (omega arith) (path_end_tells i (aligned 4 at) ne)

-- a signature
signature_wrong_tells : (i : Input) (p q s : ℕ) → WrongSignature (short_in i p) q s → Tells (signature_body_at i p) (p + 1 + q) s
unfolding signature_body_at
signature_wrong_tells i p q s w =
    let t = wrong_told (short_in i p) q s w in
    tells (signature_with i p (signature_in (short_in i p))) (p + 1 + t.0.place) t.0.reason (p + 1 + q) s (ap (signature_with i p) t.1) (further t.2)
  where
    further : {a r : ℕ} → Before a r q s → Before (p + 1 + a) r (p + 1 + q) s
    further (inl lt) = inl (omega arith)
    further (inr h) = inr (omega (arith, h.0), h.1)

signature_end_tells : (i : Input) (p : ℕ) → p + 2 + byte_in i p ≤ length i.bytes → byte_in i (p + 1 + byte_in i p) ≢ 0 → Tells (signature_body_at i p) (p + 1 + byte_in i p) 12
unfolding signature_body_at
signature_end_tells i p fits ne = by (signature_in (short_in i p)) refl
  where
    by : (r : Result (List Kind) Fault) → signature_in (short_in i p) ≡ r → Tells (signature_with i p (signature_in (short_in i p))) (p + 1 + byte_in i p) 12
    by (Ok ks) e =
        let end = p + 1 + byte_in i p in
        tells (signature_with i p (signature_in (short_in i p))) end 12 end 12 (ap (signature_with i p) e ∙ ended_tells i end (signature_data (kinds_of ks)) ne) (before_same end 12 12 (omega arith))
    by (Err f) e =
        let n = byte_in i p in
        let len : length (short_in i p) ≡ n = length-slice i (p + 1) n (omega (arith, fits)) in
        let place = told_place (short_in i p) f e in
        tells (signature_with i p (signature_in (short_in i p))) (p + 1 + f.place) f.reason (p + 1 + n) 12 (ap (signature_with i p) e) (before_le (p + 1 + f.place) (p + 1 + n) f.reason 12 (omega (arith, place.0, len)) (omega (arith, place.1)))

signature_tells : (i : Input) (levels : ℕ) (b : Bound) (at q s : ℕ) → IsValid i b → at ≤ b.end → Wrong i levels signature b at q s → Tells (short_at (signature_body_at i) i b at) q s
signature_tells i levels b at q s valid low (padding_not_zero l' k' b' at' q' le lt within ne) = short_early i (signature_body_at i) b at q 10 valid low (front_zero q' le lt within ne)
signature_tells i levels b at q s valid low (padding_passes l' k' b' at' lt) = short_early i (signature_body_at i) b at at b.reason valid low (front_padding lt)
signature_tells i levels b at q s valid low (front_passes l' k' b' at' le lt) = short_early i (signature_body_at i) b at _ b.reason valid low (front_bytes le lt)
signature_tells i levels b at q s valid low (end_passes l' k' b' at' front lt) = short_over i (signature_body_at i) b at low front lt
signature_tells i levels b at q s valid low (too_deep k' b' at' is le) = absurd is
signature_tells i levels b at q s valid low (bad_signature l' b' at' p' r' fits w) = short_inside i (signature_body_at i) b at _ s low (inside_short i b at fits.0 fits.1) (omega arith) (signature_wrong_tells i at p' s w)
signature_tells i levels b at q s valid low (signature_not_ended l' b' at' fits ne) =
    let h = inside_short i b at fits.0 fits.1 in
    short_inside i (signature_body_at i) b at _ 12 low h (omega arith) (signature_end_tells i at (omega (arith, h.fits, valid.long)) ne)

-- what is told before something is told before what follows that

before_then : (p r q s q' s' : ℕ) → Before p r q s → Before q s q' s' → Before p r q' s'
before_then p r q s q' s' (inl lt) (inl lt') = inl (omega arith)
before_then p r q s q' s' (inl lt) (inr h) = inl (omega (arith, h.0))
before_then p r q s q' s' (inr g) (inl lt') = inl (omega (arith, g.0))
before_then p r q s q' s' (inr g) (inr h) = inr (omega (arith, g.0, h.0), omega (arith, g.1, h.1))

weaker : {A : Type 0} (r : Result A Fault) (q s q' s' : ℕ) → Tells r q s → Before q s q' s' → Tells r q' s'
weaker r q s q' s' t b = record { told = t.told; is = t.is; before = before_then t.told.place t.told.reason q s q' s' t.before b }

-- arrays

abbrev place_test : Input → ℕ → Bound → ℕ → Result ℕ Fault
place_test i n b p = cond (ltb 67108864 (number_in i w32 p)) (bad p 17) (cond (ltb b.end (aligned n (p + 4) + number_in i w32 p)) (bad p b.reason) (place_is p))

array_early : (i : Input) (deep : Bool) (one : Reader) (k : Kind) (b : Bound) (at q s : ℕ) → IsValid i b → at ≤ b.end → FrontWrong i 4 4 b at q s → Tells (array_at deep one i k b at) q s
unfolding array_at array_place
array_early i deep one k b at q s valid low w =
    Tells-then (room_at i 4 4 b at >>= place_test i (alignment k) b) (unless_deep deep (array_body_at one i k)) q s (front_tells i 4 4 b at q s (place_test i (alignment k) b) (late i b valid) low w)

array_long : (i : Input) (deep : Bool) (one : Reader) (k : Kind) (b : Bound) (at : ℕ) → at ≤ b.end → aligned 4 at + 4 ≤ b.end → 67108864 < number_in i w32 (aligned 4 at) → Tells (array_at deep one i k b at) (aligned 4 at) 17
unfolding array_at array_place
array_long i deep one k b at low room lt =
    let p = aligned 4 at in
    Tells-then (room_at i 4 4 b at >>= place_test i (alignment k) b) (unless_deep deep (array_body_at one i k)) p 17
    (room_tells i 4 4 b at p 17 (place_test i (alignment k) b) low room (omega arith) (tells (place_test i (alignment k) b p) p 17 p 17 (rw (lt-ltb 67108864 (number_in i w32 p) lt) refl) (before_same p 17 17 (omega arith))))

array_over : (i : Input) (deep : Bool) (one : Reader) (k : Kind) (b : Bound) (at : ℕ) → IsValid i b → at ≤ b.end → aligned 4 at + 4 ≤ b.end → b.end < (inside_of i k at).end → Tells (array_at deep one i k b at) (aligned 4 at) b.reason
unfolding array_at array_place
array_over i deep one k b at valid low room lt =
    let p = aligned 4 at in
    let n = number_in i w32 p in
    let tested : Tells (place_test i (alignment k) b p) p b.reason =
    elim (cases_lt 67108864 n) [
      | inl long ↦ tells (place_test i (alignment k) b p) p 17 p b.reason (rw (lt-ltb 67108864 n long) refl) (before_same p 17 b.reason valid.late.0)
      | inr short ↦ tells (place_test i (alignment k) b p) p b.reason p b.reason (rw (le-ltb 67108864 n short, lt-ltb b.end (aligned (alignment k) (p + 4) + n) lt) refl) (before_same p _ _ (omega arith))
    ] in
    Tells-then (room_at i 4 4 b at >>= place_test i (alignment k) b) (unless_deep deep (array_body_at one i k)) p b.reason (room_tells i 4 4 b at p b.reason (place_test i (alignment k) b) low room (omega arith) tested)

array_regroup : (i : Input) (deep : Bool) (one : Reader) (k : Kind) (b : Bound) (at : ℕ) → array_at deep one i k b at ≡ (room_at i 4 4 b at >>= λ p. place_test i (alignment k) b p >>= unless_deep deep (array_body_at one i k))
unfolding array_at array_place
array_regroup i deep one k b at = assoc (room_at i 4 4 b at)
  where
    assoc : (r : Result ℕ Fault) → ((r >>= place_test i (alignment k) b) >>= unless_deep deep (array_body_at one i k)) ≡ (r >>= λ p. place_test i (alignment k) b p >>= unless_deep deep (array_body_at one i k))
    assoc (Ok p) = refl
    assoc (Err f) = refl

array_inside : (i : Input) (deep : Bool) (one : Reader) (k : Kind) (b : Bound) (at q s : ℕ) → at ≤ b.end → ArrayFits i k b at → aligned 4 at ≤ q → Tells (unless_deep deep (array_body_at one i k) (aligned 4 at)) q s → Tells (array_at deep one i k b at) q s
array_inside i deep one k b at q s low fits le t =
    let p = aligned 4 at in
    let n = number_in i w32 p in
    let g = unless_deep deep (array_body_at one i k) in
    Tells-is (array_at deep one i k b at) (room_at i 4 4 b at >>= λ p. place_test i (alignment k) b p >>= g) q s (array_regroup i deep one k b at)
    (room_tells i 4 4 b at q s (λ p. place_test i (alignment k) b p >>= g) low fits.0.0 le
    (Tells-is (place_test i (alignment k) b p >>= g) (g p) q s (rw (le-ltb 67108864 n fits.1, le-ltb b.end (aligned (alignment k) (p + 4) + n) fits.0.1) refl) t))

-- elements that are spelled, and one that is not
elements_told : (i : Input) (levels : ℕ) (one : Reader) → IsComplete i levels one → (k : Kind) (b : Bound) → IsLawful k → IsValid i b
    → (ds : Items) (fuel at next q s : ℕ) → AreItems i levels k b at next ds → next < b.end → b.end ≤ at + fuel → Tells (one k b next) q s → Tells (elements_at (one k b) b.end fuel at) q s
elements_told i levels one complete k b lawful valid no_items zero at next q s are more high t = absurd (omega (arith, are.stand.0, more, high))
elements_told i levels one complete k b lawful valid no_items (suc fuel) at next q s are more high t =
    let same : next ≡ at = omega (arith, are.stand.0) in
    let here : Tells (one k b at) q s = subst (λ (m : ℕ). Tells (one k b m) q s) same t in
    let g = λ (x : Data × ℕ). elements_at (one k b) b.end fuel x.1 >>= put_first x.0 in
    Tells-is (elements_at (one k b) b.end (suc fuel) at) (one k b at >>= g) q s (rw (lt-ltb at b.end (omega (arith, same, more))) refl) (Tells-then (one k b at) g q s here)
elements_told i levels one complete k b lawful valid (item d ds) zero at next q s are more high t = absurd (omega (arith, are.stand.0, more, high))
elements_told i levels one complete k b lawful valid (item d ds) (suc fuel) at next q s are more high t =
    let le : next ≤ length i.bytes = omega (arith, are.within, valid.long) in
    let sp = spelling i.order at d in
    let mid = at + length sp in
    let back = Stands-back i at next sp (spellings i.order mid ds) le are.stand in
    let is : IsItem i levels k b at mid d = record { fits = are.fit.0; stands = Stands-front i at next sp (spellings i.order mid ds) le are.stand; within = omega (arith, back.0, are.within) } in
    let others = elements_told i levels one complete k b lawful valid ds fuel mid next q s (record { fit = are.fit.1; stand = back; within = are.within }) more (omega (arith, grows i levels k b at mid d lawful is, high)) t in
    Tells-is (elements_at (one k b) b.end (suc fuel) at) (elements_at (one k b) b.end fuel mid >>= put_first d) q s (rw (lt-ltb at b.end (omega (arith, back.0, more)), complete k b at mid d lawful valid is) refl)
    (Tells-then (elements_at (one k b) b.end fuel mid) (put_first d) q s others)

body_padding : (i : Input) (one : Reader) (k : Kind) (b : Bound) (at q : ℕ) → aligned 4 at + 4 ≤ q → q < aligned (alignment k) (aligned 4 at + 4) → byte_in i q ≢ 0 → Tells (array_body_at one i k (aligned 4 at)) q 10
unfolding array_body_at array_rest
body_padding i one k b at q lo hi ne =
    let p = aligned 4 at in
    let within = inside_of i k at in
    Tells-then (padding_at i (alignment k) within (p + 4)) (array_rest one i k p) q 10 (padding_zero i (alignment k) within (p + 4) q (omega arith) lo hi (omega (arith, hi)) ne)

body_element : (i : Input) (levels : ℕ) (one : Reader) → IsComplete i levels one → IsLeast i levels one → (k : Kind) (b : Bound) (at next q s : ℕ) (ds : Items) → IsLawful k → IsValid i b → ArrayFits i k b at
    → AreItems i levels k (inside_of i k at) (aligned (alignment k) (aligned 4 at + 4)) next ds → next < (inside_of i k at).end → Wrong i levels k (inside_of i k at) next q s → Tells (array_body_at one i k (aligned 4 at)) q s
unfolding array_body_at array_rest
body_element i levels one complete least k b at next q s ds lawful valid fits are more w =
    let p = aligned 4 at in
    let n = number_in i w32 p in
    let within = inside_of i k at in
    let start = aligned (alignment k) (p + 4) in
    let valid_inside : IsValid i within = record { long = omega (arith, valid.long, fits.0.1); late = (omega arith, omega arith) } in
    let place : next ≤ q = wrong_behind i levels k within next q s w in
    let element = least k within next q s lawful valid_inside are.within w in
    let all = elements_told i levels one complete k within lawful valid_inside ds n start next q s are more (omega arith) element in
    padded_tells i (alignment k) within (p + 4) q s (array_rest one i k p) (omega arith) (omega (arith, are.stand.0, place)) (Tells-then (elements_at (one k within) within.end n start) (as_array k within.end) q s all)

array_tells : (i : Input) (levels : ℕ) (one : Reader) → IsComplete i levels one → IsLeast i levels one → (k : Kind) (b : Bound) (at q s : ℕ) → IsLawful k → IsValid i b → at ≤ b.end → Wrong i (suc levels) (array k) b at q s → Tells (array_at false one i k b at) q s
array_tells i levels one complete least k b at q s lawful valid low (padding_not_zero l' k' b' at' q' le lt within ne) = array_early i false one k b at q 10 valid low (front_zero q' le lt within ne)
array_tells i levels one complete least k b at q s lawful valid low (padding_passes l' k' b' at' lt) = array_early i false one k b at at b.reason valid low (front_padding lt)
array_tells i levels one complete least k b at q s lawful valid low (front_passes l' k' b' at' le lt) = array_early i false one k b at _ b.reason valid low (front_bytes le lt)
array_tells i levels one complete least k b at q s lawful valid low (end_passes l' k' b' at' front lt) = array_over i false one k b at valid low front lt
array_tells i levels one complete least k b at q s lawful valid low (array_too_long l' k' b' at' room lt) = array_long i false one k b at low room lt
array_tells i levels one complete least k b at q s lawful valid low (array_padding l' k' b' at' q' fits lo hi ne) = array_inside i false one k b at q 10 low fits (omega (arith, lo)) (body_padding i one k b at q' lo hi ne)
array_tells i levels one complete least k b at q s lawful valid low (in_element l' k' b' at' next q' s' ds fits are more w) =
    let less : suc levels - 1 ≡ levels = omega arith in
    let are' : AreItems i levels k (inside_of i k at) (aligned (alignment k) (aligned 4 at + 4)) next ds = subst (λ (l : ℕ). AreItems i l k (inside_of i k at) (aligned (alignment k) (aligned 4 at + 4)) next ds) less are in
    let w' : Wrong i levels k (inside_of i k at) next q' s' = subst (λ (l : ℕ). Wrong i l k (inside_of i k at) next q' s') less w in
    array_inside i false one k b at q s low fits (omega (arith, are'.stand.0, wrong_behind i levels k (inside_of i k at) next q' s' w')) (body_element i levels one complete least k b at next q' s' ds lawful valid fits are' more w')

-- an array too deep: its own place tells something
array_deep_tells : (i : Input) (one : Reader) (k : Kind) (b : Bound) (at : ℕ) → IsValid i b → at ≤ b.end → aligned 4 at ≤ b.end → Tells (array_at true one i k b at) (aligned 4 at) 20
array_deep_tells i one k b at valid low le =
    let p = aligned 4 at in
    let n = number_in i w32 p in
    let then : Before p b.reason p 20 = before_same p b.reason 20 (omega (arith, valid.late.1)) in
    elim (cases_lt b.end (p + 4)) [
      | inl lt ↦ weaker (array_at true one i k b at) p b.reason p 20 (array_early i true one k b at p b.reason valid low (front_bytes le lt)) then
      | inr room ↦
          elim (cases_lt 67108864 n) [
            | inl long ↦ weaker (array_at true one i k b at) p 17 p 20 (array_long i true one k b at low room long) (before_same p 17 20 (omega arith))
            | inr short ↦
                elim (cases_lt b.end (inside_of i k at).end) [
                  | inl over ↦ weaker (array_at true one i k b at) p b.reason p 20 (array_over i true one k b at valid low room over) then
                  | inr fits ↦ array_inside i true one k b at p 20 low ((room, fits), short) (omega arith) (tells (data_bad p 20) p 20 p 20 refl (before_same p 20 20 (omega arith)))
                ]
          ]
    ]

array_last_tells : (i : Input) (one : Reader) (k : Kind) (b : Bound) (at q s : ℕ) → IsLawful k → IsValid i b → at ≤ b.end → Wrong i 0 (array k) b at q s → Tells (array_at true one i k b at) q s
array_last_tells i one k b at q s lawful valid low (padding_not_zero l' k' b' at' q' le lt within ne) = array_early i true one k b at q 10 valid low (front_zero q' le lt within ne)
array_last_tells i one k b at q s lawful valid low (padding_passes l' k' b' at' lt) = array_early i true one k b at at b.reason valid low (front_padding lt)
array_last_tells i one k b at q s lawful valid low (front_passes l' k' b' at' le lt) = array_early i true one k b at _ b.reason valid low (front_bytes le lt)
array_last_tells i one k b at q s lawful valid low (end_passes l' k' b' at' front lt) = array_over i true one k b at valid low front lt
array_last_tells i one k b at q s lawful valid low (too_deep k' b' at' is le) = array_deep_tells i one k b at valid low le
array_last_tells i one k b at q s lawful valid low (array_too_long l' k' b' at' room lt) = array_long i true one k b at low room lt
array_last_tells i one k b at q s lawful valid low (array_padding l' k' b' at' q' fits lo hi ne) =
    weaker (array_at true one i k b at) (aligned 4 at) 20 q 10 (array_deep_tells i one k b at valid low (omega (arith, fits.0.0))) (inl (omega (arith, lo)))
array_last_tells i one k b at q s lawful valid low (in_element l' k' b' at' next q' s' ds fits are more w) =
    weaker (array_at true one i k b at) (aligned 4 at) 20 q s (array_deep_tells i one k b at valid low (omega (arith, fits.0.0)))
    (inl (omega (arith, are.stand.0, wrong_behind i (0 - 1) k (inside_of i k at) next q' s' w)))

-- dictionaries: what is wrong in one is wrong in the array of its entries
as_array_wrong : (i : Input) (levels : ℕ) (k v : Kind) (b : Bound) (at q s : ℕ) → Wrong i levels (dictionary k v) b at q s → Wrong i levels (array (entry_kind k v)) b at q s
as_array_wrong i levels k v b at q s (padding_not_zero l' k' b' at' q' le lt within ne) = padding_not_zero levels (array (entry_kind k v)) b at q' le lt within ne
as_array_wrong i levels k v b at q s (padding_passes l' k' b' at' lt) = padding_passes levels (array (entry_kind k v)) b at lt
as_array_wrong i levels k v b at q s (front_passes l' k' b' at' le lt) = front_passes levels (array (entry_kind k v)) b at le lt
as_array_wrong i levels k v b at q s (end_passes l' k' b' at' front lt) = end_passes levels (array (entry_kind k v)) b at front lt
as_array_wrong i levels k v b at q s (too_deep k' b' at' is le) = too_deep (array (entry_kind k v)) b at tt le
as_array_wrong i levels k v b at q s (in_dictionary l' k' v' b' at' q' s' w) = w

dictionary_from : (deep : Bool) (i : Input) (one : Reader) (k v : Kind) (b : Bound) (at q s : ℕ) → Tells (array_at deep one i (entry_kind k v) b at) q s → Tells (dictionary_at deep one i k v b at) q s
dictionary_from deep i one k v b at q s t =
    Tells-is (dictionary_at deep one i k v b at) (array_at deep one i (entry_kind k v) b at >>= as_dictionary k v) q s (dictionary_is deep one i k v b at) (Tells-then (array_at deep one i (entry_kind k v) b at) (as_dictionary k v) q s t)

-- structs

fields_tell : (i : Input) (levels : ℕ) (one : Reader) → IsComplete i levels one → IsLeast i levels one → (ks : Kinds) (b : Bound) (at q s : ℕ) → AreLawful ks → IsValid i b → at ≤ b.end → WrongField i levels ks b at q s → Tells (fields_at (λ k p. one k b p) (types_in ks) at) q s
fields_tell i levels one complete least ks b at q s lawful valid low (this_field l' k ks' b' at' q' s' w) =
    Tells-then (one k b at) (λ x. fields_at (λ j p. one j b p) (types_in ks') x.1 >>= fields_first x.0) q s (least k b at q s lawful.0 valid low w)
fields_tell i levels one complete least ks b at q s lawful valid low (later_field l' k ks' b' at' next q' s' d is w) =
    let others = fields_tell i levels one complete least ks' b next q s lawful.1 valid is.within w in
    Tells-is (one k b at >>= λ x. fields_at (λ j p. one j b p) (types_in ks') x.1 >>= fields_first x.0) (fields_at (λ j p. one j b p) (types_in ks') next >>= fields_first d) q s
    (ap (λ r. r >>= λ x. fields_at (λ j p. one j b p) (types_in ks') x.1 >>= fields_first x.0) (complete k b at next d lawful.0 valid is))
    (Tells-then (fields_at (λ j p. one j b p) (types_in ks') next) (fields_first d) q s others)

structure_tells : (i : Input) (levels : ℕ) (one : Reader) → IsComplete i levels one → IsLeast i levels one → (ks : Kinds) (b : Bound) (at q s : ℕ) → IsLawful (structure ks) → IsValid i b → at ≤ b.end → Wrong i (suc levels) (structure ks) b at q s → Tells (structure_at false one i (types_in ks) b at) q s
unfolding structure_at
structure_tells i levels one complete least ks b at q s lawful valid low (padding_not_zero l' k' b' at' q' le lt within ne) =
    Tells-then (padding_at i 8 b at) (λ p. fields_at (λ k q. one k b q) (types_in ks) p >>= as_structure) q 10 (padding_tells i 8 b at q 10 (late i b valid) (front_zero q' le lt within ne))
structure_tells i levels one complete least ks b at q s lawful valid low (padding_passes l' k' b' at' lt) =
    Tells-then (padding_at i 8 b at) (λ p. fields_at (λ k q. one k b q) (types_in ks) p >>= as_structure) at b.reason (padding_tells i 8 b at at b.reason (late i b valid) (front_padding lt))
structure_tells i levels one complete least ks b at q s lawful valid low (front_passes l' k' b' at' le lt) = absurd (omega (arith, le, lt))
structure_tells i levels one complete least ks b at q s lawful valid low (end_passes l' k' b' at' front lt) = absurd (omega (arith, front, lt))
structure_tells i levels one complete least ks b at q s lawful valid low (in_field l' ks' b' at' q' s' le w) =
    let less : suc levels - 1 ≡ levels = omega arith in
    let p = aligned 8 at in
    let w' : WrongField i levels ks b p q' s' = subst (λ (l : ℕ). WrongField i l ks b p q' s') less w in
    padded_tells i 8 b at q s (λ p. fields_at (λ k q. one k b q) (types_in ks) p >>= as_structure) low (field_behind i levels ks b p q' s' w')
    (Tells-then (fields_at (λ k q. one k b q) (types_in ks) p) as_structure q s (fields_tell i levels one complete least ks b p q' s' (all_lawful ks lawful) valid le w'))

-- a struct too deep: its own place tells something
deep_own : (p : ℕ) (r : Result (Data × ℕ) Fault) → Tells (deep_at p r) p 20
deep_own p (Ok x) = tells (data_bad p 20) p 20 p 20 refl (before_same p 20 20 (omega arith))
deep_own p (Err f) = by_reason (ltb f.reason 20) refl
  where
    by_place : (t : Bool) → (f.place == p) ≡ t → f.reason < 20 → Tells (cond t (Err f) (data_bad p 20)) p 20
    by_place true t lt = record { told = f; is = refl; before = inr (eqb-true f.place p t, omega (arith, lt)) }
    by_place false t lt = tells (data_bad p 20) p 20 p 20 refl (before_same p 20 20 (omega arith))

    by_reason : (t : Bool) → ltb f.reason 20 ≡ t → Tells (cond (t && f.place == p) (Err f) (data_bad p 20)) p 20
    by_reason true t = by_place (f.place == p) refl (ltb-true f.reason 20 t)
    by_reason false t = tells (data_bad p 20) p 20 p 20 refl (before_same p 20 20 (omega arith))

-- what its first item tells there
deep_first : (p q s : ℕ) (r : Result (Data × ℕ) Fault) → ((f : Fault) → r ≡ Err f → p ≤ f.place) → Tells r q s → Tells (deep_at p r) q s
deep_first p q s r behind t =
    let f = t.told in
    let low : p ≤ f.place = behind f t.is in
    Tells-is (deep_at p r) (deep_at p (Err f)) q s (ap (deep_at p) t.is) (by_reason f low t.before (ltb f.reason 20) refl)
  where
    by_place : (f : Fault) → p ≤ f.place → Before f.place f.reason q s → (t : Bool) → (f.place == p) ≡ t → Tells (cond t (Err f) (data_bad p 20)) q s
    by_place f low before true t = record { told = f; is = refl; before = before }
    by_place f low before false t =
        let more : p < f.place = omega (arith, low, eqb-false f.place p t) in
        tells (data_bad p 20) p 20 q s refl (before_then p 20 f.place f.reason q s (inl more) before)

    by_reason : (f : Fault) → p ≤ f.place → Before f.place f.reason q s → (t : Bool) → ltb f.reason 20 ≡ t → Tells (cond (t && f.place == p) (Err f) (data_bad p 20)) q s
    by_reason f low before true t = by_place f low before (f.place == p) refl
    by_reason f low before false t = tells (data_bad p 20) p 20 q s refl (before_then p 20 f.place f.reason q s (before_le p f.place 20 f.reason low (ltb-false f.reason 20 t)) before)

-- variants

variant_wrong_tells : (i : Input) (one : Reader) (b : Bound) (p q s : ℕ) → WrongSignature (short_in i p) q s → Tells (variant_body_at false one i b p) (p + 1 + q) s
unfolding variant_body_at
variant_wrong_tells i one b p q s w =
    let t = wrong_told (short_in i p) q s w in
    tells (variant_with false one i b p (signature_in (short_in i p))) (p + 1 + t.0.place) t.0.reason (p + 1 + q) s (ap (variant_with false one i b p) t.1) (further t.2)
  where
    further : {a r : ℕ} → Before a r q s → Before (p + 1 + a) r (p + 1 + q) s
    further (inl lt) = inl (omega arith)
    further (inr h) = inr (omega (arith, h.0), h.1)

inner_end : (i : Input) (one : Reader) (b : Bound) (p : ℕ) (k : Kind) → byte_in i (p + 1 + byte_in i p) ≢ 0 → inner_at false one i b p k ≡ Err (fault_at (p + 1 + byte_in i p) 12)
unfolding inner_at
inner_end i one b p k ne = by (byte_in i (p + 1 + byte_in i p) == 0) refl
  where
    by : (t : Bool) → (byte_in i (p + 1 + byte_in i p) == 0) ≡ t → cond t (one k b (p + 2 + byte_in i p) >>= as_variant k) (bad (p + 1 + byte_in i p) 12) ≡ Err (fault_at (p + 1 + byte_in i p) 12)
    by true t = absurd (ne (eqb-true _ 0 t))
    by false t = refl

variant_end_tells : (i : Input) (one : Reader) (b : Bound) (p : ℕ) → p + 2 + byte_in i p ≤ length i.bytes → byte_in i (p + 1 + byte_in i p) ≢ 0 → Tells (variant_body_at false one i b p) (p + 1 + byte_in i p) 12
unfolding variant_body_at
variant_end_tells i one b p fits ne = by (signature_in (short_in i p)) refl
  where
    by : (r : Result (List Kind) Fault) → signature_in (short_in i p) ≡ r → Tells (variant_with false one i b p (signature_in (short_in i p))) (p + 1 + byte_in i p) 12
    by (Ok []) e = tells (variant_with false one i b p (signature_in (short_in i p))) p 16 _ 12 (ap (variant_with false one i b p) e) (inl (omega arith))
    by (Ok (k ∷ [])) e =
        let end = p + 1 + byte_in i p in
        tells (variant_with false one i b p (signature_in (short_in i p))) end 12 end 12 (ap (variant_with false one i b p) e ∙ inner_end i one b p k ne) (before_same end 12 12 (omega arith))
    by (Ok (k ∷ j ∷ ks)) e = tells (variant_with false one i b p (signature_in (short_in i p))) p 16 _ 12 (ap (variant_with false one i b p) e) (inl (omega arith))
    by (Err f) e =
        let n = byte_in i p in
        let len : length (short_in i p) ≡ n = length-slice i (p + 1) n (omega (arith, fits)) in
        let place = told_place (short_in i p) f e in
        tells (variant_with false one i b p (signature_in (short_in i p))) (p + 1 + f.place) f.reason (p + 1 + n) 12 (ap (variant_with false one i b p) e) (before_le (p + 1 + f.place) (p + 1 + n) f.reason 12 (omega (arith, place.0, len)) (omega (arith, place.1)))

many_told : (deep : Bool) (i : Input) (one : Reader) (b : Bound) (p : ℕ) (ks : List Kind) → length ks ≢ 1 → variant_with deep one i b p (Ok ks) ≡ Err (fault_at p 16)
many_told deep i one b p [] many = refl
many_told deep i one b p (k ∷ []) many = absurd (many refl)
many_told deep i one b p (k ∷ j ∷ ks) many = refl

variant_many_tells : (deep : Bool) (i : Input) (one : Reader) (b : Bound) (p : ℕ) (ks : Kinds) → short_in i p ≡ signature_bytes ks → IsSignature ks → length (types_in ks) ≢ 1 → Tells (variant_body_at deep one i b p) p 16
unfolding variant_body_at
variant_many_tells deep i one b p ks named is many =
    let read : signature_in (short_in i p) ≡ Ok (types_in ks) = ap signature_in named ∙ signature_in-again ks is in
    tells (variant_with deep one i b p (signature_in (short_in i p))) p 16 p 16 (ap (variant_with deep one i b p) read ∙ many_told deep i one b p (types_in ks) many) (before_same p 16 16 (omega arith))

variant_inner_tells : (i : Input) (one : Reader) (k : Kind) (b : Bound) (p q s : ℕ) → short_in i p ≡ signature_bytes (single k) → IsSignature (single k) → byte_in i (p + 1 + byte_in i p) ≡ 0 → Tells (one k b (p + 2 + byte_in i p)) q s → Tells (variant_body_at false one i b p) q s
unfolding variant_body_at inner_at
variant_inner_tells i one k b p q s named is z t =
    let read : signature_in (short_in i p) ≡ Ok (k ∷ []) = ap signature_in named ∙ signature_in-again (single k) is in
    let step : inner_at false one i b p k ≡ (one k b (p + 2 + byte_in i p) >>= as_variant k) = rw z refl in
    Tells-is (variant_with false one i b p (signature_in (short_in i p))) (one k b (p + 2 + byte_in i p) >>= as_variant k) q s (ap (variant_with false one i b p) read ∙ step)
    (Tells-then (one k b (p + 2 + byte_in i p)) (as_variant k) q s t)

variant_tells : (i : Input) (levels : ℕ) (one : Reader) → IsLeast i levels one → (b : Bound) (at q s : ℕ) → IsValid i b → at ≤ b.end → Wrong i (suc levels) variant b at q s → Tells (short_at (variant_body_at false one i b) i b at) q s
variant_tells i levels one least b at q s valid low (padding_not_zero l' k' b' at' q' le lt within ne) = short_early i (variant_body_at false one i b) b at q 10 valid low (front_zero q' le lt within ne)
variant_tells i levels one least b at q s valid low (padding_passes l' k' b' at' lt) = short_early i (variant_body_at false one i b) b at at b.reason valid low (front_padding lt)
variant_tells i levels one least b at q s valid low (front_passes l' k' b' at' le lt) = short_early i (variant_body_at false one i b) b at _ b.reason valid low (front_bytes le lt)
variant_tells i levels one least b at q s valid low (end_passes l' k' b' at' front lt) = short_over i (variant_body_at false one i b) b at low front lt
variant_tells i levels one least b at q s valid low (bad_variant l' b' at' p' r' fits w) = short_inside i (variant_body_at false one i b) b at _ s low (inside_short i b at fits.0 fits.1) (omega arith) (variant_wrong_tells i one b at p' s w)
variant_tells i levels one least b at q s valid low (variant_not_ended l' b' at' fits ne) =
    let h = inside_short i b at fits.0 fits.1 in
    short_inside i (variant_body_at false one i b) b at _ 12 low h (omega arith) (variant_end_tells i one b at (omega (arith, h.fits, valid.long)) ne)
variant_tells i levels one least b at q s valid low (not_one_type l' b' at' ks fits named is many) = short_inside i (variant_body_at false one i b) b at at 16 low (inside_short i b at fits.0 fits.1) (omega arith) (variant_many_tells false i one b at ks named is many)
variant_tells i levels one least b at q s valid low (in_variant l' k b' at' q' s' fits named is z w) =
    let less : suc levels - 1 ≡ levels = omega arith in
    let h = inside_short i b at fits.0 fits.1 in
    let w' : Wrong i levels k b (at + 2 + byte_in i at) q' s' = subst (λ (l : ℕ). Wrong i l k b (at + 2 + byte_in i at) q' s') less w in
    let inner = least k b (at + 2 + byte_in i at) q' s' is.lawful.0 valid h.fits w' in
    short_inside i (variant_body_at false one i b) b at q s low h (omega (arith, wrong_behind i levels k b (at + 2 + byte_in i at) q' s' w')) (variant_inner_tells i one k b at q' s' named is z inner)

-- a variant too deep: its own place tells something
variant_own : (i : Input) (one : Reader) (b : Bound) (p : ℕ) → Tells (variant_body_at true one i b p) p 20
unfolding variant_body_at inner_at
variant_own i one b p = by (signature_in (short_in i p))
  where
    by : (r : Result (List Kind) Fault) → Tells (variant_with true one i b p r) p 20
    by (Ok []) = tells (data_bad p 16) p 16 p 20 refl (before_same p 16 20 (omega arith))
    by (Ok (k ∷ [])) = tells (data_bad p 20) p 20 p 20 refl (before_same p 20 20 (omega arith))
    by (Ok (k ∷ j ∷ ks)) = tells (data_bad p 16) p 16 p 20 refl (before_same p 16 20 (omega arith))
    by (Err f) = tells (data_bad p 20) p 20 p 20 refl (before_same p 20 20 (omega arith))

variant_deep_tells : (i : Input) (one : Reader) (b : Bound) (at : ℕ) → IsValid i b → at ≤ b.end → Tells (short_at (variant_body_at true one i b) i b at) at 20
variant_deep_tells i one b at valid low =
    let same = aligned-one at in
    let body = variant_body_at true one i b in
    let then : Before (aligned 1 at) b.reason at 20 = before_le (aligned 1 at) at b.reason 20 (omega (arith, same)) (omega (arith, valid.late.1)) in
    elim (cases_lt b.end (aligned 1 at + 1)) [
      | inl lt ↦ weaker (short_at body i b at) (aligned 1 at) b.reason at 20 (short_early i body b at (aligned 1 at) b.reason valid low (front_bytes (omega (arith, same, low)) lt)) then
      | inr room ↦
          elim (cases_lt b.end (aligned 1 at + 2 + byte_in i (aligned 1 at))) [
            | inl over ↦ weaker (short_at body i b at) (aligned 1 at) b.reason at 20 (short_over i body b at low room over) then
            | inr fits ↦ short_inside i body b at at 20 low (inside_short i b at room fits) (omega arith) (variant_own i one b at)
          ]
    ]

variant_last_tells : (i : Input) (one : Reader) (b : Bound) (at q s : ℕ) → IsValid i b → at ≤ b.end → Wrong i 0 variant b at q s → Tells (short_at (variant_body_at true one i b) i b at) q s
variant_last_tells i one b at q s valid low (padding_not_zero l' k' b' at' q' le lt within ne) = short_early i (variant_body_at true one i b) b at q 10 valid low (front_zero q' le lt within ne)
variant_last_tells i one b at q s valid low (padding_passes l' k' b' at' lt) = short_early i (variant_body_at true one i b) b at at b.reason valid low (front_padding lt)
variant_last_tells i one b at q s valid low (front_passes l' k' b' at' le lt) = short_early i (variant_body_at true one i b) b at _ b.reason valid low (front_bytes le lt)
variant_last_tells i one b at q s valid low (end_passes l' k' b' at' front lt) = short_over i (variant_body_at true one i b) b at low front lt
variant_last_tells i one b at q s valid low (too_deep k' b' at' is le) =
    weaker (short_at (variant_body_at true one i b) i b at) at 20 (aligned 1 at) 20 (variant_deep_tells i one b at valid low) (before_le at (aligned 1 at) 20 20 (omega arith) (omega arith))
variant_last_tells i one b at q s valid low (bad_variant l' b' at' p' r' fits w) = weaker (short_at (variant_body_at true one i b) i b at) at 20 q s (variant_deep_tells i one b at valid low) (inl (omega arith))
variant_last_tells i one b at q s valid low (variant_not_ended l' b' at' fits ne) = weaker (short_at (variant_body_at true one i b) i b at) at 20 q 12 (variant_deep_tells i one b at valid low) (inl (omega arith))
variant_last_tells i one b at q s valid low (not_one_type l' b' at' ks fits named is many) = short_inside i (variant_body_at true one i b) b at at 16 low (inside_short i b at fits.0 fits.1) (omega arith) (variant_many_tells true i one b at ks named is many)
variant_last_tells i one b at q s valid low (in_variant l' k b' at' q' s' fits named is z w) =
    weaker (short_at (variant_body_at true one i b) i b at) at 20 q s (variant_deep_tells i one b at valid low) (inl (omega (arith, wrong_behind i (0 - 1) k b (at + 2 + byte_in i at) q' s' w)))

-- any item

level_least : (i : Input) (levels : ℕ) (one : Reader) → IsComplete i levels one → IsLeast i levels one → IsLeast i (suc levels) (level false one i)
unfolding level single_at
level_least i levels one complete least (number n) b at q s lawful valid low w = number_tells i (suc levels) n b at q s valid low w
level_least i levels one complete least boolean b at q s lawful valid low w = boolean_tells i (suc levels) b at q s valid low w
level_least i levels one complete least text b at q s lawful valid low w = text_tells i (suc levels) b at q s valid low w
level_least i levels one complete least path b at q s lawful valid low w = path_tells i (suc levels) b at q s valid low w
level_least i levels one complete least signature b at q s lawful valid low w = signature_tells i (suc levels) b at q s valid low w
level_least i levels one complete least (array k) b at q s lawful valid low w = array_tells i levels one complete least k b at q s lawful valid low w
level_least i levels one complete least (structure ks) b at q s lawful valid low w = structure_tells i levels one complete least ks b at q s lawful valid low w
level_least i levels one complete least variant b at q s lawful valid low w = variant_tells i levels one least b at q s valid low w
level_least i levels one complete least (dictionary k v) b at q s lawful valid low w =
    dictionary_from false i one k v b at q s (array_tells i levels one complete least (entry_kind k v) b at q s (entry_lawful k v lawful) valid low (as_array_wrong i (suc levels) k v b at q s w))

-- at the last level: what is no struct
single_least : (i : Input) (one : Reader) (k : Kind) (b : Bound) (at q s : ℕ) → is_structure k ≡ false → IsLawful k → IsValid i b → at ≤ b.end → Wrong i 0 k b at q s → Tells (single_at true one i k b at) q s
unfolding single_at
single_least i one (number n) b at q s plain lawful valid low w = number_tells i 0 n b at q s valid low w
single_least i one boolean b at q s plain lawful valid low w = boolean_tells i 0 b at q s valid low w
single_least i one text b at q s plain lawful valid low w = text_tells i 0 b at q s valid low w
single_least i one path b at q s plain lawful valid low w = path_tells i 0 b at q s valid low w
single_least i one signature b at q s plain lawful valid low w = signature_tells i 0 b at q s valid low w
single_least i one (array k) b at q s plain lawful valid low w = array_last_tells i one k b at q s lawful valid low w
single_least i one (structure ks) b at q s plain lawful valid low w = absurd cc
single_least i one variant b at q s plain lawful valid low w = variant_last_tells i one b at q s valid low w
single_least i one (dictionary k v) b at q s plain lawful valid low w =
    dictionary_from true i one k v b at q s (array_last_tells i one (entry_kind k v) b at q s (entry_lawful k v lawful) valid low (as_array_wrong i 0 k v b at q s w))

-- the first inner item of a struct that is too deep
abbrev FirstTells : Input → Reader → Kind → Bound → ℕ → ℕ → ℕ → Type 0
FirstTells i one k b p q s = Tells (deep_at p (single_at true one i (first_of k) b p)) q s

single_first : (i : Input) (one : Reader) (k : Kind) (b : Bound) (p q s : ℕ) → is_structure k ≡ false → IsLawful k → IsValid i b → p ≤ b.end → Wrong i 0 k b p q s → Tells (deep_at p (single_at true one i k b p)) q s
single_first i one k b p q s plain lawful valid low w =
    deep_first p q s (single_at true one i k b p) (λ (f : Fault) (e : single_at true one i k b p ≡ Err f). wrong_behind i 0 k b p f.place f.reason (single_deep_there i one k b p f plain lawful valid e)) (single_least i one k b p q s plain lawful valid low w)

first_tells : (i : Input) (one : Reader) (k : Kind) (b : Bound) (p q s : ℕ) → IsLawful k → IsValid i b → aligned 8 p ≡ p → p ≤ b.end → Wrong i 0 k b p q s → FirstTells i one k b p q s
first_tells i one (number n) b p q s lawful valid same low w = single_first i one (number n) b p q s refl lawful valid low w
first_tells i one boolean b p q s lawful valid same low w = single_first i one boolean b p q s refl lawful valid low w
first_tells i one text b p q s lawful valid same low w = single_first i one text b p q s refl lawful valid low w
first_tells i one path b p q s lawful valid same low w = single_first i one path b p q s refl lawful valid low w
first_tells i one signature b p q s lawful valid same low w = single_first i one signature b p q s refl lawful valid low w
first_tells i one (array k) b p q s lawful valid same low w = single_first i one (array k) b p q s refl lawful valid low w
first_tells i one variant b p q s lawful valid same low w = single_first i one variant b p q s refl lawful valid low w
first_tells i one (dictionary k v) b p q s lawful valid same low w = single_first i one (dictionary k v) b p q s refl lawful valid low w
first_tells i one (structure no_kinds) b p q s lawful valid same low w = absurd lawful
first_tells i one (structure (kind k ks)) b p q s lawful valid same low (padding_not_zero l' k' b' at' q' le lt within ne) = absurd (omega (arith, same, le, lt))
first_tells i one (structure (kind k ks)) b p q s lawful valid same low (padding_passes l' k' b' at' lt) = absurd (omega (arith, same, low, lt))
first_tells i one (structure (kind k ks)) b p q s lawful valid same low (front_passes l' k' b' at' le lt) = absurd (omega (arith, le, lt))
first_tells i one (structure (kind k ks)) b p q s lawful valid same low (end_passes l' k' b' at' front lt) = absurd (omega (arith, front, lt))
first_tells i one (structure (kind k ks)) b p q s lawful valid same low (too_deep k' b' at' is le) =
    weaker (deep_at p (single_at true one i (first_of k) b p)) p 20 (aligned 8 p) 20 (deep_own p (single_at true one i (first_of k) b p)) (before_le p (aligned 8 p) 20 20 (omega (arith, same)) (omega arith))
first_tells i one (structure (kind k ks)) b p q s lawful valid same low (in_field l' ks' b' at' q' s' le (this_field l'' k'' ks'' b'' at'' q'' s'' w)) =
    first_tells i one k b p q s lawful.0 valid same low (subst (λ (m : ℕ). Wrong i 0 k b m q s) same w)
first_tells i one (structure (kind k ks)) b p q s lawful valid same low (in_field l' ks' b' at' q' s' le (later_field l'' k'' ks'' b'' at'' next q'' s'' d is w)) =
    weaker (deep_at p (single_at true one i (first_of k) b p)) p 20 q s (deep_own p (single_at true one i (first_of k) b p))
    (inl (omega (arith, same, grows i 0 k b (aligned 8 p) next d lawful.0 is, field_behind i 0 ks'' b next q s w)))

structure_last_tells : (i : Input) (one : Reader) (ks : Kinds) (b : Bound) (at q s : ℕ) → IsLawful (structure ks) → IsValid i b → at ≤ b.end → Wrong i 0 (structure ks) b at q s → Tells (structure_at true one i (types_in ks) b at) q s
unfolding structure_at
structure_last_tells i one no_kinds b at q s lawful valid low w = absurd lawful
structure_last_tells i one (kind k ks) b at q s lawful valid low (padding_not_zero l' k' b' at' q' le lt within ne) =
    Tells-then (padding_at i 8 b at) (λ p. deep_at p (single_at true one i (first_of k) b p)) q 10 (padding_tells i 8 b at q 10 (late i b valid) (front_zero q' le lt within ne))
structure_last_tells i one (kind k ks) b at q s lawful valid low (padding_passes l' k' b' at' lt) =
    Tells-then (padding_at i 8 b at) (λ p. deep_at p (single_at true one i (first_of k) b p)) at b.reason (padding_tells i 8 b at at b.reason (late i b valid) (front_padding lt))
structure_last_tells i one (kind k ks) b at q s lawful valid low (front_passes l' k' b' at' le lt) = absurd (omega (arith, le, lt))
structure_last_tells i one (kind k ks) b at q s lawful valid low (end_passes l' k' b' at' front lt) = absurd (omega (arith, front, lt))
structure_last_tells i one (kind k ks) b at q s lawful valid low (too_deep k' b' at' is le) =
    let p = aligned 8 at in
    padded_tells i 8 b at p 20 (λ p. deep_at p (single_at true one i (first_of k) b p)) low (omega arith) (deep_own p (single_at true one i (first_of k) b p))
structure_last_tells i one (kind k ks) b at q s lawful valid low (in_field l' ks' b' at' q' s' le w) =
    let p = aligned 8 at in
    let again = aligned-again at in
    let field : Wrong i 0 (structure (kind k ks)) b p q s = in_field 0 (kind k ks) b p q s (omega (arith, again, le)) (subst (λ (m : ℕ). WrongField i 0 (kind k ks) b m q s) (sym again) w) in
    padded_tells i 8 b at q s (λ p. deep_at p (single_at true one i (first_of k) b p)) low (field_behind i 0 (kind k ks) b p q s w) (first_tells i one (structure (kind k ks)) b p q s lawful valid again le field)

deep_least : (i : Input) (one : Reader) → IsLeast i 0 (level true one i)
unfolding level
deep_least i one (number n) b at q s lawful valid low w = single_least i one (number n) b at q s refl lawful valid low w
deep_least i one boolean b at q s lawful valid low w = single_least i one boolean b at q s refl lawful valid low w
deep_least i one text b at q s lawful valid low w = single_least i one text b at q s refl lawful valid low w
deep_least i one path b at q s lawful valid low w = single_least i one path b at q s refl lawful valid low w
deep_least i one signature b at q s lawful valid low w = single_least i one signature b at q s refl lawful valid low w
deep_least i one (array k) b at q s lawful valid low w = single_least i one (array k) b at q s refl lawful valid low w
deep_least i one (structure ks) b at q s lawful valid low w = structure_last_tells i one ks b at q s lawful valid low w
deep_least i one variant b at q s lawful valid low w = single_least i one variant b at q s refl lawful valid low w
deep_least i one (dictionary k v) b at q s lawful valid low w = single_least i one (dictionary k v) b at q s refl lawful valid low w

pub IsLeast-read : (i : Input) (levels : ℕ) → IsLeast i levels (read i levels)
unfolding read
IsLeast-read i zero = deep_least i nothing
IsLeast-read i (suc levels) = level_least i levels (read i levels) (IsComplete-read i levels) (IsLeast-read i levels)
