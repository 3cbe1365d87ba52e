-- Writing values one behind the other.
use Rattle.std.proofs.Common.{◌≡◌, ℕ, zero, suc, ◌+◌, ◌<◌, ◌≤◌, List, [], ◌∷◌, ◌++◌, length, get_or, map, take, drop, Result, Ok, Err, Some, Option, refl, sym, ap, subst, ◌∙◌, append_assoc, arith}
use Rattle.std.specs.Int.{w8}
use Rattle.std.specs.List.{slice_get}
use Rattle.std.proofs.Math.Seq.{drop-cons}
use Rattle.std.proofs.lemmas.List.{append-nil, length-append, length-take, take-take, drop_all}
use Rattle.std.proofs.lemmas.Option.{slice_get_within, get_or_from_slice_get, slice_get-get_or, slice_get-map}
use Rattle.atspi_types.specs.Kinds.{Kind, byte}
use Rattle.atspi_types.specs.Data.{Data, number_data, items_of, type_of, types_of, IsWellTyped, AreWellTyped}
use Rattle.atspi_types.specs.DataView.{data_of, pair_of}
use Rattle.atspi_types.specs.declared.fault.Order.{Order}
use Rattle.atspi_types.specs.declared.value.Value.{Value}
use Rattle.atspi_marshal.specs.declared.writing.fault.WriteFault.{WriteFault}
use Rattle.atspi_marshal.specs.Input.{number_bytes}
use Rattle.atspi_marshal.specs.Spelling.{padding, spelling, spellings, Fits, FieldsFit}
use Rattle.atspi_marshal.specs.Reading.{struct_of, structs_in}
use Rattle.atspi_marshal.specs.Writing.{IsWritten, Writes}
use Rattle.atspi_marshal.proofs.Places.{IsBytes}
use Rattle.atspi_marshal.proofs.WritingSteps.{Writes-refused, Writes-by, padding_one, number_byte}

-- of some bytes that may be written where P holds, the last are still to be written at a place, and may be where Q holds
pub record Remains (P Q : Type 0) (whole rest : List ℕ) (start at : ℕ) (old now : List ℕ) : Type 0 where
  pub appended : old ++ whole ≡ now ++ rest
  pub place : start + length whole ≡ at + length rest
  pub within : at ≤ 134217728
  pub onward : P → Q
  pub back : Q → P

step : (P Q R F : Type 0) (whole rest s old now new : List ℕ) (start at next : ℕ) → Remains P Q whole (s ++ rest) start at old now → (Q → F × R) → (F → R → Q) → IsWritten F s at now new next → Remains P R whole rest start next old new
step P Q R F whole rest s old now new start at next m f g w =
    record {
      appended = m.appended ∙ (sym (append_assoc now s rest) ∙ ap (λ (bs : List ℕ). bs ++ rest) (sym w.appended));
      place = omega (arith, m.place, w.place, length-append s rest);
      within = w.within;
      onward = λ p. (f (m.onward p)).1;
      back = λ r. m.back (g w.may r);
    }

done : (P Q : Type 0) (whole old now : List ℕ) (start at : ℕ) → Remains P Q whole [] start at old now → Q → IsWritten P whole start old now at
done P Q whole old now start at m q =
    let len : length whole + start ≡ at = omega (arith, m.place) in
    record { may = m.back q; appended = sym (m.appended ∙ append-nil now); place = omega (arith, len); within = m.within }

refused : (P Q F : Type 0) (whole rest s old now new last : List ℕ) (start at : ℕ) (e : WriteFault) → Remains P Q whole (s ++ rest) start at old now → (Q → F) → Writes F s at now new (Err e) → Writes P whole start old last (Err e)
refused P Q F whole rest s old now new last start at e m f w = Writes-refused F P s whole at start now new old last e (λ p. f (m.onward p)) (omega (arith, m.place, length-append s rest)) w

-- of these values, those from an index on
abbrev pub ValuesRemain : Order → ℕ → ℕ → ℕ → List Data → ℕ → List ℕ → List ℕ → Type 0
ValuesRemain o levels start at ds i old now =
    let rest = items_of (drop i ds) in
    Remains (FieldsFit o levels start (items_of ds) (types_of (items_of ds))) (FieldsFit o levels at rest (types_of rest)) (spellings o start (items_of ds)) (spellings o at rest) start at old now

abbrev Rest : Order → ℕ → ℕ → ℕ → List Data → List ℕ → List ℕ → List Data → Type 0
Rest o levels start at ds old now rest =
    Remains (FieldsFit o levels start (items_of ds) (types_of (items_of ds))) (FieldsFit o levels at (items_of rest) (types_of (items_of rest))) (spellings o start (items_of ds)) (spellings o at (items_of rest)) start at old now

pub values_first : (o : Order) (levels at : ℕ) (ds : List Data) (old : List ℕ) → at ≤ 134217728 → ValuesRemain o levels at at ds 0 old old
values_first o levels at ds old le = record { appended = refl; place = refl; within = le; onward = λ p. p; back = λ p. p }

next_of : (ds : List Data) (i : ℕ) (d : Data) → slice_get ds i ≡ Some d → drop i ds ≡ d ∷ drop (i + 1) ds
next_of ds i d e =
    let more : suc i ≡ i + 1 = omega arith in
    drop-cons ds i d (slice_get_within ds i d e) ∙ (ap (λ (x : Data). x ∷ drop (suc i) ds) (get_or_from_slice_get ds i d d e) ∙ ap (λ (j : ℕ). d ∷ drop j ds) more)

typed_drop : (i : ℕ) (ds : List Data) → AreWellTyped (items_of ds) → AreWellTyped (items_of (drop i ds))
typed_drop zero ds t = t
typed_drop (suc i) [] t = t
typed_drop (suc i) (d ∷ ds) t = typed_drop i ds t.1

pub typed_at : (ds : List Data) (i : ℕ) (d : Data) → slice_get ds i ≡ Some d → AreWellTyped (items_of ds) → IsWellTyped d
typed_at ds i d e t = (subst (λ (xs : List Data). AreWellTyped (items_of xs)) (next_of ds i d e) (typed_drop i ds t)).0

pub values_step : (o : Order) (levels start at next : ℕ) (ds : List Data) (i : ℕ) (d : Data) (old now new : List ℕ) → slice_get ds i ≡ Some d → ValuesRemain o levels start at ds i old now
    → IsWritten (Fits o levels at d (type_of d)) (spelling o at d) at now new next → ValuesRemain o levels start next ds (i + 1) old new
values_step o levels start at next ds i d old now new e m w =
    let rest = items_of (drop (i + 1) ds) in
    let behind = at + length (spelling o at d) in
    let P = FieldsFit o levels start (items_of ds) (types_of (items_of ds)) in
    let R = FieldsFit o levels behind rest (types_of rest) in
    let F = Fits o levels at d (type_of d) in
    let here = subst (Rest o levels start at ds old now) (next_of ds i d e) m in
    let there = step P (F × R) R F (spellings o start (items_of ds)) (spellings o behind rest) (spelling o at d) old now new start at next here (λ q. q) (λ f r. (f, r)) w in
    subst (λ (n : ℕ). Remains P (FieldsFit o levels n rest (types_of rest)) (spellings o start (items_of ds)) (spellings o n rest) start next old new) (sym w.place) there

pub values_done : (o : Order) (levels start at : ℕ) (ds : List Data) (i : ℕ) (old now : List ℕ) → length ds ≤ i → ValuesRemain o levels start at ds i old now
    → IsWritten (FieldsFit o levels start (items_of ds) (types_of (items_of ds))) (spellings o start (items_of ds)) start old now at
values_done o levels start at ds i old now le m =
    let none = subst (Rest o levels start at ds old now) (drop_all i ds le) m in
    done (FieldsFit o levels start (items_of ds) (types_of (items_of ds))) (Unit {0}) (spellings o start (items_of ds)) old now start at none tt

pub values_refused : (o : Order) (levels start at : ℕ) (ds : List Data) (i : ℕ) (d : Data) (old now new last : List ℕ) (e : WriteFault) → slice_get ds i ≡ Some d → ValuesRemain o levels start at ds i old now
    → Writes (Fits o levels at d (type_of d)) (spelling o at d) at now new (Err e)
    → Writes (FieldsFit o levels start (items_of ds) (types_of (items_of ds))) (spellings o start (items_of ds)) start old last (Err e)
values_refused o levels start at ds i d old now new last e next m w =
    let rest = items_of (drop (i + 1) ds) in
    let behind = at + length (spelling o at d) in
    let P = FieldsFit o levels start (items_of ds) (types_of (items_of ds)) in
    let R = FieldsFit o levels behind rest (types_of rest) in
    let F = Fits o levels at d (type_of d) in
    let here = subst (Rest o levels start at ds old now) (next_of ds i d next) m in
    refused P (F × R) F (spellings o start (items_of ds)) (spellings o behind rest) (spelling o at d) old now new last start at e here (λ q. q.0) w

-- the entry at an index
structs_in_at : (ps : List (Data × Data)) (i : ℕ) (q : Data × Data) → slice_get ps i ≡ Some q → slice_get (structs_in ps) i ≡ Some (struct_of q.0 q.1)
structs_in_at [] i q e = absurd cc
structs_in_at (p ∷ ps) zero q e = let same : p ≡ q = cc in ap (λ (x : Data × Data). some_struct x) same
  where
    some_struct : Data × Data → Option Data
    some_struct x = Some (struct_of x.0 x.1)
structs_in_at (p ∷ ps) (suc i) q e = structs_in_at ps i q e

pub entry_at : (xs : List (Value × Value)) (ps : List (Data × Data)) (i : ℕ) (p : Value × Value) → map pair_of xs ≡ ps → i < length xs → p ≡ get_or xs i p → slice_get (structs_in ps) i ≡ Some (struct_of (data_of p.0) (data_of p.1))
entry_at xs ps i p e lt is = structs_in_at ps i (pair_of p) (subst (λ (qs : List (Data × Data)). slice_get qs i ≡ Some (pair_of p)) e (mapped xs i p (slice_get-get_or xs i p lt ∙ ap some (sym is))))
  where
    some : Value × Value → Option (Value × Value)
    some x = Some x

    mapped : (xs : List (Value × Value)) (i : ℕ) (p : Value × Value) → slice_get xs i ≡ Some p → slice_get (map pair_of xs) i ≡ Some (pair_of p)
    mapped xs i p e = rw (slice_get-map pair_of xs i, e) refl

-- a list of bytes is spelled as it lies
byte_spelled : (o : Order) (at b : ℕ) → b < 256 → spelling o at (number_data byte b) ≡ b ∷ []
byte_spelled o at b lt = ap (λ (bs : List ℕ). bs ++ number_bytes o w8 b) (padding_one at) ∙ number_byte o b lt

bytes_spelled : (o : Order) (at : ℕ) (bytes : List ℕ) → IsBytes bytes → spellings o at (items_of (map (number_data byte) bytes)) ≡ bytes
bytes_spelled o at [] h = refl
bytes_spelled o at (b ∷ bytes) h =
    let next = at + length (spelling o at (number_data byte b)) in
    ap (λ (bs : List ℕ). bs ++ spellings o next (items_of (map (number_data byte) bytes))) (byte_spelled o at b (h 0)) ∙ ap (λ (bs : List ℕ). b ∷ bs) (bytes_spelled o next bytes (λ i. h (suc i)))

bytes_fit : (o : Order) (levels at : ℕ) (bytes : List ℕ) → IsBytes bytes → FieldsFit o levels at (items_of (map (number_data byte) bytes)) (types_of (items_of (map (number_data byte) bytes)))
bytes_fit o levels at [] h = tt
bytes_fit o levels at (b ∷ bytes) h = ((refl, h 0), bytes_fit o levels (at + length (spelling o at (number_data byte b))) bytes (λ i. h (suc i)))

pub bytes_write : (o : Order) (levels at : ℕ) (bytes : List ℕ) (ds : List Data) (old new : List ℕ) (r : Result ℕ WriteFault) → IsBytes bytes → map (number_data byte) bytes ≡ ds → Writes (Unit {0}) (padding 1 at ++ bytes) at old new r
    → Writes (FieldsFit o levels at (items_of ds) (types_of (items_of ds))) (spellings o at (items_of ds)) at old new r
bytes_write o levels at bytes ds old new r h e w =
    let all = map (number_data byte) bytes in
    let spelled : padding 1 at ++ bytes ≡ spellings o at (items_of all) = ap (λ (bs : List ℕ). bs ++ bytes) (padding_one at) ∙ sym (bytes_spelled o at bytes h) in
    subst (λ (xs : List Data). Writes (FieldsFit o levels at (items_of xs) (types_of (items_of xs))) (spellings o at (items_of xs)) at old new r) e
    (Writes-by (Unit {0}) (FieldsFit o levels at (items_of all) (types_of (items_of all))) (spellings o at (items_of all)) at old new r (λ may. bytes_fit o levels at bytes h) (λ fits. tt) (subst (λ (bs : List ℕ). Writes (Unit {0}) bs at old new r) spelled w))

-- what stands in front stays there
pub front_self : (bytes : List ℕ) → take (length bytes) bytes ≡ bytes
front_self [] = refl
front_self (b ∷ bytes) = ap (λ (bs : List ℕ). b ∷ bs) (front_self bytes)

pub front_behind : (old mid new : List ℕ) → take (length old) mid ≡ old → take (length mid) new ≡ mid → take (length old) new ≡ old
front_behind old mid new one two =
    let le : length old ≤ length mid = omega (arith, ap length one, length-take (length old) mid) in
    sym (take-take (length old) (length mid) new le) ∙ (ap (λ (bs : List ℕ). take (length old) bs) two ∙ one)

pub length_structs : (xs : List (Value × Value)) (ps : List (Data × Data)) → map pair_of xs ≡ ps → length (structs_in ps) ≡ length xs
length_structs xs ps e = subst (λ (qs : List (Data × Data)). length (structs_in qs) ≡ length xs) e (by_list xs)
  where
    by_list : (xs : List (Value × Value)) → length (structs_in (map pair_of xs)) ≡ length xs
    by_list [] = refl
    by_list (x ∷ xs) = ap suc (by_list xs)
