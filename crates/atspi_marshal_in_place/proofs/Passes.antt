-- What passing is made of, step by step.
use Rattle.std.proofs.Common.{◌≡◌, ℕ, zero, suc, ◌+◌, ◌-◌, ◌%◌, ◌<◌, ◌≤◌, Bool, true, false, cond, nat_lt, List, [], ◌∷◌, length, Result, Ok, Err, refl, sym, ap, subst, ◌∙◌, arith}
use Rattle.std.specs.Int.{w32, byte_len}
use Rattle.std.specs.Prelude.{◌==◌, IsTrue}
use Rattle.std.proofs.Math.Dec.{eqb-suc-zero}
use Rattle.std.proofs.Math.Nat.{mod_self, mod-lt, mod-add-mod, mod-eq_of_lt, add-mod_right}
use Rattle.std.proofs.lemmas.Bool.{lt-ltb, le-ltb, false≢true}
use Rattle.atspi_types.specs.Kinds.{Num, byte, i16, u16, i32, u32, i64, u64, double, width, number_alignment, Kind, number, boolean, text, path, signature, array, structure, variant, dictionary, alignment}
use Rattle.atspi_types.specs.Data.{Data, number_data, boolean_data, text_data, path_data, signature_data, array_data, structure_data, dictionary_data, variant_data}
use Rattle.atspi_types.specs.SignatureReading.{signature_in}
use Rattle.atspi_types.specs.declared.fault.Fault.{Fault}
use Rattle.atspi_marshal_in_place.specs.codes.Codes as codes
use Rattle.atspi_marshal.specs.declared.input.Bound.{Bound}
use Rattle.atspi_marshal.specs.Input.{Input, number_in, slice_in, aligned}
use Rattle.atspi_marshal.specs.Faults.{entry_kind, inside, short_in}
use Rattle.atspi_marshal.specs.Reading.{◌>>=◌, bad, Reader, passing_reason, zeros_in_front, room_at, number_at, padding_at, put_first, elements_at, as_array, array_body_at, as_dictionary, dictionary_body_at, fields_first, fields_at, as_structure, first_of, deep_at, single_at, structure_at, as_variant, variant_body_at, is_structure}
use Rattle.atspi_marshal_in_place.specs.Passing.{after, up_to, fixed_at}

abbrev pub One : Type 0
One = ℕ → Result (Data × ℕ) Fault

-- numbers
abbrev some_number : Input → Num → ℕ → Result (Data × ℕ) Fault
some_number i n p = Ok (number_data n (number_in i (width n) p), p + byte_len (width n))

number_bind : (i : Input) (n : Num) (r : Result ℕ Fault) → after (r >>= some_number i n) ≡ (r >>= λ p. Ok (p + byte_len (width n)))
number_bind i n (Ok p) = refl
number_bind i n (Err f) = refl

pub number_fixed : (i : Input) (n : Num) (b : Bound) (at : ℕ) → number_alignment n ≡ byte_len (width n) → after (number_at i n b at) ≡ fixed_at i (number_alignment n) b at
unfolding number_at fixed_at
number_fixed i n b at e = rw e (number_bind i n (room_at i (byte_len (width n)) (byte_len (width n)) b at))

-- elements
first_forgotten : (end : ℕ) (d : Data) (r : Result (List Data) Fault) → up_to end (r >>= put_first d) ≡ up_to end r
first_forgotten end d (Ok ds) = refl
first_forgotten end d (Err f) = refl

pub by_one : (one : One) (end fuel next : ℕ) (r : Result (Data × ℕ) Fault) → after r ≡ Ok next → up_to end (r >>= λ x. elements_at one end fuel x.1 >>= put_first x.0) ≡ up_to end (elements_at one end fuel next)
by_one one end fuel next (Ok x) e =
    let is : x.1 ≡ next = cc in
    first_forgotten end x.0 (elements_at one end fuel x.1) ∙ ap (λ (p : ℕ). up_to end (elements_at one end fuel p)) is
by_one one end fuel next (Err f) e = absurd cc

pub passes_on : (one : One) (end n i at next : ℕ) (total : Result ℕ Fault) → i < n → at < end → after (one at) ≡ Ok next
    → up_to end (elements_at one end (n - i) at) ≡ total → up_to end (elements_at one end (n - (i + 1)) next) ≡ total
passes_on one end n i at next total lt room h so_far =
    let k : n - i ≡ suc (n - (i + 1)) = omega arith in
    let step : up_to end (elements_at one end (n - i) at) ≡ up_to end (elements_at one end (n - (i + 1)) next) = rw (k, lt-ltb at end room) (by_one one end (n - (i + 1)) next (one at) h) in
    sym step ∙ so_far

pub none_by : (one : One) (end fuel : ℕ) (f : Fault) (r : Result (Data × ℕ) Fault) → after r ≡ Err f → up_to end (r >>= λ x. elements_at one end fuel x.1 >>= put_first x.0) ≡ Err f
none_by one end fuel f (Ok x) e = absurd cc
none_by one end fuel f (Err g) e = cc

pub passes_fail : (f : Fault) (one : One) (end n i at : ℕ) (total : Result ℕ Fault) → i < n → at < end → after (one at) ≡ Err f
    → up_to end (elements_at one end (n - i) at) ≡ total → total ≡ Err f
passes_fail f one end n i at total lt room h so_far =
    let k : n - i ≡ suc (n - (i + 1)) = omega arith in
    let step : up_to end (elements_at one end (n - i) at) ≡ Err f = rw (k, lt-ltb at end room) (none_by one end (n - (i + 1)) f (one at) h) in
    sym so_far ∙ step

pub passes_full : (one : One) (end n at : ℕ) (total : Result ℕ Fault) → end ≤ at → up_to end (elements_at one end n at) ≡ total → total ≡ Ok end
passes_full one end zero at total le so_far = sym so_far
passes_full one end (suc n) at total le so_far =
    let step : up_to end (elements_at one end (suc n) at) ≡ Ok end = rw (le-ltb at end le) refl in
    sym so_far ∙ step

pub passes_counted : (one : One) (end n i at : ℕ) (total : Result ℕ Fault) → n ≤ i → up_to end (elements_at one end (n - i) at) ≡ total → total ≡ Ok end
passes_counted one end n i at total le so_far =
    let k : n - i ≡ 0 = omega arith in
    let step : up_to end (elements_at one end (n - i) at) ≡ Ok end = rw k refl in
    sym so_far ∙ step

-- arrays and dictionaries
pub array_forgotten : (k : Kind) (end : ℕ) (r : Result (List Data) Fault) → after (r >>= as_array k end) ≡ up_to end r
array_forgotten k end (Ok ds) = refl
array_forgotten k end (Err f) = refl

pub array_passes : (below : Reader) (i : Input) (k : Kind) (p n start : ℕ) → n ≡ number_in i w32 p → padding_at i (alignment k) (inside k p n) (p + 4) ≡ Ok start
    → after (array_body_at below i k p) ≡ up_to (inside k p n).end (elements_at (below k (inside k p n)) (inside k p n).end n start)
unfolding array_body_at
array_passes below i k p n start same padded =
    rw (← same, padded) (array_forgotten k (inside k p n).end (elements_at (below k (inside k p n)) (inside k p n).end n start))

pub array_padding_fails : (below : Reader) (i : Input) (k : Kind) (p n : ℕ) (f : Fault) → n ≡ number_in i w32 p → padding_at i (alignment k) (inside k p n) (p + 4) ≡ Err f
    → array_body_at below i k p ≡ Err f
unfolding array_body_at
array_padding_fails below i k p n f same padded = rw (← same, padded) refl

pub dictionary_forgotten : (k v : Kind) (r : Result (Data × ℕ) Fault) → after (r >>= as_dictionary k v) ≡ after r
dictionary_forgotten k v (Err f) = refl
dictionary_forgotten k v (Ok x) = by x.0 x.1
  where
    by : (d : Data) (p : ℕ) → after (as_dictionary k v (d, p)) ≡ Ok p
    by (number_data n x) p = refl
    by (boolean_data b) p = refl
    by (text_data cs) p = refl
    by (path_data bs) p = refl
    by (signature_data ks) p = refl
    by (array_data e ds) p = refl
    by (structure_data ds) p = refl
    by (dictionary_data j w es) p = refl
    by (variant_data j d) p = refl

pub dictionary_passes : (below : Reader) (i : Input) (k v : Kind) (p : ℕ) → after (dictionary_body_at below i k v p) ≡ after (array_body_at below i (entry_kind k v) p)
dictionary_passes below i k v p = dictionary_forgotten k v (array_body_at below i (entry_kind k v) p)

-- fields
abbrev pub OneOf : Type 0
OneOf = Kind → ℕ → Result (Data × ℕ) Fault

field_forgotten : (d : Data) (r : Result (List Data × ℕ) Fault) → after (r >>= fields_first d) ≡ after r
field_forgotten d (Ok x) = refl
field_forgotten d (Err f) = refl

field_by : (one : OneOf) (ks : List Kind) (next : ℕ) (r : Result (Data × ℕ) Fault) → after r ≡ Ok next → after (r >>= λ x. fields_at one ks x.1 >>= fields_first x.0) ≡ after (fields_at one ks next)
field_by one ks next (Ok x) e =
    let is : x.1 ≡ next = cc in
    field_forgotten x.0 (fields_at one ks x.1) ∙ ap (λ (p : ℕ). after (fields_at one ks p)) is
field_by one ks next (Err f) e = absurd cc

pub field_passes : (one : OneOf) (k : Kind) (ks : List Kind) (at next : ℕ) (total : Result ℕ Fault) → after (one k at) ≡ Ok next → after (fields_at one (k ∷ ks) at) ≡ total → after (fields_at one ks next) ≡ total
field_passes one k ks at next total h so_far = sym (field_by one ks next (one k at) h) ∙ so_far

no_field : (one : OneOf) (ks : List Kind) (f : Fault) (r : Result (Data × ℕ) Fault) → after r ≡ Err f → after (r >>= λ x. fields_at one ks x.1 >>= fields_first x.0) ≡ Err f
no_field one ks f (Ok x) e = absurd cc
no_field one ks f (Err g) e = cc

pub field_fails : (f : Fault) (one : OneOf) (k : Kind) (ks : List Kind) (at : ℕ) (total : Result ℕ Fault) → after (one k at) ≡ Err f → after (fields_at one (k ∷ ks) at) ≡ total → total ≡ Err f
field_fails f one k ks at total h so_far = sym so_far ∙ no_field one ks f (one k at) h

pub structure_forgotten : (r : Result (List Data × ℕ) Fault) → after (r >>= as_structure) ≡ after r
structure_forgotten (Ok x) = refl
structure_forgotten (Err f) = refl

not_zero : (n : ℕ) → (n ≡ 0 → ⊥) → (n == 0) ≡ false
not_zero zero h = absurd (h refl)
not_zero (suc n) h = eqb-suc-zero n

pub structure_passes : (n : ℕ) (below : Reader) (i : Input) (ks : List Kind) (b : Bound) (at p : ℕ) → (n ≡ 0 → ⊥) → padding_at i 8 b at ≡ Ok p → after (structure_at (n == 0) below i ks b at) ≡ after (fields_at (λ k q. below k b q) ks p)
unfolding structure_at
structure_passes n below i ks b at p some padded = rw (padded, not_zero n some) (structure_forgotten (fields_at (λ k q. below k b q) ks p))

last_field : (one : OneOf) (k : Kind) (at : ℕ) → after (fields_at one (k ∷ []) at) ≡ after (one k at)
last_field one k at = by (one k at)
  where
    by : (r : Result (Data × ℕ) Fault) → after (r >>= λ x. fields_at one [] x.1 >>= fields_first x.0) ≡ after r
    by (Ok x) = refl
    by (Err f) = refl

pub pair_passes : (one : OneOf) (k v : Kind) (at between : ℕ) → after (one k at) ≡ Ok between → after (fields_at one (k ∷ v ∷ []) at) ≡ after (one v between)
pair_passes one k v at between first = field_by one (v ∷ []) between (one k at) first ∙ last_field one v between

pub structure_padding_fails : (deep : Bool) (below : Reader) (i : Input) (ks : List Kind) (b : Bound) (at : ℕ) (f : Fault) → padding_at i 8 b at ≡ Err f → structure_at deep below i ks b at ≡ Err f
unfolding structure_at
structure_padding_fails deep below i ks b at f padded = rw padded refl

-- variants
pub variant_forgotten : (k : Kind) (r : Result (Data × ℕ) Fault) → after (r >>= as_variant k) ≡ after r
variant_forgotten k (Ok x) = refl
variant_forgotten k (Err f) = refl

-- no padding where a place is a multiple already
abbrev padded_to : Input → Bound → ℕ → ℕ → Result ℕ Fault
padded_to i b at p =
    cond (nat_lt b.end p) (bad at (passing_reason i b at)) (cond (nat_lt (zeros_in_front (slice_in i at (p - at))) (p - at)) (bad (at + zeros_in_front (slice_in i at (p - at))) 10) (Ok p))

padded_here : (i : Input) (b : Bound) (at : ℕ) → at ≤ b.end → padded_to i b at at ≡ Ok at
padded_here i b at le =
    let none : at - at ≡ 0 = omega arith in
    rw (le-ltb b.end at le, none) refl

pub aligned_here : (n at : ℕ) → at % n ≡ 0 → aligned n at ≡ at
aligned_here n at e =
    let whole : n - 0 ≡ n = omega arith in
    let none : (n - at % n) % n ≡ 0 = rw (e, whole) (mod_self n) in
    omega (arith, none)

-- the next multiple, by what is left of the number with all but one added
pub rounded : (n at : ℕ) → 0 < n → at + (n - 1) - (at + (n - 1)) % n ≡ aligned n at
rounded n at some = by (at % n) refl
  where
    by : (r : ℕ) → at % n ≡ r → at + (n - 1) - (at + (n - 1)) % n ≡ aligned n at
    by zero e =
        let less : 0 + (n - 1) ≡ n - 1 = omega arith in
        let over : (at + (n - 1)) % n ≡ n - 1 = sym (mod-add-mod at n (n - 1)) ∙ (ap (λ (r : ℕ). (r + (n - 1)) % n) e ∙ (ap (λ (m : ℕ). m % n) less ∙ mod-eq_of_lt (omega (arith, some)))) in
        omega (arith, over, aligned_here n at e)
    by (suc r) e =
        let small : suc r < n = subst (λ (m : ℕ). m < n) e (mod-lt at some) in
        let shifted : suc r + (n - 1) ≡ r + n = omega (arith, some) in
        let over : (at + (n - 1)) % n ≡ r = sym (mod-add-mod at n (n - 1)) ∙ (ap (λ (q : ℕ). (q + (n - 1)) % n) e ∙ (ap (λ (m : ℕ). m % n) shifted ∙ (add-mod_right r n ∙ mod-eq_of_lt (omega (arith, small))))) in
        let pad : (n - at % n) % n ≡ n - suc r = ap (λ (m : ℕ). (n - m) % n) e ∙ mod-eq_of_lt (omega (arith, small)) in
        omega (arith, over, pad, small)

pub no_padding : (i : Input) (n : ℕ) (b : Bound) (at : ℕ) → at % n ≡ 0 → at ≤ b.end → padding_at i n b at ≡ Ok at
unfolding padding_at
no_padding i n b at e le = ap (padded_to i b at) (aligned_here n at e) ∙ padded_here i b at le

-- padding that is zeros
pub zero_padding : (i : Input) (n : ℕ) (b : Bound) (at p : ℕ) → p ≡ aligned n at → p ≤ b.end → zeros_in_front (slice_in i at (p - at)) ≡ p - at → padding_at i n b at ≡ Ok p
unfolding padding_at
zero_padding i n b at p e le zs =
    let here : padded_to i b at p ≡ Ok p = rw (le-ltb b.end p le, zs, le-ltb (p - at) (p - at) (omega arith)) refl in
    ap (padded_to i b at) (sym e) ∙ here

pub empty_deep : (below : Reader) (i : Input) (b : Bound) (at p : ℕ) → padding_at i 8 b at ≡ Ok p → structure_at true below i [] b at ≡ bad p 20
unfolding structure_at single_at
empty_deep below i b at p e = rw e refl

-- a struct that is too deep and has fields
pub first_deep : (below : Reader) (i : Input) (k : Kind) (ks : List Kind) (b : Bound) (at p : ℕ) → padding_at i 8 b at ≡ Ok p
    → structure_at true below i (k ∷ ks) b at ≡ deep_at p (single_at true below i (first_of k) b p)
unfolding structure_at
first_deep below i k ks b at p e = rw e refl

-- a variant of no type or of several
pub not_one : (deep : Bool) (below : Reader) (i : Input) (b : Bound) (p : ℕ) (ks : List Kind) → (length ks ≡ 1 → ⊥) → signature_in (short_in i p) ≡ Ok ks → variant_body_at deep below i b p ≡ bad p 16
unfolding variant_body_at
not_one deep below i b p [] many e = rw e refl
not_one deep below i b p (k ∷ []) many e = absurd (many refl)
not_one deep below i b p (k ∷ j ∷ ks) many e = rw e refl

pub not_structure : (k : Kind) → (IsTrue (codes.is_structure k) → false ≡ true) → is_structure k ≡ false
not_structure (number n) h = refl
not_structure boolean h = refl
not_structure text h = refl
not_structure path h = refl
not_structure signature h = refl
not_structure (array k) h = refl
not_structure (structure ks) h = absurd (false≢true (h refl))
not_structure variant h = refl
not_structure (dictionary k v) h = refl

-- what is too deep is refused
pub deep_forgotten : (p : ℕ) (f : Fault) (r : Result (Data × ℕ) Fault) → Err f ≡ deep_at p r → Err f ≡ after (deep_at p r)
deep_forgotten p f r h = ap after h

pub alignment_within : (k : Kind) → (0 < alignment k) × (alignment k ≤ 8)
alignment_within (number byte) = (omega arith, omega arith)
alignment_within (number i16) = (omega arith, omega arith)
alignment_within (number u16) = (omega arith, omega arith)
alignment_within (number i32) = (omega arith, omega arith)
alignment_within (number u32) = (omega arith, omega arith)
alignment_within (number i64) = (omega arith, omega arith)
alignment_within (number u64) = (omega arith, omega arith)
alignment_within (number double) = (omega arith, omega arith)
alignment_within boolean = (omega arith, omega arith)
alignment_within text = (omega arith, omega arith)
alignment_within path = (omega arith, omega arith)
alignment_within signature = (omega arith, omega arith)
alignment_within (array k) = (omega arith, omega arith)
alignment_within (structure ks) = (omega arith, omega arith)
alignment_within variant = (omega arith, omega arith)
alignment_within (dictionary k v) = (omega arith, omega arith)
