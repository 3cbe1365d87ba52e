-- What is known of bytes that were read.
use Rattle.std.proofs.Common.{◌≡◌, ℕ, zero, suc, ◌+◌, ◌-◌, ◌%◌, ◌≤◌, Bool, true, false, cond, ltb, List, ◌∷◌, Result, Ok, Err, refl, sym, ap, subst, ◌∙◌, arith}
use Rattle.std.specs.Prelude.{◌==◌, nat_lt, ◌&&◌}
use Rattle.std.specs.Int.{w32, byte_len}
use Rattle.std.proofs.lemmas.Bool.{ltb-false, false≢true}
use Rattle.atspi_base.specs.ReadsText.{text_in}
use Rattle.atspi_base.specs.declared.text.TextFault.{TextFault}
use Rattle.atspi_base.specs.declared.text.TextFault.TheVariants.{Zero, Utf8, NoMemory}
use Rattle.atspi_base.specs.valid_names.Names.{is_path}
use Rattle.atspi_types.specs.Kinds.{Num, width, number_alignment, Kind, number, boolean, text, path, signature, array, structure, variant, dictionary, kinds_of, byte, i16, u16, i32, u32, i64, u64, double, alignment}
use Rattle.atspi_types.specs.SignatureReading.{signature_in}
use Rattle.atspi_types.specs.Data.{Data, boolean_data, text_data, path_data, signature_data}
use Rattle.atspi_types.specs.declared.fault.Fault.{Fault}
use Rattle.atspi_marshal.specs.declared.input.Bound.{Bound}
use Rattle.atspi_marshal.specs.Input.{Input, number_in, byte_in, slice_in, aligned}
use Rattle.atspi_marshal.specs.Faults.{entry_kind, end_of, place_of, inside, long_in, short_in}
use Rattle.atspi_marshal.specs.Reading.{◌>>=◌, bad, Reader, padding_at, room_at, passing_reason, zeros_in_front, number_at, boolean_at, ended, text_with, text_body_at, path_body_at, long_place, long_at, short_place, short_at, signature_with, signature_body_at, elements_at, as_array, fields_first, array_place, array_body_at, array_at, unless_deep, dictionary_at, fields_at, as_structure, structure_at, single_at, first_in, deep_at, is_structure, level, read}
use Rattle.atspi_marshal.proofs.Places.{bind_ok, passed, ok_is, aligned-one}
use Rattle.atspi_marshal.proofs.Levels.{dictionary_is, read_is, level_single, types_in-kinds_of}
use Rattle.atspi_marshal_in_place.specs.codes.Codes.{head_code}
use Rattle.atspi_marshal_in_place.specs.Passing.{after, up_to, fixed_at, number_len}
use Rattle.atspi_marshal_in_place.specs.Known.{is_read, is_variant}
use Rattle.atspi_marshal_in_place.proofs.Passes.{number_fixed, dictionary_forgotten, array_forgotten, structure_forgotten}
use Rattle.atspi_marshal_in_place.proofs.Runs.{fixed_read, Leaf, text_kind, path_kind}

pub bind_known : {A B : Type 0} (r : Result A Fault) (f : A → Result (B × ℕ) Fault) → is_read (after (r >>= f)) ≡ true → (x : A) × (r ≡ Ok x) × (after (r >>= f) ≡ after (f x))
bind_known (Ok x) f h = (x, refl, refl)
bind_known (Err e) f h = absurd cc

-- a test that was passed
cond_known : {B : Type 0} (t : Bool) (d : Fault) (r : Result (B × ℕ) Fault) → is_read (after (cond t (Err d) r)) ≡ true → (t ≡ false) × (after (cond t (Err d) r) ≡ after r)
cond_known true d r h = absurd cc
cond_known false d r h = (refl, refl)

cond_known_not : {B : Type 0} (t : Bool) (d : Fault) (r : Result (B × ℕ) Fault) → is_read (after (cond t r (Err d))) ≡ true → (t ≡ true) × (after (cond t r (Err d)) ≡ after r)
cond_known_not true d r h = (refl, refl)
cond_known_not false d r h = absurd cc

pub padding_place : (i : Input) (n : ℕ) (b : Bound) (at p : ℕ) → padding_at i n b at ≡ Ok p → (p ≡ aligned n at) × (p ≤ b.end)
unfolding padding_at
padding_place i n b at p e =
    let whole = aligned n at in
    let zs = zeros_in_front (slice_in i at (whole - at)) in
    let first = passed (ltb b.end whole) (record { place = at; reason = passing_reason i b at }) _ p e in
    let second = passed (ltb zs (whole - at)) (record { place = at + zs; reason = 10 }) (Ok whole) p first.1 in
    let is : whole ≡ p = ok_is whole p second.1 in
    (sym is, omega (arith, is, ltb-false b.end whole first.0))

pub room_place : (i : Input) (n len : ℕ) (b : Bound) (at p : ℕ) → room_at i n len b at ≡ Ok p → (p ≡ aligned n at) × (p + len ≤ b.end)
unfolding room_at
room_place i n len b at p e =
    let a = bind_ok (padding_at i n b at) (λ q. cond (ltb b.end (q + len)) (bad q b.reason) (Ok q)) p e in
    let g = passed (ltb b.end (a.0 + len)) (record { place = a.0; reason = b.reason }) (Ok a.0) p a.2 in
    let is : a.0 ≡ p = ok_is a.0 p g.1 in
    let t = padding_place i n b at a.0 a.1 in
    (sym is ∙ t.0, omega (arith, is, ltb-false b.end (a.0 + len) g.0))

-- what is jumped over: where it ends, and that this is inside
pub record Jumped (r : Result (Data × ℕ) Fault) (b : Bound) (p : ℕ) : Type 0 where
  pub place : after r ≡ Ok p
  pub within : p ≤ b.end

fixed_known : (i : Input) (n : ℕ) (b : Bound) (at : ℕ) → is_read (fixed_at i n b at) ≡ true → (fixed_at i n b at ≡ Ok (aligned n at + n)) × (aligned n at + n ≤ b.end)
unfolding fixed_at
fixed_known i n b at h = by (room_at i n n b at) refl h
  where
    by : (r : Result ℕ Fault) → room_at i n n b at ≡ r → is_read (r >>= λ p. Ok (p + n)) ≡ true → ((r >>= λ p. Ok (p + n)) ≡ Ok (aligned n at + n)) × (aligned n at + n ≤ b.end)
    by (Err f) e h = absurd cc
    by (Ok p) e h =
        let t = room_place i n n b at p e in
        (rw t.0 refl, omega (arith, t.0, t.1))

pub number_known : (i : Input) (n : Num) (b : Bound) (at : ℕ) → number_alignment n ≡ byte_len (width n) → is_read (after (number_at i n b at)) ≡ true → Jumped (number_at i n b at) b (aligned (number_alignment n) at + number_alignment n)
number_known i n b at e h =
    let same = number_fixed i n b at e in
    let t = fixed_known i (number_alignment n) b at (rw (← same) h) in
    record { place = same ∙ t.0; within = t.1 }

boolean_by : (i : Input) (p : ℕ) → is_read (after (cond (ltb 1 (number_in i w32 p)) (bad p 11) (Ok (boolean_data (number_in i w32 p == 1), p + 4)))) ≡ true
    → after (cond (ltb 1 (number_in i w32 p)) (bad p 11) (Ok (boolean_data (number_in i w32 p == 1), p + 4))) ≡ Ok (p + 4)
boolean_by i p h = (cond_known (ltb 1 (number_in i w32 p)) (record { place = p; reason = 11 }) (Ok (boolean_data (number_in i w32 p == 1), p + 4)) h).1

pub boolean_known : (i : Input) (b : Bound) (at : ℕ) → is_read (after (boolean_at i b at)) ≡ true → Jumped (boolean_at i b at) b (aligned 4 at + 4)
unfolding boolean_at
boolean_known i b at h =
    let a = bind_known (room_at i 4 4 b at) (λ p. cond (ltb 1 (number_in i w32 p)) (bad p 11) (Ok (boolean_data (number_in i w32 p == 1), p + 4))) h in
    let t = room_place i 4 4 b at a.0 a.1 in
    let last = boolean_by i a.0 (rw (← a.2) h) in
    record { place = a.2 ∙ (last ∙ ap (λ (p : ℕ). plain (p + 4)) t.0); within = omega (arith, t.0, t.1) }
  where
    plain : ℕ → Result ℕ Fault
    plain p = Ok p

-- texts, paths and signatures
abbrev placed : ℕ → Result ℕ Fault
placed p = Ok p

ended_known : (i : Input) (at : ℕ) (d : Data) → is_read (after (ended i at d)) ≡ true → after (ended i at d) ≡ Ok (at + 1)
ended_known i at d h = (cond_known_not (byte_in i at == 0) (record { place = at; reason = 12 }) (Ok (d, at + 1)) h).1

text_with_known : (i : Input) (p n : ℕ) (r : Result (List ℕ) TextFault) → is_read (after (text_with i p n r)) ≡ true → after (text_with i p n r) ≡ Ok (p + 5 + n)
text_with_known i p n (Ok cs) h = ended_known i (p + 4 + n) (text_data cs) h ∙ ap placed (omega arith)
text_with_known i p n (Err (Zero z)) h = absurd cc
text_with_known i p n (Err (Utf8 z)) h = absurd cc
text_with_known i p n (Err NoMemory) h = absurd cc

pub text_body_known : (i : Input) (p : ℕ) → is_read (after (text_body_at i p)) ≡ true → after (text_body_at i p) ≡ Ok (p + 5 + number_in i w32 p)
unfolding text_body_at
text_body_known i p h = text_with_known i p (number_in i w32 p) (text_in (long_in i p)) h

pub path_body_known : (i : Input) (p : ℕ) → is_read (after (path_body_at i p)) ≡ true → after (path_body_at i p) ≡ Ok (p + 5 + number_in i w32 p)
unfolding path_body_at
path_body_known i p h =
    let a = cond_known_not (is_path (long_in i p)) (record { place = p; reason = 15 }) (ended i (p + 4 + number_in i w32 p) (path_data (long_in i p))) h in
    a.1 ∙ (ended_known i (p + 4 + number_in i w32 p) (path_data (long_in i p)) (rw (← a.1) h) ∙ ap placed (omega arith))

pub long_is : (i : Input) (b : Bound) (at p : ℕ) → long_place i b at ≡ Ok p → (p ≡ aligned 4 at) × (p + 5 + number_in i w32 p ≤ b.end)
unfolding long_place
long_is i b at p e =
    let a = bind_ok (room_at i 4 4 b at) (λ q. cond (ltb b.end (q + 5 + number_in i w32 q)) (bad q b.reason) (Ok q)) p e in
    let g = passed (ltb b.end (a.0 + 5 + number_in i w32 a.0)) (record { place = a.0; reason = b.reason }) (Ok a.0) p a.2 in
    let is : a.0 ≡ p = ok_is a.0 p g.1 in
    let t = room_place i 4 4 b at a.0 a.1 in
    (sym is ∙ t.0, rw (← is) (ltb-false b.end (a.0 + 5 + number_in i w32 a.0) g.0))

pub long_known : (body : ℕ → Result (Data × ℕ) Fault) (i : Input) (b : Bound) (at : ℕ) → ((p : ℕ) → is_read (after (body p)) ≡ true → after (body p) ≡ Ok (p + 5 + number_in i w32 p))
    → is_read (after (long_at body i b at)) ≡ true → Jumped (long_at body i b at) b (aligned 4 at + 5 + number_in i w32 (aligned 4 at))
unfolding long_at
long_known body i b at ends h =
    let a = bind_known (long_place i b at) body h in
    let t = long_is i b at a.0 a.1 in
    let last = ends a.0 (rw (← a.2) h) in
    record { place = a.2 ∙ (last ∙ ap (λ (p : ℕ). placed (p + 5 + number_in i w32 p)) t.0); within = rw (← t.0) t.1 }

signature_with_known : (i : Input) (p : ℕ) (r : Result (List Kind) Fault) → is_read (after (signature_with i p r)) ≡ true → after (signature_with i p r) ≡ Ok (p + 2 + byte_in i p)
signature_with_known i p (Ok ks) h = ended_known i (p + 1 + byte_in i p) (signature_data (kinds_of ks)) h ∙ ap placed (omega arith)
signature_with_known i p (Err f) h = absurd cc

pub short_is : (i : Input) (b : Bound) (at p : ℕ) → short_place i b at ≡ Ok p → (p ≡ at) × (p + 2 + byte_in i p ≤ b.end)
unfolding short_place
short_is i b at p e =
    let a = bind_ok (room_at i 1 1 b at) (λ q. cond (ltb b.end (q + 2 + byte_in i q)) (bad q b.reason) (Ok q)) p e in
    let g = passed (ltb b.end (a.0 + 2 + byte_in i a.0)) (record { place = a.0; reason = b.reason }) (Ok a.0) p a.2 in
    let is : a.0 ≡ p = ok_is a.0 p g.1 in
    let t = room_place i 1 1 b at a.0 a.1 in
    (sym is ∙ (t.0 ∙ aligned-one at), rw (← is) (ltb-false b.end (a.0 + 2 + byte_in i a.0) g.0))

pub signature_known : (i : Input) (b : Bound) (at : ℕ) → is_read (after (short_at (signature_body_at i) i b at)) ≡ true → Jumped (short_at (signature_body_at i) i b at) b (at + 2 + byte_in i at)
unfolding short_at signature_body_at
signature_known i b at h =
    let a = bind_known (short_place i b at) (signature_body_at i) h in
    let t = short_is i b at a.0 a.1 in
    let last = signature_with_known i a.0 (signature_in (short_in i a.0)) (rw (← a.2) h) in
    record { place = a.2 ∙ (last ∙ ap (λ (p : ℕ). placed (p + 2 + byte_in i p)) t.0); within = rw (← t.0) t.1 }

-- arrays
up_to_known : {X : Type 0} (end : ℕ) (r : Result X Fault) → is_read (up_to end r) ≡ true → up_to end r ≡ Ok end
up_to_known end (Ok x) h = refl
up_to_known end (Err f) h = absurd cc

pub array_body_known : (below : Reader) (i : Input) (k : Kind) (p : ℕ) → is_read (after (array_body_at below i k p)) ≡ true → after (array_body_at below i k p) ≡ Ok (inside k p (number_in i w32 p)).end
unfolding array_body_at
array_body_known below i k p h =
    let n = number_in i w32 p in
    let end = (inside k p n).end in
    let a = bind_known (padding_at i (alignment k) (inside k p n) (p + 4)) (λ s. elements_at (below k (inside k p n)) end n s >>= as_array k end) h in
    let e = array_forgotten k end (elements_at (below k (inside k p n)) end n a.0) in
    a.2 ∙ (e ∙ up_to_known end (elements_at (below k (inside k p n)) end n a.0) (rw (← e, ← a.2) h))

deep_known : (deep : Bool) (body : ℕ → Result (Data × ℕ) Fault) (p : ℕ) → is_read (after (unless_deep deep body p)) ≡ true → (deep ≡ false) × (after (unless_deep deep body p) ≡ after (body p))
deep_known true body p h = absurd cc
deep_known false body p h = (refl, refl)

pub array_is : (i : Input) (n : ℕ) (b : Bound) (at p : ℕ) → array_place i n b at ≡ Ok p → (p ≡ aligned 4 at) × (aligned n (p + 4) + number_in i w32 p ≤ b.end)
unfolding array_place
array_is i n b at p e =
    let a = bind_ok (room_at i 4 4 b at) (λ q. cond (ltb 67108864 (number_in i w32 q)) (bad q 17) (cond (ltb b.end (aligned n (q + 4) + number_in i w32 q)) (bad q b.reason) (Ok q))) p e in
    let f = passed (ltb 67108864 (number_in i w32 a.0)) (record { place = a.0; reason = 17 }) _ p a.2 in
    let g = passed (ltb b.end (aligned n (a.0 + 4) + number_in i w32 a.0)) (record { place = a.0; reason = b.reason }) (Ok a.0) p f.1 in
    let is : a.0 ≡ p = ok_is a.0 p g.1 in
    let t = room_place i 4 4 b at a.0 a.1 in
    (sym is ∙ t.0, rw (← is) (ltb-false b.end (aligned n (a.0 + 4) + number_in i w32 a.0) g.0))

pub array_known : (deep : Bool) (below : Reader) (i : Input) (k : Kind) (b : Bound) (at : ℕ) → is_read (after (array_at deep below i k b at)) ≡ true
    → Jumped (array_at deep below i k b at) b (aligned (alignment k) (aligned 4 at + 4) + number_in i w32 (aligned 4 at))
unfolding array_at
array_known deep below i k b at h =
    let a = bind_known (array_place i (alignment k) b at) (unless_deep deep (array_body_at below i k)) h in
    let t = array_is i (alignment k) b at a.0 a.1 in
    let d = deep_known deep (array_body_at below i k) a.0 (rw (← a.2) h) in
    let last = array_body_known below i k a.0 (rw (← d.1, ← a.2) h) in
    record { place = a.2 ∙ (d.1 ∙ (last ∙ ap (λ (p : ℕ). placed (aligned (alignment k) (p + 4) + number_in i w32 p)) t.0)); within = rw (← t.0) t.1 }

pub dictionary_known : (deep : Bool) (below : Reader) (i : Input) (k v : Kind) (b : Bound) (at : ℕ) → is_read (after (dictionary_at deep below i k v b at)) ≡ true
    → Jumped (dictionary_at deep below i k v b at) b (aligned 8 (aligned 4 at + 4) + number_in i w32 (aligned 4 at))
dictionary_known deep below i k v b at h =
    let same : after (dictionary_at deep below i k v b at) ≡ after (array_at deep below i (entry_kind k v) b at) = ap after (dictionary_is deep below i k v b at) ∙ dictionary_forgotten k v (array_at deep below i (entry_kind k v) b at) in
    let t = array_known deep below i (entry_kind k v) b at (rw (← same) h) in
    record { place = same ∙ t.place; within = t.within }

-- structs
never_deep : (p : ℕ) (r : Result (Data × ℕ) Fault) → is_read (after (deep_at p r)) ≡ true → ⊥
never_deep p (Ok x) h = cc
never_deep p (Err f) h = by (nat_lt f.reason 20 && f.place == p) h
  where
    by : (t : Bool) → is_read (after {X = Data} (cond t (Err f) (bad p 20))) ≡ true → ⊥
    by true h = cc
    by false h = cc

pub record Entered (n : ℕ) (below : Reader) (i : Input) (ks : List Kind) (b : Bound) (at : ℕ) : Type 0 where
  pub some : n ≡ 0 → ⊥
  pub within : aligned 8 at ≤ b.end
  pub place : after (structure_at (n == 0) below i ks b at) ≡ after (fields_at (λ k q. below k b q) ks (aligned 8 at))

pub structure_known : (n : ℕ) (below : Reader) (i : Input) (ks : List Kind) (b : Bound) (at : ℕ) → is_read (after (structure_at (n == 0) below i ks b at)) ≡ true → Entered n below i ks b at
unfolding structure_at
structure_known n below i ks b at h =
    let a = bind_known (padding_at i 8 b at) (λ p. cond (n == 0) (deep_at p (single_at true below i (first_in ks) b p)) (fields_at (λ k q. below k b q) ks p >>= as_structure)) h in
    let t = padding_place i 8 b at a.0 a.1 in
    let g = by (n == 0) a.0 (rw (← a.2) h) in
    record {
      some = λ z. absurd (false≢true (sym g.0 ∙ ap (λ (m : ℕ). m == 0) z));
      within = rw (← t.0) t.1;
      place = a.2 ∙ (g.1 ∙ ap (λ (p : ℕ). after (fields_at (λ k q. below k b q) ks p)) t.0);
    }
  where
    by : (deep : Bool) (p : ℕ) → is_read (after (cond deep (deep_at p (single_at true below i (first_in ks) b p)) (fields_at (λ k q. below k b q) ks p >>= as_structure))) ≡ true
        → (deep ≡ false) × (after (cond deep (deep_at p (single_at true below i (first_in ks) b p)) (fields_at (λ k q. below k b q) ks p >>= as_structure)) ≡ after (fields_at (λ k q. below k b q) ks p))
    by true p h = absurd (never_deep p (single_at true below i (first_in ks) b p) h)
    by false p h = (refl, structure_forgotten (fields_at (λ k q. below k b q) ks p))

-- the first of some fields
pub field_known : (one : Kind → ℕ → Result (Data × ℕ) Fault) (k : Kind) (ks : List Kind) (at : ℕ) → is_read (after (fields_at one (k ∷ ks) at)) ≡ true → is_read (after (one k at)) ≡ true
field_known one k ks at h = by (one k at) h
  where
    by : (r : Result (Data × ℕ) Fault) → is_read (after (r >>= λ x. fields_at one ks x.1 >>= fields_first x.0)) ≡ true → is_read (after r) ≡ true
    by (Ok x) h = refl
    by (Err f) h = absurd cc

number_end : (i : Input) (n : Num) (b : Bound) (at : ℕ) → number_alignment n ≡ byte_len (width n) → is_read (after (number_at i n b at)) ≡ true → Jumped (number_at i n b at) b (aligned (number_alignment n) at + byte_len (width n))
number_end i n b at e h = rw (← e) (number_known i n b at e h)

same_width : (n : Num) → number_alignment n ≡ byte_len (width n)
same_width byte = refl
same_width i16 = refl
same_width u16 = refl
same_width i32 = refl
same_width u32 = refl
same_width i64 = refl
same_width u64 = refl
same_width double = refl

-- an item that is no struct and no variant ends where its front says
pub single_known : (deep : Bool) (below : Reader) (i : Input) (k : Kind) (b : Bound) (at : ℕ) → is_structure k ≡ false → is_variant k ≡ false → is_read (after (single_at deep below i k b at)) ≡ true
    → Jumped (single_at deep below i k b at) b (end_of i k (place_of k at))
unfolding single_at
single_known deep below i (number n) b at s j h = number_end i n b at (same_width n) h
single_known deep below i boolean b at s j h = boolean_known i b at h
single_known deep below i text b at s j h = long_known (text_body_at i) i b at (text_body_known i) h
single_known deep below i path b at s j h = long_known (path_body_at i) i b at (path_body_known i) h
single_known deep below i signature b at s j h = rw aligned-one (signature_known i b at h)
single_known deep below i (array k) b at s j h = array_known deep below i k b at h
single_known deep below i (structure ks) b at s j h = absurd cc
single_known deep below i variant b at s j h = absurd cc
single_known deep below i (dictionary k v) b at s j h = dictionary_known deep below i k v b at h

-- the same at any number of levels
pub read_known : (i : Input) (n : ℕ) (k : Kind) (b : Bound) (at : ℕ) → is_structure k ≡ false → is_variant k ≡ false → is_read (after (read i n k b at)) ≡ true → Jumped (read i n k b at) b (end_of i k (place_of k at))
read_known i n k b at s j h =
    let same : read i n k b at ≡ single_at (n == 0) (read i (n - 1)) i k b at = read_is i n k b at ∙ level_single (n == 0) (read i (n - 1)) i k b at s in
    let t = single_known (n == 0) (read i (n - 1)) i k b at s j (rw (← same) h) in
    record { place = rw same t.place; within = t.within }

-- a struct at any number of levels
pub read_entered : (i : Input) (n : ℕ) (ks : List Kind) (b : Bound) (at : ℕ) → is_read (after (read i n (structure (kinds_of ks)) b at)) ≡ true
    → (n ≡ 0 → ⊥) × (aligned 8 at ≤ b.end) × (after (read i n (structure (kinds_of ks)) b at) ≡ after (fields_at (λ k q. read i (n - 1) k b q) ks (aligned 8 at)))
unfolding level
read_entered i n ks b at h =
    let same : read i n (structure (kinds_of ks)) b at ≡ structure_at (n == 0) (read i (n - 1)) i ks b at = rw (read_is, types_in-kinds_of) refl in
    let t = structure_known n (read i (n - 1)) i ks b at (rw (← same) h) in
    (t.some, t.within, ap after same ∙ t.place)

aligned_le : (n at : ℕ) → at ≤ aligned n at
aligned_le n at = add_le at ((n - at % n) % n)
  where
    add_le : (a b : ℕ) → a ≤ a + b
    add_le a b = omega arith

pub ends_behind : (i : Input) (k : Kind) (at : ℕ) → at ≤ end_of i k (place_of k at)
ends_behind i (number n) at = omega (arith, aligned_le (number_alignment n) at)
ends_behind i boolean at = omega (arith, aligned_le 4 at)
ends_behind i text at = omega (arith, aligned_le 4 at)
ends_behind i path at = omega (arith, aligned_le 4 at)
ends_behind i signature at = omega (arith, aligned_le 1 at)
ends_behind i (array k) at = omega (arith, aligned_le 4 at, aligned_le (alignment k) (aligned 4 at + 4))
ends_behind i (structure ks) at = omega (arith, aligned_le 8 at)
ends_behind i variant at = omega (arith, aligned_le 1 at)
ends_behind i (dictionary k v) at = omega (arith, aligned_le 4 at, aligned_le 8 (aligned 4 at + 4))

pub record EnteredAt (i : Input) (n : ℕ) (k : Kind) (ks : List Kind) (b : Bound) (at p : ℕ) : Type 0 where
  pub some : 1 ≤ n
  pub within : p ≤ b.end
  pub place : after (read i n k b at) ≡ after (fields_at (λ j q. read i (n - 1) j b q) ks p)
  pub known : is_read (after (fields_at (λ j q. read i (n - 1) j b q) ks p)) ≡ true

pub entered : (i : Input) (n : ℕ) (k : Kind) (ks : List Kind) (b : Bound) (at p : ℕ) → k ≡ structure (kinds_of ks) → p ≡ aligned 8 at → is_read (after (read i n k b at)) ≡ true → EnteredAt i n k ks b at p
entered i n k ks b at p e f h =
    let same : after (read i n k b at) ≡ after (read i n (structure (kinds_of ks)) b at) = ap (λ (l : Kind). after (read i n l b at)) e in
    let t = read_entered i n ks b at (rw (← same) h) in
    let place : after (read i n k b at) ≡ after (fields_at (λ l q. read i (n - 1) l b q) ks p) = rw f (same ∙ t.2) in
    record {
      some = one n t.0;
      within = rw f t.1;
      place = place;
      known = rw (← place) h;
    }
  where
    one : (m : ℕ) → (m ≡ 0 → ⊥) → 1 ≤ m
    one zero h = absurd (h refl)
    one (suc m) h = omega arith

-- what begins with another code is no variant
pub not_variant : (k : Kind) (b : ℕ) → b ≡ head_code k → (b ≡ 118 → ⊥) → is_variant k ≡ false
not_variant (number n) b e h = refl
not_variant boolean b e h = refl
not_variant text b e h = refl
not_variant path b e h = refl
not_variant signature b e h = refl
not_variant (array k) b e h = refl
not_variant (structure ks) b e h = refl
not_variant variant b e h = absurd (h e)
not_variant (dictionary k v) b e h = refl

-- where what is jumped over ends
pub record Jumps (i : Input) (levels : ℕ) (k : Kind) (b : Bound) (at p : ℕ) : Type 0 where
  pub place : after (read i levels k b at) ≡ Ok p
  pub behind : at ≤ p
  pub within : p ≤ b.end

-- a number is jumped over by its size
pub jumps_number : (i : Input) (levels : ℕ) (k : Kind) (b : Bound) (at size : ℕ) → size ≡ number_len k → (size ≡ 0 → ⊥) → is_read (after (read i levels k b at)) ≡ true → Jumps i levels k b at (aligned size at + size)
jumps_number i levels k b at size e some h =
    let same = fixed_read i levels k b at size e some in
    let t = fixed_known i size b at (rw same h) in
    record { place = sym same ∙ t.0; behind = omega (arith, aligned_le size at); within = t.1 }

-- a text or a path is jumped over by its length
long_kind : (i : Input) (levels : ℕ) (k : Kind) (b : Bound) (at p : ℕ) → Jumped (read i levels k b at) b p → p ≡ aligned 4 at + 5 + number_in i w32 (aligned 4 at) → Jumps i levels k b at (aligned 4 at + 5 + number_in i w32 (aligned 4 at))
long_kind i levels k b at p j e = record { place = rw (← e) j.place; behind = omega (arith, aligned_le 4 at); within = omega (arith, e, j.within) }

pub jumps_text : (i : Input) (levels : ℕ) (k : Kind) (b : Bound) (at code : ℕ) → code ≡ 115 → Leaf code k → is_read (after (read i levels k b at)) ≡ true → Jumps i levels k b at (aligned 4 at + 5 + number_in i w32 (aligned 4 at))
jumps_text i levels k b at code e leaf h =
    let is = text_kind k code e leaf in
    let j = read_known i levels text b at refl refl (subst (λ (l : Kind). is_read (after (read i levels l b at)) ≡ true) is h) in
    subst (λ (l : Kind). Jumps i levels l b at (aligned 4 at + 5 + number_in i w32 (aligned 4 at))) (sym is) (long_kind i levels text b at (aligned 4 at + 5 + number_in i w32 (aligned 4 at)) j refl)

pub jumps_path : (i : Input) (levels : ℕ) (k : Kind) (b : Bound) (at code : ℕ) → code ≡ 111 → Leaf code k → is_read (after (read i levels k b at)) ≡ true → Jumps i levels k b at (aligned 4 at + 5 + number_in i w32 (aligned 4 at))
jumps_path i levels k b at code e leaf h =
    let is = path_kind k code e leaf in
    let j = read_known i levels path b at refl refl (subst (λ (l : Kind). is_read (after (read i levels l b at)) ≡ true) is h) in
    subst (λ (l : Kind). Jumps i levels l b at (aligned 4 at + 5 + number_in i w32 (aligned 4 at))) (sym is) (long_kind i levels path b at (aligned 4 at + 5 + number_in i w32 (aligned 4 at)) j refl)
