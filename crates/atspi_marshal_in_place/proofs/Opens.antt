-- Arrays, structs and texts that were read, opened.
use Rattle.std.proofs.Common.{◌≡◌, ℕ, zero, suc, ◌+◌, ◌-◌, ◌≤◌, ◌<◌, Bool, true, false, cond, List, [], ◌∷◌, length, map, Result, Ok, Err, IsUtf8, chars, refl, sym, ap, subst, ◌∙◌, arith}
use Rattle.std.specs.Prelude.{◌==◌, ◌&&◌, nat_lt}
use Rattle.std.specs.Int.{w32, byte_len}
use Rattle.std.proofs.lemmas.Bool.{lt-ltb}
use Rattle.std.proofs.lemmas.Str.{chars-encodes}
use Rattle.atspi_marshal_in_place.proofs.Passes.{pair_passes, variant_forgotten}
use Rattle.atspi_marshal_in_place.specs.Passing.{after}
use Rattle.atspi_base.specs.ReadsText.{text_in}
use Rattle.atspi_base.specs.Text.{HasNoZero}
use Rattle.atspi_base.proofs.TextLemmas.{text_is}
use Rattle.atspi_base.specs.declared.text.TextFault.{TextFault}
use Rattle.atspi_base.specs.declared.text.TextFault.TheVariants.{Zero, Utf8, NoMemory}
use Rattle.atspi_types.specs.Kinds.{Num, width, number_alignment, Kind, number, boolean, text, path, signature, array, structure, variant, dictionary, byte, kinds_of, alignment}
use Rattle.atspi_base.specs.valid_names.Names.{is_path}
use Rattle.atspi_types.specs.SignatureReading.{signature_in}
use Rattle.atspi_types.specs.Data.{Data, number_data, boolean_data, text_data, path_data, array_data, structure_data, variant_data, signature_data, dictionary_data, items_of}
use Rattle.atspi_types.specs.declared.fault.Fault.{Fault}
use Rattle.atspi_marshal.specs.declared.input.Bound.{Bound}
use Rattle.atspi_marshal.specs.Input.{Input, number_in, byte_in, slice_in, aligned}
use Rattle.atspi_marshal.specs.Faults.{entry_kind, inside, long_in, short_in}
use Rattle.atspi_marshal.specs.Reading.{◌>>=◌, bad, Reader, padding_at, room_at, number_at, boolean_at, text_with, text_body_at, path_body_at, long_place, long_at, put_first, elements_at, fields_first, struct_of, as_array, as_dictionary, entries_in, dictionary_body_at, dictionary_at, array_place, array_body_at, array_at, unless_deep, fields_at, as_structure, structure_at, single_at, first_in, deep_at, short_place, short_at, signature_with, signature_body_at, inner_at, as_variant, variant_with, variant_body_at, level, read}
use Rattle.atspi_marshal.proofs.ByteArrays.{bytes_elements, read_byte}
use Rattle.atspi_marshal.proofs.Places.{aligned-one}
use Rattle.atspi_marshal.proofs.Levels.{read_is, types_in-kinds_of}
use Rattle.atspi_marshal_in_place.specs.codes.Codes.{leaf_of, kinds_at, spells}
use Rattle.atspi_marshal_in_place.specs.Known.{is_read, read_data, read_list, read_fields}
use Rattle.atspi_marshal_in_place.proofs.Knows.{entered, padding_place, room_place, long_is, short_is, array_is}

bind_value : {A B : Type 0} (r : Result A Fault) (f : A → Result B Fault) → is_read (r >>= f) ≡ true → (x : A) × (r ≡ Ok x) × ((r >>= f) ≡ f x)
bind_value (Ok x) f h = (x, refl, refl)
bind_value (Err e) f h = absurd cc

not_deep : (n : ℕ) → (n == 0) ≡ false → 1 ≤ n
not_deep zero e = absurd cc
not_deep (suc n) e = omega arith

-- an array
abbrev pub ends_at : ℕ → Bound
ends_at end = record { end = end; reason = 18 }

pub record OpenedArray (i : Input) (n : ℕ) (k j : Kind) (b : Bound) (at m start : ℕ) : Type 0 where
  pub some : 1 ≤ n
  pub within : start + m ≤ b.end
  pub known : is_read (elements_at (read i (n - 1) j (ends_at (start + m))) (start + m) m start) ≡ true
  pub data_is : read_data (read i n k b at) ≡ array_data j (items_of (read_list (elements_at (read i (n - 1) j (ends_at (start + m))) (start + m) m start)))

as_array_known : (k : Kind) (end : ℕ) (r : Result (List Data) Fault) → is_read (r >>= as_array k end) ≡ true → (is_read r ≡ true) × (read_data (r >>= as_array k end) ≡ array_data k (items_of (read_list r)))
as_array_known k end (Ok ds) h = (refl, refl)
as_array_known k end (Err f) h = absurd cc

deep_value : (deep : Bool) (body : ℕ → Result (Data × ℕ) Fault) (p : ℕ) → is_read (unless_deep deep body p) ≡ true → (deep ≡ false) × (unless_deep deep body p ≡ body p)
deep_value true body p h = absurd cc
deep_value false body p h = (refl, refl)

body_opened : (below : Reader) (i : Input) (j : Kind) (p : ℕ) → is_read (array_body_at below i j p) ≡ true
    → (is_read (elements_at (below j (inside j p (number_in i w32 p))) (inside j p (number_in i w32 p)).end (number_in i w32 p) (aligned (alignment j) (p + 4))) ≡ true)
    × (read_data (array_body_at below i j p) ≡ array_data j (items_of (read_list (elements_at (below j (inside j p (number_in i w32 p))) (inside j p (number_in i w32 p)).end (number_in i w32 p) (aligned (alignment j) (p + 4))))))
unfolding array_body_at
body_opened below i j p h =
    let n = number_in i w32 p in
    let end = (inside j p n).end in
    let a = bind_value (padding_at i (alignment j) (inside j p n) (p + 4)) (λ s. elements_at (below j (inside j p n)) end n s >>= as_array j end) h in
    let t = padding_place i (alignment j) (inside j p n) (p + 4) a.0 a.1 in
    let o = as_array_known j end (elements_at (below j (inside j p n)) end n a.0) (rw (← a.2) h) in (
      subst (λ (s : ℕ). is_read (elements_at (below j (inside j p n)) end n s) ≡ true) t.0 o.0,
      subst (λ (s : ℕ). read_data (array_body_at below i j p) ≡ array_data j (items_of (read_list (elements_at (below j (inside j p n)) end n s)))) t.0 (ap read_data a.2 ∙ o.1),
    )

array_here : (i : Input) (n : ℕ) (j : Kind) (b : Bound) (at : ℕ) → is_read (read i n (array j) b at) ≡ true
    → OpenedArray i n (array j) j b at (number_in i w32 (aligned 4 at)) (aligned (alignment j) (aligned 4 at + 4))
unfolding level single_at array_at
array_here i n j b at h =
    let below = read i (n - 1) in
    let same : read i n (array j) b at ≡ array_at (n == 0) below i j b at = rw read_is refl in
    let a = bind_value (array_place i (alignment j) b at) (unless_deep (n == 0) (array_body_at below i j)) (rw (← same) h) in
    let t = array_is i (alignment j) b at a.0 a.1 in
    let d = deep_value (n == 0) (array_body_at below i j) a.0 (rw (← a.2, ← same) h) in
    let known : is_read (array_body_at below i j a.0) ≡ true = rw (← d.1, ← a.2, ← same) h in
    let o = body_opened below i j (aligned 4 at) (subst (λ (q : ℕ). is_read (array_body_at below i j q) ≡ true) t.0 known) in
    record {
      some = not_deep n d.0;
      within = subst (λ (q : ℕ). aligned (alignment j) (q + 4) + number_in i w32 q ≤ b.end) t.0 t.1;
      known = o.0;
      data_is = ap read_data (same ∙ (a.2 ∙ (d.1 ∙ ap (array_body_at below i j) t.0))) ∙ o.1;
    }

pub array_opened : (i : Input) (n : ℕ) (k j : Kind) (b : Bound) (at p m start : ℕ) → k ≡ array j → p ≡ aligned 4 at → m ≡ number_in i w32 p → start ≡ aligned (alignment j) (p + 4) → is_read (read i n k b at) ≡ true
    → OpenedArray i n k j b at m start
array_opened i n k j b at p m start e f g s h = rw (s, g, f, e) (array_here i n j b at (rw (← e) h))

-- a struct
pub record OpenedStruct (i : Input) (n : ℕ) (k : Kind) (ks : List Kind) (b : Bound) (at start : ℕ) : Type 0 where
  pub some : 1 ≤ n
  pub within : start ≤ b.end
  pub known : is_read (fields_at (λ j q. read i (n - 1) j b q) ks start) ≡ true
  pub data_is : read_data (read i n k b at) ≡ structure_data (items_of (read_fields (fields_at (λ j q. read i (n - 1) j b q) ks start)))

as_structure_known : (r : Result (List Data × ℕ) Fault) → is_read (r >>= as_structure) ≡ true → (is_read r ≡ true) × (read_data (r >>= as_structure) ≡ structure_data (items_of (read_fields r)))
as_structure_known (Ok x) h = (refl, refl)
as_structure_known (Err f) h = absurd cc

never_read : (p : ℕ) (r : Result (Data × ℕ) Fault) → is_read (deep_at p r) ≡ true → ⊥
never_read p (Ok x) h = cc
never_read p (Err f) h = by (nat_lt f.reason 20 && f.place == p) h
  where
    by : (t : Bool) → is_read {X = Data × ℕ} (cond t (Err f) (bad p 20)) ≡ true → ⊥
    by true h = cc
    by false h = cc

pub struct_opened : (i : Input) (n : ℕ) (k : Kind) (ks : List Kind) (b : Bound) (at start : ℕ) → k ≡ structure (kinds_of ks) → start ≡ aligned 8 at → is_read (read i n k b at) ≡ true → OpenedStruct i n k ks b at start
unfolding level structure_at
struct_opened i n k ks b at start e f h =
    let below = read i (n - 1) in
    let same : read i n k b at ≡ structure_at (n == 0) below i ks b at = rw (e, read_is, types_in-kinds_of) refl in
    let a = bind_value (padding_at i 8 b at) (λ p. cond (n == 0) (deep_at p (single_at true below i (first_in ks) b p)) (fields_at (λ j q. below j b q) ks p >>= as_structure)) (rw (← same) h) in
    let t = padding_place i 8 b at a.0 a.1 in
    let d = by (n == 0) a.0 (rw (← a.2, ← same) h) in
    let here : a.0 ≡ start = t.0 ∙ sym f in
    let o = as_structure_known (fields_at (λ j q. below j b q) ks a.0) (rw (← d.1, ← a.2, ← same) h) in
    record {
      some = not_deep n d.0;
      within = omega (arith, here, t.1);
      known = subst (λ (q : ℕ). is_read (fields_at (λ j q. below j b q) ks q) ≡ true) here o.0;
      data_is = subst (λ (q : ℕ). read_data (read i n k b at) ≡ structure_data (items_of (read_fields (fields_at (λ j q. below j b q) ks q)))) here (ap read_data (same ∙ (a.2 ∙ d.1)) ∙ o.1);
    }
  where
    by : (deep : Bool) (p : ℕ) → is_read (cond deep (deep_at p (single_at true (read i (n - 1)) i (first_in ks) b p)) (fields_at (λ j q. read i (n - 1) j b q) ks p >>= as_structure)) ≡ true
        → (deep ≡ false) × (cond deep (deep_at p (single_at true (read i (n - 1)) i (first_in ks) b p)) (fields_at (λ j q. read i (n - 1) j b q) ks p >>= as_structure) ≡ (fields_at (λ j q. read i (n - 1) j b q) ks p >>= as_structure))
    by true p h = absurd (never_read p (single_at true (read i (n - 1)) i (first_in ks) b p) h)
    by false p h = (refl, refl)

-- a text
pub record OpenedText (i : Input) (n : ℕ) (k : Kind) (b : Bound) (at p m : ℕ) : Type 0 where
  pub within : p + 5 + m ≤ b.end
  pub utf8 : IsUtf8 (long_in i p)
  pub no_zero : HasNoZero (long_in i p)
  pub data_is : read_data (read i n k b at) ≡ text_data (chars (long_in i p))

text_with_value : (i : Input) (p n : ℕ) (bytes : List ℕ) (r : Result (List ℕ) TextFault) → text_in bytes ≡ r → is_read (text_with i p n r) ≡ true → IsUtf8 bytes × HasNoZero bytes × (read_data (text_with i p n r) ≡ text_data (chars bytes))
text_with_value i p n bytes (Ok cs) e h =
    let t = text_is bytes cs e in
    ((cs, (t.1, t.0)), t.2, by (byte_in i (p + 4 + n) == 0) h ∙ ap text_data (sym (chars-encodes cs t.1) ∙ ap chars t.0))
  where
    by : (z : Bool) → is_read {X = Data × ℕ} (cond z (Ok (text_data cs, p + 4 + n + 1)) (bad (p + 4 + n) 12)) ≡ true → read_data (cond z (Ok (text_data cs, p + 4 + n + 1)) (bad (p + 4 + n) 12)) ≡ text_data cs
    by true h = refl
    by false h = absurd cc
text_with_value i p n bytes (Err (Zero z)) e h = absurd cc
text_with_value i p n bytes (Err (Utf8 z)) e h = absurd cc
text_with_value i p n bytes (Err NoMemory) e h = absurd cc

pub text_opened : (i : Input) (n : ℕ) (k : Kind) (b : Bound) (at p m : ℕ) → k ≡ text → p ≡ aligned 4 at → m ≡ number_in i w32 p → is_read (read i n k b at) ≡ true → OpenedText i n k b at p m
unfolding level single_at long_at text_body_at
text_opened i n k b at p m e f g h =
    let same : read i n k b at ≡ long_at (text_body_at i) i b at = rw (e, read_is) refl in
    let a = bind_value (long_place i b at) (text_body_at i) (rw (← same) h) in
    let t = long_is i b at a.0 a.1 in
    let here : a.0 ≡ p = t.0 ∙ sym f in
    let o = text_with_value i a.0 (number_in i w32 a.0) (long_in i a.0) (text_in (long_in i a.0)) refl (rw (← a.2, ← same) h) in
    record {
      within = rw g (subst (λ (q : ℕ). q + 5 + number_in i w32 q ≤ b.end) here t.1);
      utf8 = subst (λ (q : ℕ). IsUtf8 (long_in i q)) here o.0;
      no_zero = subst (λ (q : ℕ). HasNoZero (long_in i q)) here o.1;
      data_is = subst (λ (q : ℕ). read_data (read i n k b at) ≡ text_data (chars (long_in i q))) here (ap read_data (same ∙ a.2) ∙ o.2);
    }

-- a path
pub record OpenedPath (i : Input) (n : ℕ) (k : Kind) (b : Bound) (at p m : ℕ) : Type 0 where
  pub within : p + 5 + m ≤ b.end
  pub path_is : is_path (long_in i p) ≡ true
  pub data_is : read_data (read i n k b at) ≡ path_data (long_in i p)

path_value : (i : Input) (p : ℕ) → is_read (path_body_at i p) ≡ true → (is_path (long_in i p) ≡ true) × (read_data (path_body_at i p) ≡ path_data (long_in i p))
unfolding path_body_at
path_value i p h = by (is_path (long_in i p)) (byte_in i (p + 4 + number_in i w32 p) == 0) h
  where
    by : (t z : Bool) → is_read {X = Data × ℕ} (cond t (cond z (Ok (path_data (long_in i p), p + 4 + number_in i w32 p + 1)) (bad (p + 4 + number_in i w32 p) 12)) (bad p 15)) ≡ true
        → (t ≡ true) × (read_data (cond t (cond z (Ok (path_data (long_in i p), p + 4 + number_in i w32 p + 1)) (bad (p + 4 + number_in i w32 p) 12)) (bad p 15)) ≡ path_data (long_in i p))
    by true true h = (refl, refl)
    by true false h = absurd cc
    by false z h = absurd cc

pub path_opened : (i : Input) (n : ℕ) (k : Kind) (b : Bound) (at p m : ℕ) → k ≡ path → p ≡ aligned 4 at → m ≡ number_in i w32 p → is_read (read i n k b at) ≡ true → OpenedPath i n k b at p m
unfolding level single_at long_at
path_opened i n k b at p m e f g h =
    let same : read i n k b at ≡ long_at (path_body_at i) i b at = rw (e, read_is) refl in
    let a = bind_value (long_place i b at) (path_body_at i) (rw (← same) h) in
    let t = long_is i b at a.0 a.1 in
    let here : a.0 ≡ p = t.0 ∙ sym f in
    let o = path_value i a.0 (rw (← a.2, ← same) h) in
    record {
      within = rw g (subst (λ (q : ℕ). q + 5 + number_in i w32 q ≤ b.end) here t.1);
      path_is = subst (λ (q : ℕ). is_path (long_in i q) ≡ true) here o.0;
      data_is = subst (λ (q : ℕ). read_data (read i n k b at) ≡ path_data (long_in i q)) here (ap read_data (same ∙ a.2) ∙ o.1);
    }

-- a number
pub record OpenedNumber (i : Input) (levels : ℕ) (k : Kind) (n : Num) (b : Bound) (at p : ℕ) : Type 0 where
  pub within : p + byte_len (width n) ≤ b.end
  pub data_is : read_data (read i levels k b at) ≡ number_data n (number_in i (width n) p)

pub number_opened : (i : Input) (levels : ℕ) (k : Kind) (n : Num) (b : Bound) (at p : ℕ) → k ≡ number n → p ≡ aligned (number_alignment n) at → is_read (read i levels k b at) ≡ true → OpenedNumber i levels k n b at p
unfolding level single_at number_at
number_opened i levels k n b at p e f h =
    let same : read i levels k b at ≡ number_at i n b at = rw (e, read_is) refl in
    let a = bind_value (room_at i (number_alignment n) (byte_len (width n)) b at) (λ q. Ok (number_data n (number_in i (width n) q), q + byte_len (width n))) (rw (← same) h) in
    let t = room_place i (number_alignment n) (byte_len (width n)) b at a.0 a.1 in
    let here : a.0 ≡ p = t.0 ∙ sym f in
    record {
      within = omega (arith, here, t.1);
      data_is = subst (λ (q : ℕ). read_data (read i levels k b at) ≡ number_data n (number_in i (width n) q)) here (ap read_data (same ∙ a.2));
    }

-- a boolean
pub record OpenedBoolean (i : Input) (levels : ℕ) (k : Kind) (b : Bound) (at p : ℕ) : Type 0 where
  pub within : p + 4 ≤ b.end
  pub data_is : read_data (read i levels k b at) ≡ boolean_data (number_in i w32 p == 1)

boolean_value : (i : Input) (p : ℕ) → is_read {X = Data × ℕ} (cond (nat_lt 1 (number_in i w32 p)) (bad p 11) (Ok (boolean_data (number_in i w32 p == 1), p + 4))) ≡ true
    → read_data (cond (nat_lt 1 (number_in i w32 p)) (bad p 11) (Ok (boolean_data (number_in i w32 p == 1), p + 4))) ≡ boolean_data (number_in i w32 p == 1)
boolean_value i p h = by (nat_lt 1 (number_in i w32 p)) h
  where
    by : (t : Bool) → is_read {X = Data × ℕ} (cond t (bad p 11) (Ok (boolean_data (number_in i w32 p == 1), p + 4))) ≡ true → read_data (cond t (bad p 11) (Ok (boolean_data (number_in i w32 p == 1), p + 4))) ≡ boolean_data (number_in i w32 p == 1)
    by true h = absurd cc
    by false h = refl

pub boolean_opened : (i : Input) (levels : ℕ) (k : Kind) (b : Bound) (at p : ℕ) → k ≡ boolean → p ≡ aligned 4 at → is_read (read i levels k b at) ≡ true → OpenedBoolean i levels k b at p
unfolding level single_at boolean_at
boolean_opened i levels k b at p e f h =
    let same : read i levels k b at ≡ boolean_at i b at = rw (e, read_is) refl in
    let a = bind_value (room_at i 4 4 b at) (λ q. cond (nat_lt 1 (number_in i w32 q)) (bad q 11) (Ok (boolean_data (number_in i w32 q == 1), q + 4))) (rw (← same) h) in
    let t = room_place i 4 4 b at a.0 a.1 in
    let here : a.0 ≡ p = t.0 ∙ sym f in
    let v = boolean_value i a.0 (rw (← a.2, ← same) h) in
    record {
      within = omega (arith, here, t.1);
      data_is = subst (λ (q : ℕ). read_data (read i levels k b at) ≡ boolean_data (number_in i w32 q == 1)) here (ap read_data (same ∙ a.2) ∙ v);
    }

-- the characters of a text that was read
pub text_chars : (bytes cs : List ℕ) → text_in bytes ≡ Ok cs → cs ≡ chars bytes
text_chars bytes cs e = let t = text_is bytes cs e in sym (chars-encodes cs t.1) ∙ ap chars t.0

-- a type of one code is told by it
pub leaf_kind : (k : Kind) (b m : ℕ) → b ≡ m → (m ≡ 97 → ⊥) → (m ≡ 40 → ⊥) → ((b ≡ 97 → ⊥) → (b ≡ 40 → ⊥) → k ≡ leaf_of b) → k ≡ leaf_of m
leaf_kind k b m e a s h = subst (λ (n : ℕ). k ≡ leaf_of n) e (h (λ q. a (sym e ∙ q)) (λ q. s (sym e ∙ q)))

abbrev ok_types : List Kind → Result (List Kind) Fault
ok_types ks = Ok ks

-- a variant: its signature is that of one type, and its value stands behind it
pub record OpenedVariant (i : Input) (n : ℕ) (k j : Kind) (b : Bound) (at : ℕ) : Type 0 where
  pub some : 1 ≤ n
  pub within : at + 2 + byte_in i at ≤ b.end
  pub known : is_read (read i (n - 1) j b (at + 2 + byte_in i at)) ≡ true
  pub place : after (read i n k b at) ≡ after (read i (n - 1) j b (at + 2 + byte_in i at))
  pub data_is : read_data (read i n k b at) ≡ variant_data j (read_data (read i (n - 1) j b (at + 2 + byte_in i at)))

-- and which type that is
pub record VariantType (i : Input) (n : ℕ) (k : Kind) (b : Bound) (at : ℕ) : Type 0 where
  pub inner : Kind
  pub spelled : signature_in (short_in i at) ≡ Ok (inner ∷ [])
  pub opened : OpenedVariant i n k inner b at

record InnerValue (deep : Bool) (below : Reader) (i : Input) (b : Bound) (p : ℕ) (k : Kind) : Type 0 where
  pub shallow : deep ≡ false
  pub known : is_read (below k b (p + 2 + byte_in i p)) ≡ true
  pub place : after (inner_at deep below i b p k) ≡ after (below k b (p + 2 + byte_in i p))
  pub data_is : read_data (inner_at deep below i b p k) ≡ variant_data k (read_data (below k b (p + 2 + byte_in i p)))

variant_value : (k : Kind) (r : Result (Data × ℕ) Fault) → is_read (r >>= as_variant k) ≡ true → (is_read r ≡ true) × (read_data (r >>= as_variant k) ≡ variant_data k (read_data r))
variant_value k (Ok x) h = (refl, refl)
variant_value k (Err f) h = absurd cc

inner_value : (deep : Bool) (below : Reader) (i : Input) (b : Bound) (p : ℕ) (k : Kind) → is_read (inner_at deep below i b p k) ≡ true → InnerValue deep below i b p k
unfolding inner_at
inner_value true below i b p k h = absurd cc
inner_value false below i b p k h = by (byte_in i (p + 1 + byte_in i p) == 0) refl h
  where
    by : (z : Bool) → (byte_in i (p + 1 + byte_in i p) == 0) ≡ z → is_read (cond z (below k b (p + 2 + byte_in i p) >>= as_variant k) (bad (p + 1 + byte_in i p) 12)) ≡ true → InnerValue false below i b p k
    by true e h =
        let v = variant_value k (below k b (p + 2 + byte_in i p)) h in
        record { shallow = refl; known = v.0; place = rw e (variant_forgotten k (below k b (p + 2 + byte_in i p))); data_is = rw e v.1 }
    by false e h = absurd cc

record OneTyped (deep : Bool) (below : Reader) (i : Input) (b : Bound) (p : ℕ) (r : Result (List Kind) Fault) : Type 0 where
  pub inner : Kind
  pub spelled : r ≡ Ok (inner ∷ [])
  pub value : InnerValue deep below i b p inner
  pub same : variant_with deep below i b p r ≡ inner_at deep below i b p inner

one_typed : (deep : Bool) (below : Reader) (i : Input) (b : Bound) (p : ℕ) (r : Result (List Kind) Fault) → is_read (variant_with deep below i b p r) ≡ true → OneTyped deep below i b p r
one_typed deep below i b p (Ok []) h = absurd cc
one_typed deep below i b p (Ok (k ∷ [])) h = record { inner = k; spelled = refl; value = inner_value deep below i b p k h; same = refl }
one_typed deep below i b p (Ok (k ∷ j ∷ ks)) h = absurd cc
one_typed true below i b p (Err f) h = absurd cc
one_typed false below i b p (Err f) h = absurd cc

variant_here : (i : Input) (n : ℕ) (b : Bound) (at : ℕ) → is_read (read i n variant b at) ≡ true → VariantType i n variant b at
unfolding level single_at short_at variant_body_at
variant_here i n b at h =
    let below = read i (n - 1) in
    let same : read i n variant b at ≡ short_at (variant_body_at (n == 0) below i b) i b at = rw read_is refl in
    let a = bind_value (short_place i b at) (variant_body_at (n == 0) below i b) (rw (← same) h) in
    let t = short_is i b at a.0 a.1 in
    let here : is_read (variant_body_at (n == 0) below i b at) ≡ true = subst (λ (q : ℕ). is_read (variant_body_at (n == 0) below i b q) ≡ true) t.0 (rw (← a.2, ← same) h) in
    let o = one_typed (n == 0) below i b at (signature_in (short_in i at)) here in
    let read_here : read i n variant b at ≡ inner_at (n == 0) below i b at o.inner = same ∙ (a.2 ∙ (ap (variant_body_at (n == 0) below i b) t.0 ∙ o.same)) in
    record {
      inner = o.inner;
      spelled = o.spelled;
      opened = record {
        some = not_deep n o.value.shallow;
        within = subst (λ (q : ℕ). q + 2 + byte_in i q ≤ b.end) t.0 t.1;
        known = o.value.known;
        place = ap after read_here ∙ o.value.place;
        data_is = ap read_data read_here ∙ o.value.data_is;
      };
    }

pub variant_type : (i : Input) (n : ℕ) (k : Kind) (b : Bound) (at : ℕ) → k ≡ variant → is_read (read i n k b at) ≡ true → VariantType i n k b at
variant_type i n k b at e h = subst (λ (l : Kind). VariantType i n l b at) (sym e) (variant_here i n b at (rw (← e) h))

pub variant_opened : (i : Input) (n : ℕ) (k j : Kind) (b : Bound) (at : ℕ) → k ≡ variant → signature_in (short_in i at) ≡ Ok (j ∷ []) → is_read (read i n k b at) ≡ true → OpenedVariant i n k j b at
variant_opened i n k j b at e s h =
    let t = variant_type i n k b at e h in
    let is : t.inner ≡ j = only (sym t.spelled ∙ s) in
    subst (λ (l : Kind). OpenedVariant i n k l b at) is t.opened
  where
    only : {x y : Kind} → ok_types (x ∷ []) ≡ ok_types (y ∷ []) → x ≡ y
    only q = cc

-- codes that were read as one type
pub typed_once : (codes : List ℕ) (k : Kind) → signature_in codes ≡ Ok (k ∷ []) → length (kinds_at codes) ≡ 1
typed_once codes k e = rw e refl

-- the code of variants tells no other type
pub variant_kind : (k : Kind) (b : ℕ) → b ≡ 118 → ((b ≡ 97 → ⊥) → (b ≡ 40 → ⊥) → k ≡ leaf_of b) → k ≡ variant
variant_kind k b e h = leaf_kind k b 118 e (λ q. absurd (omega (arith, q))) (λ q. absurd (omega (arith, q))) h

-- the same of a variant of which the place behind it alone is known
whole_known : {X : Type 0} (r : Result (X × ℕ) Fault) → is_read (after r) ≡ true → is_read r ≡ true
whole_known (Ok x) h = refl
whole_known (Err f) h = absurd cc

place_known : {X : Type 0} (r : Result (X × ℕ) Fault) → is_read r ≡ true → is_read (after r) ≡ true
place_known (Ok x) h = refl
place_known (Err f) h = absurd cc

pub variant_passed : (i : Input) (n : ℕ) (b : Bound) (at : ℕ) → is_read (after (read i n variant b at)) ≡ true → VariantType i n variant b at
variant_passed i n b at h = variant_here i n b at (whole_known (read i n variant b at) h)

pub record PassedVariant (i : Input) (n : ℕ) (j : Kind) (b : Bound) (at : ℕ) : Type 0 where
  pub some : 1 ≤ n
  pub within : at + 2 + byte_in i at ≤ b.end
  pub passed : is_read (after (read i (n - 1) j b (at + 2 + byte_in i at))) ≡ true
  pub place : after (read i n variant b at) ≡ after (read i (n - 1) j b (at + 2 + byte_in i at))

pub variant_passed_as : (i : Input) (n : ℕ) (j : Kind) (b : Bound) (at : ℕ) → signature_in (short_in i at) ≡ Ok (j ∷ []) → is_read (after (read i n variant b at)) ≡ true → PassedVariant i n j b at
variant_passed_as i n j b at s h =
    let o = variant_opened i n variant j b at refl s (whole_known (read i n variant b at) h) in
    record { some = o.some; within = o.within; passed = place_known (read i (n - 1) j b (at + 2 + byte_in i at)) o.known; place = o.place }

-- a signature
pub record OpenedSignature (i : Input) (n : ℕ) (k : Kind) (b : Bound) (at : ℕ) : Type 0 where
  pub within : at + 2 + byte_in i at ≤ b.end
  pub kinds : List Kind
  pub spelled : signature_in (short_in i at) ≡ Ok kinds
  pub data_is : read_data (read i n k b at) ≡ signature_data (kinds_of kinds)

record SpelledTypes (i : Input) (p : ℕ) (r : Result (List Kind) Fault) : Type 0 where
  pub kinds : List Kind
  pub spelled : r ≡ Ok kinds
  pub data_is : read_data (signature_with i p r) ≡ signature_data (kinds_of kinds)

spelled_types : (i : Input) (p : ℕ) (r : Result (List Kind) Fault) → is_read (signature_with i p r) ≡ true → SpelledTypes i p r
spelled_types i p (Err f) h = absurd cc
spelled_types i p (Ok ks) h = record { kinds = ks; spelled = refl; data_is = by (byte_in i (p + 1 + byte_in i p) == 0) h }
  where
    by : (z : Bool) → is_read {X = Data × ℕ} (cond z (Ok (signature_data (kinds_of ks), p + 1 + byte_in i p + 1)) (bad (p + 1 + byte_in i p) 12)) ≡ true
        → read_data (cond z (Ok (signature_data (kinds_of ks), p + 1 + byte_in i p + 1)) (bad (p + 1 + byte_in i p) 12)) ≡ signature_data (kinds_of ks)
    by true h = refl
    by false h = absurd cc

signature_here : (i : Input) (n : ℕ) (b : Bound) (at : ℕ) → is_read (read i n signature b at) ≡ true → OpenedSignature i n signature b at
unfolding level single_at short_at signature_body_at
signature_here i n b at h =
    let same : read i n signature b at ≡ short_at (signature_body_at i) i b at = rw read_is refl in
    let a = bind_value (short_place i b at) (signature_body_at i) (rw (← same) h) in
    let t = short_is i b at a.0 a.1 in
    let here : is_read (signature_body_at i at) ≡ true = subst (λ (q : ℕ). is_read (signature_body_at i q) ≡ true) t.0 (rw (← a.2, ← same) h) in
    let o = spelled_types i at (signature_in (short_in i at)) here in
    record {
      within = subst (λ (q : ℕ). q + 2 + byte_in i q ≤ b.end) t.0 t.1;
      kinds = o.kinds;
      spelled = o.spelled;
      data_is = ap read_data (same ∙ (a.2 ∙ ap (signature_body_at i) t.0)) ∙ o.data_is;
    }

pub signature_opened : (i : Input) (n : ℕ) (k : Kind) (b : Bound) (at : ℕ) → k ≡ signature → is_read (read i n k b at) ≡ true → OpenedSignature i n k b at
signature_opened i n k b at e h = subst (λ (l : Kind). OpenedSignature i n l b at) (sym e) (signature_here i n b at (rw (← e) h))

pub signature_types : (i : Input) (n : ℕ) (k : Kind) (b : Bound) (at : ℕ) (ks : List Kind) → k ≡ signature → is_read (read i n k b at) ≡ true → signature_in (short_in i at) ≡ Ok ks → read_data (read i n k b at) ≡ signature_data (kinds_of ks)
signature_types i n k b at ks e h s =
    let o = signature_opened i n k b at e h in
    let is : o.kinds ≡ ks = only (sym o.spelled ∙ s) in
    o.data_is ∙ ap (λ (js : List Kind). signature_data (kinds_of js)) is
  where
    only : {x y : List Kind} → ok_types x ≡ ok_types y → x ≡ y
    only q = cc

pub signature_spelled : (i : Input) (n : ℕ) (k : Kind) (b : Bound) (at : ℕ) → k ≡ signature → is_read (read i n k b at) ≡ true → spells (short_in i at) ≡ true
signature_spelled i n k b at e h =
    let o = signature_opened i n k b at e h in
    rw o.spelled refl

-- an array of bytes is a slice
pub bytes_opened : (i : Input) (n : ℕ) (k : Kind) (b : Bound) (at p m : ℕ) → k ≡ array (number byte) → p ≡ aligned 4 at → m ≡ number_in i w32 p → b.end ≤ length i.bytes → is_read (read i n k b at) ≡ true
    → (p + 4 + m ≤ b.end) × (read_data (read i n k b at) ≡ array_data (number byte) (items_of (map (number_data byte) (slice_in i (p + 4) m))))
bytes_opened i n k b at p m e f g long h =
    let start = p + 4 in
    let o = array_opened i n k (number byte) b at p m start e f g (sym (aligned-one start)) h in
    let all = bytes_elements i (ends_at (start + m)) (read i (n - 1) (number byte) (ends_at (start + m))) (read_byte i (n - 1) (ends_at (start + m))) m start (omega arith) (omega (arith, o.within, long)) (omega arith) in
    let len : start + m - start ≡ m = omega arith in
    (o.within, o.data_is ∙ (ap (λ (r : Result (List Data) Fault). array_data (number byte) (items_of (read_list r))) all ∙ ap (λ (l : ℕ). array_data (number byte) (items_of (map (number_data byte) (slice_in i start l)))) len))

-- the first of some elements, and those behind it
pub element_known : (one : ℕ → Result (Data × ℕ) Fault) (end left at : ℕ) → (left ≡ 0 → ⊥) → at < end → is_read (elements_at one end left at) ≡ true → is_read (one at) ≡ true
element_known one end zero at some lt h = absurd (some refl)
element_known one end (suc left) at some lt h = by (one at) (rw (lt-ltb at end lt) at h)
  where
    by : (r : Result (Data × ℕ) Fault) → is_read (r >>= λ x. elements_at one end left x.1 >>= put_first x.0) ≡ true → is_read r ≡ true
    by (Ok x) h = refl
    by (Err f) h = absurd cc

pub record Come (one : ℕ → Result (Data × ℕ) Fault) (end left at next : ℕ) : Type 0 where
  pub known : is_read (elements_at one end (left - 1) next) ≡ true
  pub data_is : read_list (elements_at one end left at) ≡ read_data (one at) ∷ read_list (elements_at one end (left - 1) next)

put_known : (d : Data) (r : Result (List Data) Fault) → is_read (r >>= put_first d) ≡ true → (is_read r ≡ true) × (read_list (r >>= put_first d) ≡ d ∷ read_list r)
put_known d (Ok ds) h = (refl, refl)
put_known d (Err f) h = absurd cc

pub elements_come : (one : ℕ → Result (Data × ℕ) Fault) (end left at next : ℕ) → (left ≡ 0 → ⊥) → at < end → is_read (elements_at one end left at) ≡ true → after (one at) ≡ Ok next → Come one end left at next
elements_come one end zero at next some lt h e = absurd (some refl)
elements_come one end (suc left) at next some lt h e =
    let less : suc left - 1 ≡ left = omega arith in
    let t = by (one at) (rw (lt-ltb at end lt) at h) e in
    record { known = rw less t.0; data_is = rw (less, lt-ltb at end lt) t.1 }
  where
    by : (r : Result (Data × ℕ) Fault) → is_read (r >>= λ x. elements_at one end left x.1 >>= put_first x.0) ≡ true → after r ≡ Ok next
        → (is_read (elements_at one end left next) ≡ true) × (read_list (r >>= λ x. elements_at one end left x.1 >>= put_first x.0) ≡ read_data r ∷ read_list (elements_at one end left next))
    by (Err f) h e = absurd cc
    by (Ok x) h e =
        let is : x.1 ≡ next = cc in
        let t = put_known x.0 (elements_at one end left x.1) h in (
          subst (λ (q : ℕ). is_read (elements_at one end left q) ≡ true) is t.0,
          subst (λ (q : ℕ). read_list (elements_at one end left x.1 >>= put_first x.0) ≡ x.0 ∷ read_list (elements_at one end left q)) is t.1,
        )

-- an entry: a key, and a value behind it
pub record OpenedKey (i : Input) (n : ℕ) (k v : Kind) (b : Bound) (p : ℕ) : Type 0 where
  pub some : 1 ≤ n
  pub within : p ≤ b.end
  pub known : is_read (read i (n - 1) k b p) ≡ true

first_known : (one : Kind → ℕ → Result (Data × ℕ) Fault) (k : Kind) (ks : List Kind) (p : ℕ) → is_read (fields_at one (k ∷ ks) p) ≡ true → is_read (one k p) ≡ true
first_known one k ks p h = by (one k p) h
  where
    by : (r : Result (Data × ℕ) Fault) → is_read (r >>= λ x. fields_at one ks x.1 >>= fields_first x.0) ≡ true → is_read r ≡ true
    by (Ok x) h = refl
    by (Err f) h = absurd cc

pub key_opened : (i : Input) (n : ℕ) (k v : Kind) (b : Bound) (at p : ℕ) → p ≡ aligned 8 at → is_read (read i n (entry_kind k v) b at) ≡ true → OpenedKey i n k v b p
key_opened i n k v b at p e h =
    let o = struct_opened i n (entry_kind k v) (k ∷ v ∷ []) b at p refl e h in
    record { some = o.some; within = o.within; known = first_known (λ j q. read i (n - 1) j b q) k (v ∷ []) p o.known }

pub record OpenedPair (i : Input) (n : ℕ) (k v : Kind) (b : Bound) (at p q : ℕ) : Type 0 where
  pub known : is_read (read i (n - 1) v b q) ≡ true
  pub place : after (read i n (entry_kind k v) b at) ≡ after (read i (n - 1) v b q)
  pub data_is : read_data (read i n (entry_kind k v) b at) ≡ struct_of (read_data (read i (n - 1) k b p)) (read_data (read i (n - 1) v b q))

last_known : (d : Data) (r : Result (Data × ℕ) Fault) → is_read ((r >>= λ y. fields_first y.0 ([], y.1)) >>= fields_first d) ≡ true
    → (is_read r ≡ true) × (read_fields ((r >>= λ y. fields_first y.0 ([], y.1)) >>= fields_first d) ≡ d ∷ read_data r ∷ [])
last_known d (Ok y) h = (refl, refl)
last_known d (Err f) h = absurd cc

pair_known : (one : Kind → ℕ → Result (Data × ℕ) Fault) (k v : Kind) (p q : ℕ) → is_read (fields_at one (k ∷ v ∷ []) p) ≡ true → after (one k p) ≡ Ok q
    → (is_read (one v q) ≡ true) × (read_fields (fields_at one (k ∷ v ∷ []) p) ≡ read_data (one k p) ∷ read_data (one v q) ∷ [])
pair_known one k v p q h e = by (one k p) h e
  where
    by : (r : Result (Data × ℕ) Fault) → is_read (r >>= λ x. (one v x.1 >>= λ y. fields_first y.0 ([], y.1)) >>= fields_first x.0) ≡ true → after r ≡ Ok q
        → (is_read (one v q) ≡ true) × (read_fields (r >>= λ x. (one v x.1 >>= λ y. fields_first y.0 ([], y.1)) >>= fields_first x.0) ≡ read_data r ∷ read_data (one v q) ∷ [])
    by (Err f) h e = absurd cc
    by (Ok x) h e =
        let is : x.1 ≡ q = cc in
        let t = last_known x.0 (one v x.1) h in (
          subst (λ (s : ℕ). is_read (one v s) ≡ true) is t.0,
          subst (λ (s : ℕ). read_fields ((one v x.1 >>= λ y. fields_first y.0 ([], y.1)) >>= fields_first x.0) ≡ x.0 ∷ read_data (one v s) ∷ []) is t.1,
        )

pub pair_opened : (i : Input) (n : ℕ) (k v : Kind) (b : Bound) (at p q : ℕ) → p ≡ aligned 8 at → is_read (read i n (entry_kind k v) b at) ≡ true → after (read i (n - 1) k b p) ≡ Ok q → OpenedPair i n k v b at p q
pair_opened i n k v b at p q e h first =
    let one = λ (j : Kind) (s : ℕ). read i (n - 1) j b s in
    let o = struct_opened i n (entry_kind k v) (k ∷ v ∷ []) b at p refl e h in
    let t = pair_known one k v p q o.known first in
    let g = entered i n (entry_kind k v) (k ∷ v ∷ []) b at p refl e (known_after (read i n (entry_kind k v) b at) h) in
    record {
      known = t.0;
      place = g.place ∙ pair_passes one k v p q first;
      data_is = o.data_is ∙ ap (λ (ds : List Data). structure_data (items_of ds)) t.1;
    }
  where
    known_after : (r : Result (Data × ℕ) Fault) → is_read r ≡ true → is_read (after r) ≡ true
    known_after (Ok x) h = refl
    known_after (Err f) h = absurd cc

-- a dictionary is an array of entries
dictionary_value : (k v : Kind) (end : ℕ) (r : Result (List Data) Fault) → is_read ((r >>= as_array (entry_kind k v) end) >>= as_dictionary k v) ≡ true
    → (is_read r ≡ true) × (read_data ((r >>= as_array (entry_kind k v) end) >>= as_dictionary k v) ≡ dictionary_data k v (entries_in (items_of (read_list r))))
dictionary_value k v end (Ok ds) h = (refl, refl)
dictionary_value k v end (Err f) h = absurd cc

entries_opened : (below : Reader) (i : Input) (k v : Kind) (p : ℕ) → is_read (dictionary_body_at below i k v p) ≡ true
    → (is_read (elements_at (below (entry_kind k v) (inside (entry_kind k v) p (number_in i w32 p))) (inside (entry_kind k v) p (number_in i w32 p)).end (number_in i w32 p) (aligned 8 (p + 4))) ≡ true)
    × (read_data (dictionary_body_at below i k v p) ≡ dictionary_data k v (entries_in (items_of (read_list (elements_at (below (entry_kind k v) (inside (entry_kind k v) p (number_in i w32 p))) (inside (entry_kind k v) p (number_in i w32 p)).end (number_in i w32 p) (aligned 8 (p + 4)))))))
unfolding array_body_at
entries_opened below i k v p h =
    let j = entry_kind k v in
    let n = number_in i w32 p in
    let end = (inside j p n).end in
    by j n end (padding_at i 8 (inside j p n) (p + 4)) refl h
  where
    by : (j : Kind) (n end : ℕ) (r : Result ℕ Fault) → padding_at i 8 (inside (entry_kind k v) p (number_in i w32 p)) (p + 4) ≡ r
        → is_read ((r >>= λ s. elements_at (below (entry_kind k v) (inside (entry_kind k v) p (number_in i w32 p))) (inside (entry_kind k v) p (number_in i w32 p)).end (number_in i w32 p) s >>= as_array (entry_kind k v) (inside (entry_kind k v) p (number_in i w32 p)).end) >>= as_dictionary k v) ≡ true
        → (is_read (elements_at (below (entry_kind k v) (inside (entry_kind k v) p (number_in i w32 p))) (inside (entry_kind k v) p (number_in i w32 p)).end (number_in i w32 p) (aligned 8 (p + 4))) ≡ true)
        × (read_data ((r >>= λ s. elements_at (below (entry_kind k v) (inside (entry_kind k v) p (number_in i w32 p))) (inside (entry_kind k v) p (number_in i w32 p)).end (number_in i w32 p) s >>= as_array (entry_kind k v) (inside (entry_kind k v) p (number_in i w32 p)).end) >>= as_dictionary k v)
        ≡ dictionary_data k v (entries_in (items_of (read_list (elements_at (below (entry_kind k v) (inside (entry_kind k v) p (number_in i w32 p))) (inside (entry_kind k v) p (number_in i w32 p)).end (number_in i w32 p) (aligned 8 (p + 4)))))))
    by j n end (Err f) e h = absurd cc
    by j n end (Ok s) e h =
        let t = padding_place i 8 (inside (entry_kind k v) p (number_in i w32 p)) (p + 4) s e in
        let o = dictionary_value k v (inside (entry_kind k v) p (number_in i w32 p)).end (elements_at (below (entry_kind k v) (inside (entry_kind k v) p (number_in i w32 p))) (inside (entry_kind k v) p (number_in i w32 p)).end (number_in i w32 p) s) h in
        (subst (λ (q : ℕ). is_read (elements_at (below (entry_kind k v) (inside (entry_kind k v) p (number_in i w32 p))) (inside (entry_kind k v) p (number_in i w32 p)).end (number_in i w32 p) q) ≡ true) t.0 o.0, o.1 ∙ ap (λ (q : ℕ). dictionary_data k v (entries_in (items_of (read_list (elements_at (below (entry_kind k v) (inside (entry_kind k v) p (number_in i w32 p))) (inside (entry_kind k v) p (number_in i w32 p)).end (number_in i w32 p) q))))) t.0)

pub record OpenedDictionary (i : Input) (n : ℕ) (d k v : Kind) (b : Bound) (at m start : ℕ) : Type 0 where
  pub some : 1 ≤ n
  pub within : start + m ≤ b.end
  pub known : is_read (elements_at (read i (n - 1) (entry_kind k v) (ends_at (start + m))) (start + m) m start) ≡ true
  pub data_is : read_data (read i n d b at) ≡ dictionary_data k v (entries_in (items_of (read_list (elements_at (read i (n - 1) (entry_kind k v) (ends_at (start + m))) (start + m) m start))))

dictionary_here : (i : Input) (n : ℕ) (k v : Kind) (b : Bound) (at : ℕ) → is_read (read i n (dictionary k v) b at) ≡ true
    → OpenedDictionary i n (dictionary k v) k v b at (number_in i w32 (aligned 4 at)) (aligned 8 (aligned 4 at + 4))
unfolding level single_at dictionary_at
dictionary_here i n k v b at h =
    let below = read i (n - 1) in
    let same : read i n (dictionary k v) b at ≡ dictionary_at (n == 0) below i k v b at = rw read_is refl in
    let a = bind_value (array_place i 8 b at) (unless_deep (n == 0) (dictionary_body_at below i k v)) (rw (← same) h) in
    let t = array_is i 8 b at a.0 a.1 in
    let d = deep_value (n == 0) (dictionary_body_at below i k v) a.0 (rw (← a.2, ← same) h) in
    let known : is_read (dictionary_body_at below i k v a.0) ≡ true = rw (← d.1, ← a.2, ← same) h in
    let o = entries_opened below i k v (aligned 4 at) (subst (λ (q : ℕ). is_read (dictionary_body_at below i k v q) ≡ true) t.0 known) in
    record {
      some = not_deep n d.0;
      within = subst (λ (q : ℕ). aligned 8 (q + 4) + number_in i w32 q ≤ b.end) t.0 t.1;
      known = o.0;
      data_is = ap read_data (same ∙ (a.2 ∙ (d.1 ∙ ap (dictionary_body_at below i k v) t.0))) ∙ o.1;
    }

pub dictionary_opened : (i : Input) (n : ℕ) (d k v : Kind) (b : Bound) (at p m start : ℕ) → d ≡ dictionary k v → p ≡ aligned 4 at → m ≡ number_in i w32 p → start ≡ aligned 8 (p + 4) → is_read (read i n d b at) ≡ true
    → OpenedDictionary i n d k v b at m start
dictionary_opened i n d k v b at p m start e f g s h = rw (s, g, f, e) (dictionary_here i n k v b at (rw (← e) h))
