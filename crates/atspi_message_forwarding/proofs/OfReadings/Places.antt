-- How a value is spelled depends on its place only modulo 8.
use Rattle.std.proofs.Common.{◌≡◌, ℕ, zero, suc, ◌+◌, ◌-◌, List, [], ◌∷◌, ◌++◌, length, refl, ap, subst, ◌∙◌, arith, encode_utf8_all}
use Rattle.std.specs.Prelude.{if◌then◌else◌}
use Rattle.std.specs.Int.{w32}
use Rattle.atspi_types.specs.Kinds.{Num, byte, i16, u16, i32, u32, i64, u64, double, width, number_alignment, Kind, number, boolean, text, path, signature, array, structure, variant, dictionary, Kinds, no_kinds, kind, alignment}
use Rattle.atspi_types.specs.Signatures.{signature_bytes}
use Rattle.atspi_types.specs.Data.{Data, number_data, boolean_data, text_data, path_data, signature_data, array_data, structure_data, dictionary_data, variant_data, Items, no_items, item, Entries, no_entries, entry}
use Rattle.atspi_types.specs.declared.fault.Order.{Order}
use Rattle.atspi_marshal.specs.Input.{number_bytes, aligned}
use Rattle.atspi_marshal.specs.Spelling.{zeros, padding, counted, start_of, array_spelling, single, spelling, spellings, entry_spellings, IsShort, Fits, AllFit, FieldsFit, EntriesFit}
use Rattle.atspi_message_forwarding.specs.readings.Readings.{StandAlike}

-- padding from places that stand alike is as long, and ends at places that stand alike
record PadAlike (n a b : ℕ) : Type 0 where
  pub long : aligned n a - a ≡ aligned n b - b
  pub ends : StandAlike (aligned n a) (aligned n b)

ones : (a b : ℕ) → StandAlike a b → PadAlike 1 a b
ones a b s = record { long = omega arith; ends = omega arith }

twos : (a b : ℕ) → StandAlike a b → PadAlike 2 a b
twos a b s = record { long = omega arith; ends = omega arith }

fours : (a b : ℕ) → StandAlike a b → PadAlike 4 a b
fours a b s = record { long = omega arith; ends = omega arith }

eights : (a b : ℕ) → StandAlike a b → PadAlike 8 a b
eights a b s = record { long = omega arith; ends = omega arith }

of_number : (n : Num) (a b : ℕ) → StandAlike a b → PadAlike (number_alignment n) a b
of_number byte a b s = ones a b s
of_number i16 a b s = twos a b s
of_number u16 a b s = twos a b s
of_number i32 a b s = fours a b s
of_number u32 a b s = fours a b s
of_number i64 a b s = eights a b s
of_number u64 a b s = eights a b s
of_number double a b s = eights a b s

of_kind : (k : Kind) (a b : ℕ) → StandAlike a b → PadAlike (alignment k) a b
of_kind (number n) a b s = of_number n a b s
of_kind boolean a b s = fours a b s
of_kind text a b s = fours a b s
of_kind path a b s = fours a b s
of_kind signature a b s = ones a b s
of_kind (array k) a b s = fours a b s
of_kind (structure ks) a b s = eights a b s
of_kind variant a b s = ones a b s
of_kind (dictionary k v) a b s = fours a b s

further : (n a b : ℕ) → StandAlike a b → StandAlike (a + n) (b + n)
further n a b s = omega arith

padded : (n a b : ℕ) → PadAlike n a b → padding n a ≡ padding n b
padded n a b p = ap zeros p.long

counted_alike : (o : Order) (a b : ℕ) (bytes : List ℕ) → StandAlike a b → counted o a bytes ≡ counted o b bytes
counted_alike o a b bytes s = ap (λ (p : List ℕ). p ++ (number_bytes o w32 (length bytes) ++ (bytes ++ 0 ∷ []))) (padded 4 a b (fours a b s))

-- the first elements of arrays of one alignment stand alike
record StartAlike (n a b : ℕ) : Type 0 where
  pub pad : padding n (aligned 4 a + 4) ≡ padding n (aligned 4 b + 4)
  pub start : StandAlike (start_of n a) (start_of n b)

starts : (n a b : ℕ) → ((p q : ℕ) → StandAlike p q → PadAlike n p q) → StandAlike a b → StartAlike n a b
starts n a b each s =
    let p = each (aligned 4 a + 4) (aligned 4 b + 4) (further 4 (aligned 4 a) (aligned 4 b) (fours a b s).ends) in
    record { pad = padded n (aligned 4 a + 4) (aligned 4 b + 4) p; start = p.ends }

arrays : (o : Order) (n a b : ℕ) (xs ys : List ℕ) → StandAlike a b → StartAlike n a b → xs ≡ ys → array_spelling o a n xs ≡ array_spelling o b n ys
arrays o n a b xs ys s start e = rw (padded 4 a b (fours a b s), start.pad, e) refl

mutual
  pub same_spelling : (o : Order) (d : Data) (a b : ℕ) → StandAlike a b → spelling o a d ≡ spelling o b d
  same_spelling o (number_data n x) a b s = ap (λ (p : List ℕ). p ++ number_bytes o (width n) x) (padded (number_alignment n) a b (of_number n a b s))
  same_spelling o (boolean_data t) a b s = ap (λ (p : List ℕ). p ++ number_bytes o w32 (if t then 1 else 0)) (padded 4 a b (fours a b s))
  same_spelling o (text_data cs) a b s = counted_alike o a b (encode_utf8_all cs) s
  same_spelling o (path_data bytes) a b s = counted_alike o a b bytes s
  same_spelling o (signature_data ks) a b s = refl
  same_spelling o (array_data k ds) a b s =
      let t = starts (alignment k) a b (of_kind k) s in
      arrays o (alignment k) a b (spellings o (start_of (alignment k) a) ds) (spellings o (start_of (alignment k) b) ds) s t (same_spellings o ds (start_of (alignment k) a) (start_of (alignment k) b) t.start)
  same_spelling o (structure_data ds) a b s =
      let p = eights a b s in
      rw (padded 8 a b p, same_spellings o ds (aligned 8 a) (aligned 8 b) p.ends) refl
  same_spelling o (dictionary_data k v es) a b s =
      let t = starts 8 a b eights s in
      arrays o 8 a b (entry_spellings o (start_of 8 a) es) (entry_spellings o (start_of 8 b) es) s t (same_entries o es (start_of 8 a) (start_of 8 b) t.start)
  same_spelling o (variant_data k d) a b s =
      let n = length (signature_bytes (single k)) in
      ap (λ (bs : List ℕ). (n ∷ (signature_bytes (single k) ++ 0 ∷ [])) ++ bs) (same_spelling o d (a + 2 + n) (b + 2 + n) (further n (a + 2) (b + 2) (further 2 a b s)))

  -- values one behind the other
  pub same_spellings : (o : Order) (ds : Items) (a b : ℕ) → StandAlike a b → spellings o a ds ≡ spellings o b ds
  same_spellings o no_items a b s = refl
  same_spellings o (item d ds) a b s =
      let first = same_spelling o d a b s in
      let next = further (length (spelling o b d)) a b s in
      ap (λ (bs : List ℕ). bs ++ spellings o (a + length bs) ds) first ∙ ap (λ (bs : List ℕ). spelling o b d ++ bs) (same_spellings o ds (a + length (spelling o b d)) (b + length (spelling o b d)) next)

  -- entries
  pub same_entries : (o : Order) (es : Entries) (a b : ℕ) → StandAlike a b → entry_spellings o a es ≡ entry_spellings o b es
  same_entries o no_entries a b s = refl
  same_entries o (entry c d es) a b s =
      let p = eights a b s in
      let q = aligned 8 a in
      let r = aligned 8 b in
      let key = spelling o r c in
      let value = spelling o (r + length key) d in
      let at_key = further (length key) q r p.ends in
      let at_value = further (length value) (q + length key) (r + length key) at_key in
      let keyed = same_spelling o c q r p.ends in
      let valued = same_spelling o d (q + length key) (r + length key) at_key in
      let rest = same_entries o es (q + length key + length value) (r + length key + length value) at_value in
      ap (λ (bs : List ℕ). bs ++ (spelling o q c ++ (spelling o (q + length (spelling o q c)) d ++ entry_spellings o (q + length (spelling o q c) + length (spelling o (q + length (spelling o q c)) d)) es))) (padded 8 a b p)
      ∙ (ap (λ (k : List ℕ). padding 8 b ++ (k ++ (spelling o (q + length k) d ++ entry_spellings o (q + length k + length (spelling o (q + length k) d)) es))) keyed
      ∙ (ap (λ (v : List ℕ). padding 8 b ++ (key ++ (v ++ entry_spellings o (q + length key + length v) es))) valued
      ∙ ap (λ (bs : List ℕ). padding 8 b ++ (key ++ (value ++ bs))) rest))

-- what is within the limits at a place is so at each that stands alike
mutual
  pub fits_alike : (o : Order) (levels : ℕ) (d : Data) (k : Kind) (a b : ℕ) → StandAlike a b → Fits o levels a d k → Fits o levels b d k
  fits_alike o levels (number_data m x) (number n) a b s f = f
  fits_alike o levels (boolean_data t) boolean a b s f = f
  fits_alike o levels (text_data cs) text a b s f = f
  fits_alike o levels (path_data bytes) path a b s f = f
  fits_alike o levels (signature_data ks) signature a b s f = f
  fits_alike o (suc levels) (array_data j ds) (array k) a b s f =
      let t = starts (alignment k) a b (of_kind k) s in
      (f.0, subst IsShort (same_spellings o ds (start_of (alignment k) a) (start_of (alignment k) b) t.start) f.1, all_alike o levels ds k (start_of (alignment k) a) (start_of (alignment k) b) t.start f.2)
  fits_alike o (suc levels) (structure_data ds) (structure ks) a b s f = fields_alike o levels ds ks (aligned 8 a) (aligned 8 b) (eights a b s).ends f
  fits_alike o (suc levels) (dictionary_data j w es) (dictionary k v) a b s f =
      let t = starts 8 a b eights s in
      (f.0, f.1, subst IsShort (same_entries o es (start_of 8 a) (start_of 8 b) t.start) f.2, entries_alike o levels es k v (start_of 8 a) (start_of 8 b) t.start f.3)
  fits_alike o (suc levels) (variant_data k d) variant a b s f =
      let n = length (signature_bytes (single k)) in
      (f.0, fits_alike o levels d k (a + 2 + n) (b + 2 + n) (further n (a + 2) (b + 2) (further 2 a b s)) f.1)
  fits_alike o levels d k a b s f = absurd f

  pub all_alike : (o : Order) (levels : ℕ) (ds : Items) (k : Kind) (a b : ℕ) → StandAlike a b → AllFit o levels a ds k → AllFit o levels b ds k
  all_alike o levels no_items k a b s f = tt
  all_alike o levels (item d ds) k a b s f =
      let n = length (spelling o b d) in
      let there = subst (λ (bs : List ℕ). AllFit o levels (a + length bs) ds k) (same_spelling o d a b s) f.1 in
      (fits_alike o levels d k a b s f.0, all_alike o levels ds k (a + n) (b + n) (further n a b s) there)

  pub fields_alike : (o : Order) (levels : ℕ) (ds : Items) (ks : Kinds) (a b : ℕ) → StandAlike a b → FieldsFit o levels a ds ks → FieldsFit o levels b ds ks
  fields_alike o levels no_items no_kinds a b s f = tt
  fields_alike o levels (item d ds) (kind k ks) a b s f =
      let n = length (spelling o b d) in
      let there = subst (λ (bs : List ℕ). FieldsFit o levels (a + length bs) ds ks) (same_spelling o d a b s) f.1 in
      (fits_alike o levels d k a b s f.0, fields_alike o levels ds ks (a + n) (b + n) (further n a b s) there)
  fields_alike o levels no_items (kind k ks) a b s f = absurd f
  fields_alike o levels (item d ds) no_kinds a b s f = absurd f

  pub entries_alike : (o : Order) (levels : ℕ) (es : Entries) (k v : Kind) (a b : ℕ) → StandAlike a b → EntriesFit o levels a es k v → EntriesFit o levels b es k v
  entries_alike o levels no_entries k v a b s f = tt
  entries_alike o zero (entry c d es) k v a b s f = absurd f
  entries_alike o (suc levels) (entry c d es) k v a b s f =
      let p = eights a b s in
      let q = aligned 8 a in
      let r = aligned 8 b in
      let key = spelling o r c in
      let value = spelling o (r + length key) d in
      let at_key = further (length key) q r p.ends in
      let at_value = further (length value) (q + length key) (r + length key) at_key in
      let there = subst (λ (bs : List ℕ). Fits o levels (q + length bs) d v × EntriesFit o (suc levels) (q + length bs + length (spelling o (q + length bs) d)) es k v) (same_spelling o c q r p.ends) (f.1, f.2) in
      let rest = subst (λ (bs : List ℕ). EntriesFit o (suc levels) (q + length key + length bs) es k v) (same_spelling o d (q + length key) (r + length key) at_key) there.1 in (
        fits_alike o levels c k q r p.ends f.0,
        fits_alike o levels d v (q + length key) (r + length key) at_key there.0,
        entries_alike o (suc levels) es k v (q + length key + length value) (r + length key + length value) at_value rest,
      )
