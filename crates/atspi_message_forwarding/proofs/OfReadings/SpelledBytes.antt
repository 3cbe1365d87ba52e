-- What is spelled are bytes: each is below 256.
use Rattle.std.proofs.Common.{◌≡◌, ℕ, zero, suc, ◌+◌, ◌-◌, ◌<◌, ◌%◌, ◌/◌, ◌^◌, List, [], ◌∷◌, ◌++◌, length, get_or, Bool, true, false, cond, ltb, encode_utf8_all, refl, sym, subst, arith, mod-lt, inl, inr}
use Rattle.std.specs.Prelude.{if◌then◌else◌}
use Rattle.std.specs.Int.{Width, w32, byte_len, byte_at, bytes_low_first, bytes_high_first}
use Rattle.std.specs.List.{AllByRecursion}
use Rattle.std.specs.Str.{IsAscii, all_scalars}
use Rattle.std.proofs.lemmas.Bool.{and_parts, ltb-true}
use lib.Utf8.{scalar, encode, scalar_cases}
use Rattle.atspi_types.specs.Kinds.{Num, byte, i16, u16, i32, u32, i64, u64, double, width, number_alignment, Kind, number, boolean, text, path, signature, array, structure, variant, dictionary, Kinds, no_kinds, kind, alignment}
use Rattle.atspi_types.specs.Signatures.{number_code, type_bytes, signature_bytes, IsSignature}
use Rattle.atspi_types.specs.Data.{Data, number_data, boolean_data, text_data, path_data, signature_data, array_data, structure_data, dictionary_data, variant_data, Items, no_items, item, Entries, no_entries, entry}
use Rattle.atspi_types.specs.declared.fault.Order.{Order}
use Rattle.atspi_types.specs.declared.fault.Order.TheVariants.{Little, Big}
use Rattle.atspi_base.proofs.OfValidNames.NameLemmas.{IsAscii-IsPath}
use Rattle.atspi_marshal.specs.Input.{number_bytes, aligned}
use Rattle.atspi_marshal.specs.Spelling.{zeros, padding, counted, counted_short, start_of, array_spelling, single, spelling, spellings, entry_spellings, Fits, AllFit, FieldsFit, EntriesFit}

abbrev pub AreBytes : List ℕ → Type 0
AreBytes bytes = AllByRecursion (λ (b : ℕ). b < 256) bytes

pub both : (xs ys : List ℕ) → AreBytes xs → AreBytes ys → AreBytes (xs ++ ys)
both [] ys x y = y
both (b ∷ xs) ys x y = (x.0, both xs ys x.1 y)

pub each_below : (bytes : List ℕ) → AreBytes bytes → (i : ℕ) → get_or bytes i 0 < 256
each_below [] h i = omega arith
each_below (b ∷ bytes) h zero = h.0
each_below (b ∷ bytes) h (suc i) = each_below bytes h.1 i

zeros_are : (n : ℕ) → AreBytes (zeros n)
zeros_are zero = tt
zeros_are (suc n) = (omega arith, zeros_are n)

pub padding_are : (n at : ℕ) → AreBytes (padding n at)
padding_are n at = zeros_are (aligned n at - at)

byte_small : (i n : ℕ) → byte_at i n < 256
byte_small zero n = omega arith
byte_small (suc i) n = mod-lt (n / 256 ^ suc i) (omega arith)

low_first : (i k n : ℕ) → AreBytes (bytes_low_first i k n)
low_first i zero n = tt
low_first i (suc k) n = (byte_small i n, low_first (suc i) k n)

high_first : (k n : ℕ) → AreBytes (bytes_high_first k n)
high_first zero n = tt
high_first (suc k) n = (byte_small k n, high_first k n)

pub number_are : (o : Order) (w : Width) (n : ℕ) → AreBytes (number_bytes o w n)
number_are Little w n = low_first 0 (byte_len w) n
number_are Big w n = high_first (byte_len w) n

ascii_are : (bytes : List ℕ) → IsAscii bytes → AreBytes bytes
ascii_are [] h = tt
ascii_are (b ∷ bytes) h = (omega (arith, h 0), ascii_are bytes (λ i. h (suc i)))

-- a character of UTF-8 is bytes
char_are : (c : ℕ) → scalar c ≡ true → AreBytes (encode c)
unfolding encode
char_are c e = by (ltb c 128) (ltb c 2048) (ltb c 65536) refl refl refl
  where
    top : c < 1114112
    top = elim (scalar_cases c e) [ inl h ↦ omega (arith, h) | inr h ↦ h.1 ]

    by : (p q r : Bool) → ltb c 128 ≡ p → ltb c 2048 ≡ q → ltb c 65536 ≡ r
        → AreBytes (cond p (c ∷ []) (cond q ((192 + c / 64) ∷ (128 + c % 64) ∷ []) (cond r ((224 + c / 4096) ∷ (128 + c / 64 % 64) ∷ (128 + c % 64) ∷ []) ((240 + c / 262144) ∷ (128 + c / 4096 % 64) ∷ (128 + c / 64 % 64) ∷ (128 + c % 64) ∷ []))))
    by true q r f g h = (omega (arith, ltb-true c 128 f), tt)
    by false true r f g h = (omega (arith, ltb-true c 2048 g), (omega arith, tt))
    by false false true f g h = (omega (arith, ltb-true c 65536 h), (omega arith, (omega arith, tt)))
    by false false false f g h = (omega (arith, top), (omega arith, (omega arith, (omega arith, tt))))

chars_are : (cs : List ℕ) → all_scalars cs ≡ true → AreBytes (encode_utf8_all cs)
chars_are [] e = tt
chars_are (c ∷ cs) e = let p = and_parts (scalar c) (all_scalars cs) e in both (encode c) (encode_utf8_all cs) (char_are c p.0) (chars_are cs p.1)

-- codes of types
code_small : (n : Num) → number_code n < 256
code_small byte = omega arith
code_small i16 = omega arith
code_small u16 = omega arith
code_small i32 = omega arith
code_small u32 = omega arith
code_small i64 = omega arith
code_small u64 = omega arith
code_small double = omega arith

mutual
  type_are : (k : Kind) → AreBytes (type_bytes k)
  type_are (number n) = (code_small n, tt)
  type_are boolean = (omega arith, tt)
  type_are text = (omega arith, tt)
  type_are path = (omega arith, tt)
  type_are signature = (omega arith, tt)
  type_are (array k) = (omega arith, type_are k)
  type_are (structure ks) = (omega arith, both (signature_bytes ks) (41 ∷ []) (types_are ks) (omega arith, tt))
  type_are variant = (omega arith, tt)
  type_are (dictionary k v) = (omega arith, (omega arith, both (type_bytes k) (type_bytes v ++ 125 ∷ []) (type_are k) (both (type_bytes v) (125 ∷ []) (type_are v) (omega arith, tt))))

  types_are : (ks : Kinds) → AreBytes (signature_bytes ks)
  types_are no_kinds = tt
  types_are (kind k ks) = both (type_bytes k) (signature_bytes ks) (type_are k) (types_are ks)

signature_are : (ks : Kinds) → IsSignature ks → AreBytes (counted_short (signature_bytes ks))
signature_are ks is = (omega (arith, is.fits.short), both (signature_bytes ks) (0 ∷ []) (types_are ks) (omega arith, tt))

counted_are : (o : Order) (at : ℕ) (bytes : List ℕ) → AreBytes bytes → AreBytes (counted o at bytes)
counted_are o at bytes h =
    let number = number_bytes o w32 (length bytes) in
    both (padding 4 at) (number ++ (bytes ++ 0 ∷ [])) (padding_are 4 at) (both number (bytes ++ 0 ∷ []) (number_are o w32 (length bytes)) (both bytes (0 ∷ []) h (omega arith, tt)))

array_are : (o : Order) (at n : ℕ) (elements : List ℕ) → AreBytes elements → AreBytes (array_spelling o at n elements)
array_are o at n elements h =
    let number = number_bytes o w32 (length elements) in
    let pad = padding n (aligned 4 at + 4) in
    both (padding 4 at) (number ++ (pad ++ elements)) (padding_are 4 at) (both number (pad ++ elements) (number_are o w32 (length elements)) (both pad elements (padding_are n (aligned 4 at + 4)) h))

-- what is within the limits is spelled by bytes
mutual
  pub spelled_bytes : (o : Order) (levels at : ℕ) (d : Data) (k : Kind) → Fits o levels at d k → AreBytes (spelling o at d)
  spelled_bytes o levels at (number_data m x) (number n) f = both (padding (number_alignment m) at) (number_bytes o (width m) x) (padding_are (number_alignment m) at) (number_are o (width m) x)
  spelled_bytes o levels at (boolean_data b) boolean f = let n : ℕ = if b then 1 else 0 in both (padding 4 at) (number_bytes o w32 n) (padding_are 4 at) (number_are o w32 n)
  spelled_bytes o levels at (text_data cs) text f = counted_are o at (encode_utf8_all cs) (chars_are cs f.0)
  spelled_bytes o levels at (path_data bytes) path f = counted_are o at bytes (ascii_are bytes (IsAscii-IsPath bytes f.0))
  spelled_bytes o levels at (signature_data ks) signature f = signature_are ks f
  spelled_bytes o (suc levels) at (array_data j ds) (array k) f = subst (λ (i : Kind). AreBytes (spelling o at (array_data i ds))) (sym f.0) (array_are o at (alignment k) (spellings o (start_of (alignment k) at) ds) (all_bytes o levels (start_of (alignment k) at) ds k f.2))
  spelled_bytes o (suc levels) at (structure_data ds) (structure ks) f = both (padding 8 at) (spellings o (aligned 8 at) ds) (padding_are 8 at) (fields_bytes o levels (aligned 8 at) ds ks f)
  spelled_bytes o (suc levels) at (dictionary_data j w es) (dictionary k v) f = array_are o at 8 (entry_spellings o (start_of 8 at) es) (entries_bytes o levels (start_of 8 at) es k v f.3)
  spelled_bytes o (suc levels) at (variant_data k d) variant f =
      let here = at + 2 + length (signature_bytes (single k)) in
      both (counted_short (signature_bytes (single k))) (spelling o here d) (signature_are (single k) f.0) (spelled_bytes o levels here d k f.1)
  spelled_bytes o levels at d k f = absurd f

  all_bytes : (o : Order) (levels at : ℕ) (ds : Items) (k : Kind) → AllFit o levels at ds k → AreBytes (spellings o at ds)
  all_bytes o levels at no_items k f = tt
  all_bytes o levels at (item d ds) k f =
      let next = at + length (spelling o at d) in
      both (spelling o at d) (spellings o next ds) (spelled_bytes o levels at d k f.0) (all_bytes o levels next ds k f.1)

  pub fields_bytes : (o : Order) (levels at : ℕ) (ds : Items) (ks : Kinds) → FieldsFit o levels at ds ks → AreBytes (spellings o at ds)
  fields_bytes o levels at no_items no_kinds f = tt
  fields_bytes o levels at (item d ds) (kind k ks) f =
      let next = at + length (spelling o at d) in
      both (spelling o at d) (spellings o next ds) (spelled_bytes o levels at d k f.0) (fields_bytes o levels next ds ks f.1)
  fields_bytes o levels at no_items (kind k ks) f = absurd f
  fields_bytes o levels at (item d ds) no_kinds f = absurd f

  entries_bytes : (o : Order) (levels at : ℕ) (es : Entries) (k v : Kind) → EntriesFit o levels at es k v → AreBytes (entry_spellings o at es)
  entries_bytes o levels at no_entries k v f = tt
  entries_bytes o zero at (entry c d es) k v f = absurd f
  entries_bytes o (suc levels) at (entry c d es) k v f =
      let first = aligned 8 at in
      let key = spelling o first c in
      let value = spelling o (first + length key) d in
      let next = first + length key + length value in
      both (padding 8 at) (key ++ (value ++ entry_spellings o next es)) (padding_are 8 at)
      (both key (value ++ entry_spellings o next es) (spelled_bytes o levels first c k f.0)
      (both value (entry_spellings o next es) (spelled_bytes o levels (first + length key) d v f.1) (entries_bytes o (suc levels) next es k v f.2)))
