-- What is spelled is read.
use Rattle.std.proofs.Common.{get_or, take, drop, ◌≡◌, ℕ, zero, suc, ◌+◌, ◌-◌, ◌<◌, ◌≤◌, ◌^◌, Bool, true, false, cond, eqb, ltb, List, [], ◌∷◌, ◌++◌, length, encode_utf8_all, Option, Some, None, Result, Ok, Err, refl, sym, ap, subst, ◌∙◌, arith}
use Rattle.std.specs.Prelude.{◌==◌, ◌&&◌}
use Rattle.std.specs.Int.{Width, w32, byte_len}
use Rattle.std.proofs.lemmas.Bool.{ltb-false, ltb-true, eqb-true, lt-ltb, le-ltb}
use Rattle.std.specs.Str.{all_scalars}
use Rattle.std.proofs.lemmas.List.{length-append, get_or-drop, get_or-take}
use Rattle.std.proofs.lemmas.Str.{chars-encodes}
use Rattle.atspi_base.specs.Text.{HasNoZero, bytes_before_zero}
use Rattle.atspi_base.specs.ReadsText.{text_in}
use Rattle.atspi_base.proofs.TextLemmas.{whole as text_whole}
use Rattle.atspi_base.specs.declared.text.TextFault.{TextFault}
use Rattle.atspi_base.specs.declared.text.TextFault.TheVariants.{Zero, Utf8}
use Rattle.atspi_base.specs.declared.text.TextFault.TheVariants.{NoMemory as TextNoMemory}
use Rattle.atspi_base.specs.valid_names.Names.{IsPath, is_path}
use Rattle.atspi_types.specs.Kinds.{Num, width, number_alignment, Kind, number, boolean, text, path, signature, array, structure, variant, dictionary, Kinds, no_kinds, kind, kinds_of, types_in, alignment, IsBasic, IsLawful, AreLawful}
use Rattle.atspi_types.specs.Signatures.{signature_bytes, IsSignature}
use Rattle.atspi_types.specs.Data.{Data, number_data, boolean_data, text_data, path_data, signature_data, array_data, structure_data, variant_data, dictionary_data, Items, no_items, item, items_of, values_in, Entries}
use Rattle.atspi_types.specs.SignatureReading.{signature_in}
use Rattle.atspi_types.specs.declared.fault.Order.{Order}
use Rattle.atspi_marshal.specs.declared.input.Bound.{Bound}
use Rattle.atspi_types.specs.declared.fault.Fault.{Fault}
use Rattle.atspi_marshal.specs.Input.{Input, Stands, number_bytes, number_in, byte_in, slice_in, aligned, whole, to_end}
use Rattle.atspi_marshal.specs.Spelling.{zeros, padding, counted, counted_short, start_of, array_spelling, single, spelling, spellings, entry_spellings, Fits, AllFit, FieldsFit, EntriesFit}
use Rattle.atspi_marshal.specs.Faults.{IsItem, AreItems, entry_kind, inside, long_in, short_in}
use Rattle.atspi_marshal.specs.Reading.{◌>>=◌, bad, zeros_in_front, passing_reason, Reader, padding_at, room_at, number_at, boolean_at, ended, text_with, text_body_at, path_body_at, long_place, long_at, short_place, short_at, signature_with, signature_body_at, as_variant, inner_at, variant_with, variant_body_at, put_first, elements_at, as_array, array_body_at, array_place, unless_deep, array_at, entries_in, as_dictionary, dictionary_at, nothing, single_at, fields_first, fields_at, as_structure, first_of, deep_at, structure_at, level, read, decoded}
use Rattle.atspi_marshal.proofs.Places.{done, IsValid, length-zeros, Stands-front, Stands-back, aligned-one, wide, wide32, number_again}
use Rattle.atspi_types.proofs.SignatureLaws.{signature_in-again}
use Rattle.atspi_marshal.proofs.Levels.{dictionary_is}
use Rattle.atspi_marshal.proofs.Entries.{structs_of, entries-structs, entry_spellings-structs, entries_fit}
use Rattle.atspi_marshal.proofs.Sound.{entry_lawful, all_lawful}
use Rattle.atspi_base.proofs.OfValidNames.NameLemmas.{is_path-from_IsPath}

-- tools

zeros-zeros : (n : ℕ) → zeros_in_front (zeros n) ≡ n
zeros-zeros zero = refl
zeros-zeros (suc n) = ap suc (zeros-zeros n)

padding_again : (i : Input) (n : ℕ) (b : Bound) (at : ℕ) → aligned n at ≤ b.end → Stands i at (padding n at) (aligned n at) → padding_at i n b at ≡ Ok (aligned n at)
unfolding padding_at
padding_again i n b at le h =
    let len = length-zeros (aligned n at - at) in
    let same : slice_in i at (aligned n at - at) ≡ padding n at = ap (λ (m : ℕ). slice_in i at m) (sym len) ∙ h.1 in
    let count : zeros_in_front (slice_in i at (aligned n at - at)) ≡ aligned n at - at = ap zeros_in_front same ∙ zeros-zeros (aligned n at - at) in
    rw (le-ltb b.end (aligned n at) le, le-ltb (zeros_in_front (slice_in i at (aligned n at - at))) (aligned n at - at) (omega (arith, count))) refl

room_again : (i : Input) (n len : ℕ) (b : Bound) (at : ℕ) → aligned n at + len ≤ b.end → Stands i at (padding n at) (aligned n at) → room_at i n len b at ≡ Ok (aligned n at)
unfolding room_at
room_again i n len b at le h = rw (padding_again i n b at (omega (arith, le)) h, le-ltb b.end (aligned n at + len) le) refl

-- without padding
pub room_one : (i : Input) (b : Bound) (at : ℕ) → at + 1 ≤ b.end → room_at i 1 1 b at ≡ Ok at
room_one i b at le =
    let same : aligned 1 at ≡ at = aligned-one at in
    let none : aligned 1 at - at ≡ 0 = omega (arith, same) in
    let there : Stands i at (padding 1 at) (aligned 1 at) = subst (λ (m : ℕ). Stands i at (zeros m) (aligned 1 at)) (sym none) (omega (arith, same), refl) in
    room_again i 1 1 b at (omega (arith, same, le)) there ∙ ap done same

-- the padding of an item that is spelled, and what stands behind it
parts : (i : Input) (n : ℕ) (b : Bound) (at next : ℕ) (t : List ℕ) → IsValid i b → next ≤ b.end → Stands i at (padding n at ++ t) next → Stands i at (padding n at) (aligned n at) × Stands i (aligned n at) t next
parts i n b at next t valid within h =
    let le : next ≤ length i.bytes = omega (arith, within, valid.long) in
    let len = length-zeros (aligned n at - at) in
    let to : at + length (padding n at) ≡ aligned n at = omega (arith, len) in
    (subst (λ (m : ℕ). Stands i at (padding n at) m) to (Stands-front i at next (padding n at) t le h), subst (λ (m : ℕ). Stands i m t next) to (Stands-back i at next (padding n at) t le h))

pub Stands-head : (i : Input) (at x next : ℕ) → Stands i at (x ∷ []) next → byte_in i at ≡ x
Stands-head i at x next h =
    let here : get_or (take 1 (drop at i.bytes)) 0 0 ≡ x = ap (λ (bs : List ℕ). get_or bs 0 0) h.1 in
    ap (λ (k : ℕ). get_or i.bytes k 0) (omega arith) ∙ sym (get_or-drop at i.bytes 0 0) ∙ sym (get_or-take 1 (drop at i.bytes) 0 0 (omega arith)) ∙ here

kinds_of-types_in : (ks : Kinds) → kinds_of (types_in ks) ≡ ks
kinds_of-types_in no_kinds = refl
kinds_of-types_in (kind k ks) = ap (λ (js : Kinds). kind k js) (kinds_of-types_in ks)

pub items_of-values_in : (ds : Items) → items_of (values_in ds) ≡ ds
items_of-values_in no_items = refl
items_of-values_in (item d ds) = ap (λ (es : Items). item d es) (items_of-values_in ds)

-- every item takes a byte at least
some_bytes : (n : Num) → 0 < byte_len (width n)
some_bytes Num.byte = omega arith
some_bytes Num.i16 = omega arith
some_bytes Num.u16 = omega arith
some_bytes Num.i32 = omega arith
some_bytes Num.u32 = omega arith
some_bytes Num.i64 = omega arith
some_bytes Num.u64 = omega arith
some_bytes Num.double = omega arith

number_some : (o : Order) (n : Num) (x : ℕ) (pad : List ℕ) → 0 < length (pad ++ number_bytes o (width n) x)
number_some o n x pad = omega (arith, length-append pad (number_bytes o (width n) x), (wide n).long o x, some_bytes n)

behind_some : (pad rest : List ℕ) → 0 < length rest → 0 < length (pad ++ rest)
behind_some pad rest lt = omega (arith, length-append pad rest, lt)

count_some : (o : Order) (x : ℕ) (pad rest : List ℕ) → 0 < length (pad ++ (number_bytes o w32 x ++ rest))
count_some o x pad rest = behind_some pad (number_bytes o w32 x ++ rest) (omega (arith, length-append (number_bytes o w32 x) rest, wide32.long o x))

mutual
  some_spelled : (o : Order) (levels at : ℕ) (d : Data) (k : Kind) → IsLawful k → Fits o levels at d k → 0 < length (spelling o at d)
  some_spelled o levels at (number_data n x) k lawful fit = number_some o n x (padding (number_alignment n) at)
  some_spelled o levels at (boolean_data v) k lawful fit = number_some o Num.u32 (cond v 1 0) (padding 4 at)
  some_spelled o levels at (text_data cs) k lawful fit = count_some o (length (encode_utf8_all cs)) (padding 4 at) (encode_utf8_all cs ++ 0 ∷ [])
  some_spelled o levels at (path_data bs) k lawful fit = count_some o (length bs) (padding 4 at) (bs ++ 0 ∷ [])
  some_spelled o levels at (signature_data ks) k lawful fit = omega arith
  some_spelled o levels at (array_data j ds) k lawful fit = count_some o (length (spellings o (start_of (alignment j) at) ds)) (padding 4 at) _
  some_spelled o levels at (variant_data j d) k lawful fit = omega arith
  some_spelled o levels at (dictionary_data j w es) k lawful fit = count_some o (length (entry_spellings o (start_of 8 at) es)) (padding 4 at) _
  some_spelled o (suc levels) at (structure_data ds) (structure ks) lawful fit = behind_some (padding 8 at) (spellings o (aligned 8 at) ds) (some_fields o levels (aligned 8 at) ds ks lawful fit)
  some_spelled o levels at (structure_data ds) k lawful fit = absurd fit

  some_fields : (o : Order) (levels at : ℕ) (ds : Items) (ks : Kinds) → IsLawful (structure ks) → FieldsFit o levels at ds ks → 0 < length (spellings o at ds)
  some_fields o levels at no_items no_kinds lawful fit = absurd lawful
  some_fields o levels at (item d ds) no_kinds lawful fit = absurd lawful
  some_fields o levels at no_items (kind k ks) lawful fit = absurd fit
  some_fields o levels at (item d ds) (kind k ks) lawful fit =
      omega (arith, length-append (spelling o at d) (spellings o (at + length (spelling o at d)) ds), some_spelled o levels at d k lawful.0 fit.0)

pub grows : (i : Input) (levels : ℕ) (k : Kind) (b : Bound) (at next : ℕ) (d : Data) → IsLawful k → IsItem i levels k b at next d → at < next
grows i levels k b at next d lawful is = omega (arith, is.stands.0, some_spelled i.order levels at d k lawful is.fits)

abbrev done_at : Data → ℕ → Result (Data × ℕ) Fault
done_at d next = Ok (d, next)

abbrev pub IsComplete : Input → ℕ → Reader → Type 0
IsComplete i levels one = (k : Kind) (b : Bound) (at next : ℕ) (d : Data) → IsLawful k → IsValid i b → IsItem i levels k b at next d → one k b at ≡ Ok (d, next)

-- numbers and booleans

same_number : (i : Input) (levels : ℕ) (n : Num) (b : Bound) (at next x : ℕ) → IsValid i b → IsItem i levels (number n) b at next (number_data n x) → number_at i n b at ≡ Ok (number_data n x, next)
unfolding number_at
same_number i levels n b at next x valid is =
    let len = byte_len (width n) in
    let p = aligned (number_alignment n) at in
    let t = parts i (number_alignment n) b at next (number_bytes i.order (width n) x) valid is.within is.stands in
    let there = number_again (width n) (wide n) i p x next is.fits.1 t.1 in
    rw (room_again i (number_alignment n) len b at (omega (arith, there.1, is.within)) t.0, there.0, there.1) refl

some_number : (i : Input) (levels : ℕ) (n m : Num) (b : Bound) (at next x : ℕ) → IsValid i b → IsItem i levels (number n) b at next (number_data m x) → number_at i n b at ≡ Ok (number_data m x, next)
some_number i levels n m b at next x valid is =
    subst (λ (j : Num). IsItem i levels (number n) b at next (number_data j x) → number_at i n b at ≡ Ok (number_data j x, next)) (sym is.fits.0) (same_number i levels n b at next x valid) is

number_complete : (i : Input) (levels : ℕ) (n : Num) (b : Bound) (at next : ℕ) (d : Data) → IsValid i b → IsItem i levels (number n) b at next d → number_at i n b at ≡ Ok (d, next)
number_complete i zero n b at next (number_data m x) valid is = some_number i zero n m b at next x valid is
number_complete i (suc levels) n b at next (number_data m x) valid is = some_number i (suc levels) n m b at next x valid is
number_complete i zero n b at next d valid is = absurd is.fits
number_complete i (suc levels) n b at next d valid is = absurd is.fits

same_boolean : (i : Input) (levels : ℕ) (b : Bound) (at next : ℕ) (v : Bool) → IsValid i b → IsItem i levels boolean b at next (boolean_data v) → boolean_at i b at ≡ Ok (boolean_data v, next)
unfolding boolean_at
same_boolean i levels b at next true valid is =
    let p = aligned 4 at in
    let t = parts i 4 b at next (number_bytes i.order w32 1) valid is.within is.stands in
    let there = number_again w32 wide32 i p 1 next (omega arith) t.1 in
    rw (room_again i 4 4 b at (omega (arith, there.1, is.within)) t.0, there.0, there.1) refl
same_boolean i levels b at next false valid is =
    let p = aligned 4 at in
    let t = parts i 4 b at next (number_bytes i.order w32 0) valid is.within is.stands in
    let there = number_again w32 wide32 i p 0 next (omega arith) t.1 in
    rw (room_again i 4 4 b at (omega (arith, there.1, is.within)) t.0, there.0, there.1) refl

boolean_complete : (i : Input) (levels : ℕ) (b : Bound) (at next : ℕ) (d : Data) → IsValid i b → IsItem i levels boolean b at next d → boolean_at i b at ≡ Ok (d, next)
boolean_complete i zero b at next (boolean_data v) valid is = same_boolean i zero b at next v valid is
boolean_complete i (suc levels) b at next (boolean_data v) valid is = same_boolean i (suc levels) b at next v valid is
boolean_complete i zero b at next d valid is = absurd is.fits
boolean_complete i (suc levels) b at next d valid is = absurd is.fits

-- texts, paths and signatures

pub record Counted (i : Input) (at next : ℕ) (bytes : List ℕ) : Type 0 where
  pub padded : Stands i at (padding 4 at) (aligned 4 at)
  pub count : number_in i w32 (aligned 4 at) ≡ length bytes
  pub body : long_in i (aligned 4 at) ≡ bytes
  pub ended : byte_in i (aligned 4 at + 4 + number_in i w32 (aligned 4 at)) ≡ 0
  pub end : next ≡ aligned 4 at + 4 + number_in i w32 (aligned 4 at) + 1

counted_again : (i : Input) (b : Bound) (at next : ℕ) (bytes : List ℕ) → IsValid i b → next ≤ b.end → length bytes < 2 ^ 32 → Stands i at (counted i.order at bytes) next → Counted i at next bytes
counted_again i b at next bytes valid within short h =
    let p = aligned 4 at in
    let le : next ≤ length i.bytes = omega (arith, within, valid.long) in
    let count = number_bytes i.order w32 (length bytes) in
    let t = parts i 4 b at next (count ++ (bytes ++ 0 ∷ [])) valid within h in
    let there = number_again w32 wide32 i p (length bytes) (p + length count) short (Stands-front i p next count (bytes ++ 0 ∷ []) le t.1) in
    let rest : Stands i (p + 4) (bytes ++ 0 ∷ []) next = subst (λ (m : ℕ). Stands i m (bytes ++ 0 ∷ []) next) there.1 (Stands-back i p next count (bytes ++ 0 ∷ []) le t.1) in
    let front = Stands-front i (p + 4) next bytes (0 ∷ []) le rest in
    let back = Stands-back i (p + 4) next bytes (0 ∷ []) le rest in
    let end : p + 4 + length bytes ≡ p + 4 + number_in i w32 p = ap (λ (m : ℕ). p + 4 + m) (sym there.0) in
    record {
      padded = t.0;
      count = there.0;
      body = ap (λ (m : ℕ). slice_in i (p + 4) m) there.0 ∙ front.1;
      ended = Stands-head i (p + 4 + number_in i w32 p) 0 next (subst (λ (m : ℕ). Stands i m (0 ∷ []) next) end back);
      end = omega (arith, back.0, there.0);
    }

pub record CountedShort (i : Input) (at next : ℕ) (bytes : List ℕ) : Type 0 where
  pub count : byte_in i at ≡ length bytes
  pub body : short_in i at ≡ bytes
  pub ended : byte_in i (at + 1 + byte_in i at) ≡ 0
  pub end : next ≡ at + 2 + byte_in i at

counted_short_again : (i : Input) (b : Bound) (at next : ℕ) (bytes : List ℕ) → IsValid i b → next ≤ b.end → Stands i at (counted_short bytes) next → CountedShort i at next bytes
counted_short_again i b at next bytes valid within h =
    let le : next ≤ length i.bytes = omega (arith, within, valid.long) in
    let count : byte_in i at ≡ length bytes = Stands-head i at (length bytes) (at + 1) (Stands-front i at next (length bytes ∷ []) (bytes ++ 0 ∷ []) le h) in
    let rest : Stands i (at + 1) (bytes ++ 0 ∷ []) next = Stands-back i at next (length bytes ∷ []) (bytes ++ 0 ∷ []) le h in
    let front = Stands-front i (at + 1) next bytes (0 ∷ []) le rest in
    let back = Stands-back i (at + 1) next bytes (0 ∷ []) le rest in
    let end : at + 1 + length bytes ≡ at + 1 + byte_in i at = ap (λ (m : ℕ). at + 1 + m) (sym count) in
    record {
      count = count;
      body = ap (λ (m : ℕ). slice_in i (at + 1) m) count ∙ front.1;
      ended = Stands-head i (at + 1 + byte_in i at) 0 next (subst (λ (m : ℕ). Stands i m (0 ∷ []) next) end back);
      end = omega (arith, back.0, count);
    }

long_again : (body : ℕ → Result (Data × ℕ) Fault) (i : Input) (b : Bound) (at next : ℕ) (bytes : List ℕ) → next ≤ b.end → Counted i at next bytes → long_at body i b at ≡ body (aligned 4 at)
unfolding long_at long_place
long_again body i b at next bytes within c =
    let p = aligned 4 at in
    rw (room_again i 4 4 b at (omega (arith, c.end, within)) c.padded, le-ltb b.end (p + 5 + number_in i w32 p) (omega (arith, c.end, within))) refl

short_again : (body : ℕ → Result (Data × ℕ) Fault) (i : Input) (b : Bound) (at : ℕ) → at + 2 + byte_in i at ≤ b.end → short_at body i b at ≡ body at
unfolding short_at short_place
short_again body i b at within = rw (room_one i b at (omega (arith, within)), le-ltb b.end (at + 2 + byte_in i at) within) refl

ended_again : (i : Input) (at next : ℕ) (d : Data) → byte_in i at ≡ 0 → next ≡ at + 1 → ended i at d ≡ Ok (d, next)
ended_again i at next d z e = rw (z, e) refl

text_again : (cs : List ℕ) → all_scalars cs ≡ true → HasNoZero (encode_utf8_all cs) → text_in (encode_utf8_all cs) ≡ Ok cs
text_again cs scalars no_zero =
    text_whole (encode_utf8_all cs) (bytes_before_zero (encode_utf8_all cs)) (cs, (scalars, refl)) refl (omega (arith, no_zero)) ∙ ap (λ (ds : List ℕ). read_ok ds) (chars-encodes cs scalars)
  where
    read_ok : List ℕ → Result (List ℕ) TextFault
    read_ok ds = Ok ds

same_text : (i : Input) (levels : ℕ) (b : Bound) (at next : ℕ) (cs : List ℕ) → IsValid i b → IsItem i levels text b at next (text_data cs) → long_at (text_body_at i) i b at ≡ Ok (text_data cs, next)
unfolding text_body_at
same_text i levels b at next cs valid is =
    let p = aligned 4 at in
    let c = counted_again i b at next (encode_utf8_all cs) valid is.within is.fits.2 is.stands in
    let read : text_in (long_in i p) ≡ Ok cs = ap text_in c.body ∙ text_again cs is.fits.0 is.fits.1 in
    let body : text_body_at i p ≡ Ok (text_data cs, next) = ap (text_with i p (number_in i w32 p)) read ∙ ended_again i (p + 4 + number_in i w32 p) next (text_data cs) c.ended c.end in
    long_again (text_body_at i) i b at next (encode_utf8_all cs) is.within c ∙ body

text_complete : (i : Input) (levels : ℕ) (b : Bound) (at next : ℕ) (d : Data) → IsValid i b → IsItem i levels text b at next d → long_at (text_body_at i) i b at ≡ Ok (d, next)
text_complete i zero b at next (text_data cs) valid is = same_text i zero b at next cs valid is
text_complete i (suc levels) b at next (text_data cs) valid is = same_text i (suc levels) b at next cs valid is
text_complete i zero b at next d valid is = absurd is.fits
text_complete i (suc levels) b at next d valid is = absurd is.fits

same_path : (i : Input) (levels : ℕ) (b : Bound) (at next : ℕ) (bs : List ℕ) → IsValid i b → IsItem i levels path b at next (path_data bs) → long_at (path_body_at i) i b at ≡ Ok (path_data bs, next)
unfolding path_body_at
same_path i levels b at next bs valid is =
    let p = aligned 4 at in
    let c = counted_again i b at next bs valid is.within is.fits.1 is.stands in
    let test : is_path (long_in i p) ≡ true = ap is_path c.body ∙ is_path-from_IsPath bs is.fits.0 in
    let last : ended i (p + 4 + number_in i w32 p) (path_data (long_in i p)) ≡ Ok (path_data bs, next) =
    ap (λ (cs : List ℕ). ended i (p + 4 + number_in i w32 p) (path_data cs)) c.body ∙ ended_again i (p + 4 + number_in i w32 p) next (path_data bs) c.ended c.end in
    let body : path_body_at i p ≡ Ok (path_data bs, next) = ap (λ (t : Bool). cond t (ended i (p + 4 + number_in i w32 p) (path_data (long_in i p))) (bad p 15)) test ∙ last in
    long_again (path_body_at i) i b at next bs is.within c ∙ body

path_complete : (i : Input) (levels : ℕ) (b : Bound) (at next : ℕ) (d : Data) → IsValid i b → IsItem i levels path b at next d → long_at (path_body_at i) i b at ≡ Ok (d, next)
path_complete i zero b at next (path_data bs) valid is = same_path i zero b at next bs valid is
path_complete i (suc levels) b at next (path_data bs) valid is = same_path i (suc levels) b at next bs valid is
path_complete i zero b at next d valid is = absurd is.fits
path_complete i (suc levels) b at next d valid is = absurd is.fits

same_signature : (i : Input) (levels : ℕ) (b : Bound) (at next : ℕ) (ks : Kinds) → IsValid i b → IsItem i levels signature b at next (signature_data ks) → short_at (signature_body_at i) i b at ≡ Ok (signature_data ks, next)
unfolding signature_body_at
same_signature i levels b at next ks valid is =
    let c = counted_short_again i b at next (signature_bytes ks) valid is.within is.stands in
    let read : signature_in (short_in i at) ≡ Ok (types_in ks) = ap signature_in c.body ∙ signature_in-again ks is.fits in
    let body : signature_body_at i at ≡ Ok (signature_data ks, next) = ap (signature_with i at) read ∙ (ap (λ (js : Kinds). ended i (at + 1 + byte_in i at) (signature_data js)) (kinds_of-types_in ks) ∙ ended_again i (at + 1 + byte_in i at) next (signature_data ks) c.ended (omega (arith, c.end))) in
    short_again (signature_body_at i) i b at (omega (arith, c.end, is.within)) ∙ body

signature_complete : (i : Input) (levels : ℕ) (b : Bound) (at next : ℕ) (d : Data) → IsValid i b → IsItem i levels signature b at next d → short_at (signature_body_at i) i b at ≡ Ok (d, next)
signature_complete i zero b at next (signature_data ks) valid is = same_signature i zero b at next ks valid is
signature_complete i (suc levels) b at next (signature_data ks) valid is = same_signature i (suc levels) b at next ks valid is
signature_complete i zero b at next d valid is = absurd is.fits
signature_complete i (suc levels) b at next d valid is = absurd is.fits

-- arrays

-- elements that are spelled up to a place: reading goes on there
pub elements_after : (i : Input) (levels : ℕ) (one : Reader) → IsComplete i levels one → (k : Kind) (b : Bound) → IsLawful k → IsValid i b → (ds : Items) (fuel at : ℕ) → AreItems i levels k b at b.end ds → b.end ≤ at + fuel
    → elements_at (one k b) b.end fuel at ≡ Ok (values_in ds)
elements_after i levels one complete k b lawful valid no_items zero at are high = refl
elements_after i levels one complete k b lawful valid no_items (suc fuel) at are high = rw (le-ltb at b.end (omega (arith, are.stand.0))) refl
elements_after i levels one complete k b lawful valid (item d ds) fuel at are high =
    let le : b.end ≤ length i.bytes = valid.long in
    let s = spelling i.order at d in
    let mid = at + length s in
    let back = Stands-back i at b.end s (spellings i.order mid ds) le are.stand in
    let is : IsItem i levels k b at mid d = record { fits = are.fit.0; stands = Stands-front i at b.end s (spellings i.order mid ds) le are.stand; within = omega (arith, back.0) } in
    let more : at < mid = grows i levels k b at mid d lawful is in
    one_after fuel high is more (omega (arith, back.0)) (λ (f : ℕ) (h : b.end ≤ mid + f). elements_after i levels one complete k b lawful valid ds f mid (record { fit = are.fit.1; stand = back; within = omega arith }) h)
  where
    one_after : (fuel : ℕ) → b.end ≤ at + fuel → IsItem i levels k b at (at + length (spelling i.order at d)) d → at < at + length (spelling i.order at d) → at + length (spelling i.order at d) ≤ b.end
        → ((f : ℕ) → b.end ≤ at + length (spelling i.order at d) + f → elements_at (one k b) b.end f (at + length (spelling i.order at d)) ≡ Ok (values_in ds)) → elements_at (one k b) b.end fuel at ≡ Ok (d ∷ values_in ds)
    one_after zero high is more within again = absurd (omega (arith, high, more, within))
    one_after (suc f) high is more within again = rw (lt-ltb at b.end (omega (arith, more, within)), complete k b at (at + length (spelling i.order at d)) d lawful valid is, again f (omega (arith, high, more))) refl

pub record Arrayed (i : Input) (k : Kind) (b : Bound) (at next : ℕ) (es : List ℕ) : Type 0 where
  pub padded : Stands i at (padding 4 at) (aligned 4 at)
  pub count : number_in i w32 (aligned 4 at) ≡ length es
  pub first : Stands i (aligned 4 at + 4) (padding (alignment k) (aligned 4 at + 4)) (aligned (alignment k) (aligned 4 at + 4))
  pub all : Stands i (aligned (alignment k) (aligned 4 at + 4)) es (inside k (aligned 4 at) (number_in i w32 (aligned 4 at))).end
  pub end : next ≡ (inside k (aligned 4 at) (number_in i w32 (aligned 4 at))).end

arrayed : (i : Input) (k : Kind) (b : Bound) (at next : ℕ) (es : List ℕ) → IsValid i b → next ≤ b.end → length es ≤ 67108864 → Stands i at (array_spelling i.order at (alignment k) es) next → Arrayed i k b at next es
arrayed i k b at next es valid within short h =
    let p = aligned 4 at in
    let s = aligned (alignment k) (p + 4) in
    let le : next ≤ length i.bytes = omega (arith, within, valid.long) in
    let count = number_bytes i.order w32 (length es) in
    let pad = padding (alignment k) (p + 4) in
    let t = parts i 4 b at next (count ++ (pad ++ es)) valid within h in
    let there = number_again w32 wide32 i p (length es) (p + length count) (omega (arith, short)) (Stands-front i p next count (pad ++ es) le t.1) in
    let rest : Stands i (p + 4) (pad ++ es) next = subst (λ (m : ℕ). Stands i m (pad ++ es) next) there.1 (Stands-back i p next count (pad ++ es) le t.1) in
    let u = parts i (alignment k) b (p + 4) next es valid within rest in
    let end : next ≡ s + number_in i w32 p = omega (arith, u.1.0, there.0) in
    record { padded = t.0; count = there.0; first = u.0; all = subst (λ (m : ℕ). Stands i s es m) end u.1; end = end }

array_complete : (i : Input) (levels : ℕ) (one : Reader) → IsComplete i levels one → (k : Kind) (b : Bound) (at next : ℕ) (ds : Items) → IsLawful k → IsValid i b → IsItem i (suc levels) (array k) b at next (array_data k ds) → array_at false one i k b at ≡ Ok (array_data k ds, next)
unfolding array_at array_place array_body_at
array_complete i levels one complete k b at next ds lawful valid is =
    let p = aligned 4 at in
    let n = number_in i w32 p in
    let within = inside k p n in
    let s = aligned (alignment k) (p + 4) in
    let es = spellings i.order s ds in
    let t = arrayed i k b at next es valid is.within is.fits.1 is.stands in
    let fits_end : within.end ≤ b.end = omega (arith, t.end, is.within) in
    let valid_inside : IsValid i within = record { long = omega (arith, valid.long, fits_end); late = (omega arith, omega arith) } in
    let are : AreItems i levels k within s within.end ds = record { fit = is.fits.2; stand = t.all; within = omega arith } in
    let elements = elements_after i levels one complete k within lawful valid_inside ds n s are (omega arith) in
    let padded = padding_again i (alignment k) within (p + 4) (omega arith) t.first in
    let last : as_array k within.end (values_in ds) ≡ Ok (array_data k ds, next) = pair (ap (array_data k) (items_of-values_in ds)) (sym t.end) in
    rw (room_again i 4 4 b at (omega (arith, t.end, is.within)) t.padded, le-ltb 67108864 n (omega (arith, t.count, is.fits.1)), le-ltb b.end within.end fits_end, padded, elements) last
  where
    pair : {d e : Data} {m m' : ℕ} → d ≡ e → m ≡ m' → done_at d m ≡ done_at e m'
    pair p q = cc

array_any : (i : Input) (levels : ℕ) (one : Reader) → IsComplete i levels one → (k : Kind) (b : Bound) (at next : ℕ) (d : Data) → IsLawful k → IsValid i b → IsItem i (suc levels) (array k) b at next d → array_at false one i k b at ≡ Ok (d, next)
array_any i levels one complete k b at next (array_data j ds) lawful valid is =
    subst (λ (l : Kind). IsItem i (suc levels) (array k) b at next (array_data l ds) → array_at false one i k b at ≡ Ok (array_data l ds, next)) (sym is.fits.0) (array_complete i levels one complete k b at next ds lawful valid) is
array_any i levels one complete k b at next d lawful valid is = absurd is.fits

-- a dictionary is an array of structs
pub as_array_item : (i : Input) (levels : ℕ) (k v : Kind) (b : Bound) (at next : ℕ) (j w : Kind) (es : Entries) → IsItem i (suc levels) (dictionary k v) b at next (dictionary_data j w es) → IsItem i (suc levels) (array (entry_kind k v)) b at next (array_data (entry_kind k v) (structs_of es))
as_array_item i levels k v b at next j w es is =
    let s = start_of 8 at in
    let spelled = entry_spellings-structs i.order s es in
    record {
      fits = (refl, subst (λ (bs : List ℕ). length bs ≤ 67108864) spelled is.fits.2, entries_fit i.order levels s es k v is.fits.3);
      stands = subst (λ (bs : List ℕ). Stands i at (array_spelling i.order at 8 bs) next) spelled is.stands;
      within = is.within;
    }

dictionary_complete : (i : Input) (levels : ℕ) (one : Reader) → IsComplete i levels one → (k v : Kind) (b : Bound) (at next : ℕ) (d : Data) → IsLawful (dictionary k v) → IsValid i b → IsItem i (suc levels) (dictionary k v) b at next d → dictionary_at false one i k v b at ≡ Ok (d, next)
dictionary_complete i levels one complete k v b at next (dictionary_data j w es) lawful valid is =
    let array_is = array_complete i levels one complete (entry_kind k v) b at next (structs_of es) (entry_lawful k v lawful) valid (as_array_item i levels k v b at next j w es is) in
    let read : dictionary_at false one i k v b at ≡ Ok (dictionary_data k v es, next) = dictionary_is false one i k v b at ∙ ap (λ (r : Result (Data × ℕ) Fault). r >>= as_dictionary k v) array_is ∙ ap (λ (fs : Entries). done_at (dictionary_data k v fs) next) (entries-structs es) in
    read ∙ typed is.fits.0 is.fits.1
  where
    typed : j ≡ k → w ≡ v → done_at (dictionary_data k v es) next ≡ done_at (dictionary_data j w es) next
    typed p q = cc
dictionary_complete i levels one complete k v b at next d lawful valid is = absurd is.fits

-- structs

pub fields_again : (i : Input) (levels : ℕ) (one : Reader) → IsComplete i levels one → (b : Bound) → IsValid i b → (ks : Kinds) (ds : Items) (at next : ℕ) → AreLawful ks → next ≤ b.end → FieldsFit i.order levels at ds ks → Stands i at (spellings i.order at ds) next
    → fields_at (λ k q. one k b q) (types_in ks) at ≡ Ok (values_in ds, next)
fields_again i levels one complete b valid no_kinds no_items at next lawful within fit h = ap (λ (m : ℕ). Ok ([], m)) (omega (arith, h.0))
fields_again i levels one complete b valid no_kinds (item d ds) at next lawful within fit h = absurd fit
fields_again i levels one complete b valid (kind k ks) no_items at next lawful within fit h = absurd fit
fields_again i levels one complete b valid (kind k ks) (item d ds) at next lawful within fit h =
    let le : next ≤ length i.bytes = omega (arith, within, valid.long) in
    let s = spelling i.order at d in
    let mid = at + length s in
    let back = Stands-back i at next s (spellings i.order mid ds) le h in
    let first = complete k b at mid d lawful.0 valid (record { fits = fit.0; stands = Stands-front i at next s _ le h; within = omega (arith, back.0, within) }) in
    let others = fields_again i levels one complete b valid ks ds mid next lawful.1 within fit.1 back in
    rw (first, others) refl

structure_complete : (i : Input) (levels : ℕ) (one : Reader) → IsComplete i levels one → (ks : Kinds) (b : Bound) (at next : ℕ) (d : Data) → IsLawful (structure ks) → IsValid i b → IsItem i (suc levels) (structure ks) b at next d → structure_at false one i (types_in ks) b at ≡ Ok (d, next)
unfolding structure_at
structure_complete i levels one complete ks b at next (structure_data ds) lawful valid is =
    let p = aligned 8 at in
    let t = parts i 8 b at next (spellings i.order p ds) valid is.within is.stands in
    let fields = fields_again i levels one complete b valid ks ds p next (all_lawful ks lawful) is.within is.fits t.1 in
    let last : as_structure (values_in ds, next) ≡ Ok (structure_data ds, next) = ap (λ (es : Items). done_at (structure_data es) next) (items_of-values_in ds) in
    rw (padding_again i 8 b at (omega (arith, t.1.0, is.within)) t.0, fields) last
structure_complete i levels one complete ks b at next d lawful valid is = absurd is.fits

-- variants

variant_complete : (i : Input) (levels : ℕ) (one : Reader) → IsComplete i levels one → (b : Bound) (at next : ℕ) (d : Data) → IsValid i b → IsItem i (suc levels) variant b at next d → short_at (variant_body_at false one i b) i b at ≡ Ok (d, next)
unfolding variant_body_at inner_at
variant_complete i levels one complete b at next (variant_data k d) valid is =
    let sig = signature_bytes (single k) in
    let le : next ≤ length i.bytes = omega (arith, is.within, valid.long) in
    let inner_spelling = spelling i.order (at + 2 + length sig) d in
    let mid = at + length (counted_short sig) in
    let front = Stands-front i at next (counted_short sig) inner_spelling le is.stands in
    let back = Stands-back i at next (counted_short sig) inner_spelling le is.stands in
    let c = counted_short_again i b at mid sig valid (omega (arith, back.0, is.within)) front in
    let read : signature_in (short_in i at) ≡ Ok (k ∷ []) = ap signature_in c.body ∙ signature_in-again (single k) is.fits.0 in
    let place : at + 2 + length sig ≡ at + 2 + byte_in i at = ap (λ (m : ℕ). at + 2 + m) (sym c.count) in
    let inner : IsItem i levels k b (at + 2 + byte_in i at) next d =
    record {
      fits = subst (λ (m : ℕ). Fits i.order levels m d k) place is.fits.1;
      stands = subst (λ (m : ℕ). Stands i m (spelling i.order m d) next) place (subst (λ (m : ℕ). Stands i m inner_spelling next) (omega (arith, c.end, c.count)) back);
      within = is.within;
    } in
    let value = complete k b (at + 2 + byte_in i at) next d is.fits.0.lawful.0 valid inner in
    let body : variant_body_at false one i b at ≡ Ok (variant_data k d, next) = ap (variant_with false one i b at) read ∙ rw (c.ended, value) refl in
    short_again (variant_body_at false one i b) i b at (omega (arith, c.end, back.0, is.within)) ∙ body
variant_complete i levels one complete b at next d valid is = absurd is.fits

-- any item

level_complete : (i : Input) (levels : ℕ) (one : Reader) → IsComplete i levels one → IsComplete i (suc levels) (level false one i)
unfolding level single_at
level_complete i levels one complete (number n) b at next d lawful valid is = number_complete i (suc levels) n b at next d valid is
level_complete i levels one complete boolean b at next d lawful valid is = boolean_complete i (suc levels) b at next d valid is
level_complete i levels one complete text b at next d lawful valid is = text_complete i (suc levels) b at next d valid is
level_complete i levels one complete path b at next d lawful valid is = path_complete i (suc levels) b at next d valid is
level_complete i levels one complete signature b at next d lawful valid is = signature_complete i (suc levels) b at next d valid is
level_complete i levels one complete (array k) b at next d lawful valid is = array_any i levels one complete k b at next d lawful valid is
level_complete i levels one complete (structure ks) b at next d lawful valid is = structure_complete i levels one complete ks b at next d lawful valid is
level_complete i levels one complete variant b at next d lawful valid is = variant_complete i levels one complete b at next d valid is
level_complete i levels one complete (dictionary k v) b at next d lawful valid is = dictionary_complete i levels one complete k v b at next d lawful valid is

-- no container is spelled at the last level
abbrev IsHeld : Kind → Type 0
IsHeld k = (o : Order) (at : ℕ) (d : Data) → Fits o 0 at d k → ⊥

no_array : (k : Kind) → IsHeld (array k)
no_array k o at (array_data j ds) fit = fit
no_array k o at d fit = fit

no_structure : (ks : Kinds) → IsHeld (structure ks)
no_structure ks o at (structure_data ds) fit = fit
no_structure ks o at d fit = fit

no_variant : IsHeld variant
no_variant o at (variant_data k d) fit = fit
no_variant o at d fit = fit

no_dictionary : (k v : Kind) → IsHeld (dictionary k v)
no_dictionary k v o at (dictionary_data j w es) fit = fit
no_dictionary k v o at d fit = fit

deep_complete : (i : Input) (one : Reader) → IsComplete i 0 (level true one i)
unfolding level single_at
deep_complete i one (number n) b at next d lawful valid is = number_complete i 0 n b at next d valid is
deep_complete i one boolean b at next d lawful valid is = boolean_complete i 0 b at next d valid is
deep_complete i one text b at next d lawful valid is = text_complete i 0 b at next d valid is
deep_complete i one path b at next d lawful valid is = path_complete i 0 b at next d valid is
deep_complete i one signature b at next d lawful valid is = signature_complete i 0 b at next d valid is
deep_complete i one (array k) b at next d lawful valid is = absurd (no_array k i.order at d is.fits)
deep_complete i one (structure ks) b at next d lawful valid is = absurd (no_structure ks i.order at d is.fits)
deep_complete i one variant b at next d lawful valid is = absurd (no_variant i.order at d is.fits)
deep_complete i one (dictionary k v) b at next d lawful valid is = absurd (no_dictionary k v i.order at d is.fits)

pub IsComplete-read : (i : Input) (levels : ℕ) → IsComplete i levels (read i levels)
unfolding read
IsComplete-read i zero = deep_complete i nothing
IsComplete-read i (suc levels) = level_complete i levels (read i levels) (IsComplete-read i levels)
