-- What is read is spelled so.
use Rattle.std.proofs.Common.{◌≡◌, ℕ, zero, suc, ◌+◌, ◌-◌, ◌<◌, ◌≤◌, ◌^◌, Bool, true, false, cond, eqb, ltb, List, [], ◌∷◌, ◌++◌, length, encode_utf8_all, Option, Some, None, Result, Ok, Err, refl, sym, ap, subst, ◌∙◌, arith}
use Rattle.std.specs.Prelude.{◌==◌, ◌&&◌}
use Rattle.std.specs.Int.{Width, w32, byte_len}
use Rattle.std.proofs.lemmas.Bool.{ltb-false, ltb-true, eqb-true}
use Rattle.atspi_base.specs.Text.{HasNoZero}
use Rattle.atspi_base.specs.ReadsText.{text_in}
use Rattle.atspi_base.proofs.TextLemmas.{text_is}
use Rattle.atspi_base.specs.declared.text.TextFault.{TextFault}
use Rattle.atspi_base.specs.declared.text.TextFault.TheVariants.{Zero, Utf8}
use Rattle.atspi_base.specs.declared.text.TextFault.TheVariants.{NoMemory as TextNoMemory}
use Rattle.atspi_base.specs.valid_names.Names.{IsPath, is_path}
use Rattle.atspi_types.specs.Kinds.{Num, width, number_alignment, Kind, number, boolean, text, path, signature, array, structure, variant, dictionary, Kinds, no_kinds, kind, kinds_of, types_in, alignment, IsBasic, IsLawful, AreLawful}
use Rattle.atspi_types.specs.Signatures.{signature_bytes, IsSignature}
use Rattle.atspi_types.specs.Data.{Data, number_data, boolean_data, text_data, path_data, signature_data, array_data, structure_data, variant_data, dictionary_data, Items, no_items, item, items_of}
use Rattle.atspi_types.specs.SignatureReading.{signature_in}
use Rattle.atspi_types.specs.declared.fault.Order.{Order}
use Rattle.atspi_marshal.specs.declared.input.Bound.{Bound}
use Rattle.atspi_types.specs.declared.fault.Fault.{Fault}
use Rattle.atspi_marshal.specs.Input.{Input, Stands, number_bytes, number_in, byte_in, slice_in, aligned, whole, to_end}
use Rattle.atspi_marshal.specs.Spelling.{padding, counted, counted_short, start_of, array_spelling, single, spelling, spellings, entry_spellings, Fits, AllFit, FieldsFit, EntriesFit}
use Rattle.atspi_marshal.specs.Faults.{IsItem, AreItems, entry_kind, inside, long_in, short_in}
use Rattle.atspi_marshal.specs.Reading.{◌>>=◌, bad, passing_reason, Reader, padding_at, room_at, number_at, boolean_at, ended, text_with, text_body_at, path_body_at, long_place, long_at, short_place, short_at, signature_with, signature_body_at, as_variant, inner_at, variant_with, variant_body_at, put_first, elements_at, as_array, array_body_at, array_place, unless_deep, array_at, entries_in, as_dictionary, dictionary_body_at, dictionary_at, nothing, single_at, first_in, fields_first, fields_at, as_structure, first_of, deep_at, structure_at, level, read, decoded}
use Rattle.atspi_marshal.proofs.Places.{done, IsBytes, IsValid, Room, bind_ok, ok_is, passed, passed_not, length-slice, Stands-nil, Stands-append, Stands-slice, Stands-byte, room_then, padding_then, aligned-one, wide, wide32, number_takes}
use Rattle.atspi_types.proofs.SignatureLaws.{signature_in-read}
use Rattle.atspi_marshal.proofs.Levels.{dictionary_is}
use Rattle.atspi_marshal.proofs.Entries.{structs_of, structs-entries, entry_spellings-structs, all_entries_fit}
use Rattle.atspi_base.proofs.OfValidNames.NameLemmas.{IsPath-from_test}

-- what a reader of an item takes
pub record Takes (i : Input) (levels : ℕ) (k : Kind) (b : Bound) (at : ℕ) (x : Data × ℕ) : Type 0 where
  pub is : IsItem i levels k b at x.1 x.0
  pub more : at < x.1

abbrev pub IsSound : Input → ℕ → Reader → Type 0
IsSound i levels reader = (k : Kind) (b : Bound) (at : ℕ) (x : Data × ℕ) → IsLawful k → IsValid i b → reader k b at ≡ Ok x → Takes i levels k b at x

-- numbers and booleans

some_bytes : (n : Num) → 0 < byte_len (width n)
some_bytes Num.byte = omega arith
some_bytes Num.i16 = omega arith
some_bytes Num.u16 = omega arith
some_bytes Num.i32 = omega arith
some_bytes Num.u32 = omega arith
some_bytes Num.i64 = omega arith
some_bytes Num.u64 = omega arith
some_bytes Num.double = omega arith

number_sound : (i : Input) (levels : ℕ) (n : Num) (b : Bound) (at : ℕ) (x : Data × ℕ) → IsBytes i.bytes → IsValid i b → number_at i n b at ≡ Ok x → Takes i levels (number n) b at x
unfolding number_at
number_sound i levels n b at x h valid e =
    let len = byte_len (width n) in
    let a = room_then i (number_alignment n) len b at _ x valid e in
    let p = aligned (number_alignment n) at in
    let there = number_takes (width n) (wide n) i b p h valid a.0.within in
    subst (λ (y : Data × ℕ). Takes i levels (number n) b at y) (ok_is (number_data n (number_in i (width n) p), p + len) x a.1) (record {
      is = record { fits = (refl, there.1); stands = Stands-append i at p (p + len) (padding (number_alignment n) at) _ a.0.stands there.0; within = a.0.within };
      more = omega (arith, some_bytes n);
    })

-- a number of at most 1 is that of its boolean
small : (n : ℕ) → n ≤ 1 → cond (n == 1) 1 0 ≡ n
small zero le = refl
small (suc zero) le = refl
small (suc (suc n)) le = absurd (omega arith)

boolean_sound : (i : Input) (levels : ℕ) (b : Bound) (at : ℕ) (x : Data × ℕ) → IsBytes i.bytes → IsValid i b → boolean_at i b at ≡ Ok x → Takes i levels boolean b at x
unfolding boolean_at
boolean_sound i levels b at x h valid e =
    let a = room_then i 4 4 b at _ x valid e in
    let p = aligned 4 at in
    let n = number_in i w32 p in
    let g = passed (ltb 1 n) (record { place = p; reason = 11 }) _ x a.1 in
    let there = number_takes w32 wide32 i b p h valid a.0.within in
    let same : Stands i p (number_bytes i.order w32 (cond (n == 1) 1 0)) (p + 4) = rw (small n (ltb-false 1 n g.0)) there.0 in
    subst (λ (y : Data × ℕ). Takes i levels boolean b at y) (ok_is (boolean_data (n == 1), p + 4) x g.1) (record {
      is = record { fits = tt; stands = Stands-append i at p (p + 4) (padding 4 at) _ a.0.stands same; within = a.0.within };
      more = omega arith;
    })

-- texts, paths and signatures

-- a length of 32 bits was read, and its end is inside
pub record Long (i : Input) (b : Bound) (at : ℕ) : Type 0 where
  pub padded : Stands i at (padding 4 at) (aligned 4 at)
  pub fits : aligned 4 at + 5 + number_in i w32 (aligned 4 at) ≤ b.end

long_then : (body : ℕ → Result (Data × ℕ) Fault) (i : Input) (b : Bound) (at : ℕ) (x : Data × ℕ) → IsValid i b → long_at body i b at ≡ Ok x → Long i b at × (body (aligned 4 at) ≡ Ok x)
unfolding long_at long_place
long_then body i b at x valid e =
    let p = aligned 4 at in
    let n = number_in i w32 p in
    let c = bind_ok (long_place i b at) body x e in
    let a = room_then i 4 4 b at _ c.0 valid c.1 in
    let g = passed (ltb b.end (p + 5 + n)) (record { place = p; reason = b.reason }) (Ok p) c.0 a.1 in
    (record { padded = a.0.stands; fits = ltb-false b.end (p + 5 + n) g.0 }, subst (λ (q : ℕ). body q ≡ Ok x) (sym (ok_is p c.0 g.1)) c.2)

short_then : (body : ℕ → Result (Data × ℕ) Fault) (i : Input) (b : Bound) (at : ℕ) (x : Data × ℕ) → IsValid i b → short_at body i b at ≡ Ok x → (at + 2 + byte_in i at ≤ b.end) × (body at ≡ Ok x)
unfolding short_at short_place
short_then body i b at x valid e =
    let c = bind_ok (short_place i b at) body x e in
    let a = room_then i 1 1 b at _ c.0 valid c.1 in
    let rest = subst (λ (p : ℕ). cond (ltb b.end (p + 2 + byte_in i p)) (bad p b.reason) (Ok p) ≡ Ok c.0) (aligned-one at) a.1 in
    let g = passed (ltb b.end (at + 2 + byte_in i at)) (record { place = at; reason = b.reason }) (Ok at) c.0 rest in
    (ltb-false b.end (at + 2 + byte_in i at) g.0, subst (λ (q : ℕ). body q ≡ Ok x) (sym (ok_is at c.0 g.1)) c.2)

ended_then : (i : Input) (at : ℕ) (d : Data) (x : Data × ℕ) → ended i at d ≡ Ok x → (byte_in i at ≡ 0) × ((d, at + 1) ≡ x)
ended_then i at d x e =
    let g = passed_not (byte_in i at == 0) (record { place = at; reason = 12 }) (Ok (d, at + 1)) x e in
    (eqb-true _ 0 g.0, ok_is (d, at + 1) x g.1)

zero_stands : (i : Input) (at : ℕ) → at + 1 ≤ length i.bytes → byte_in i at ≡ 0 → Stands i at (0 ∷ []) (at + 1)
zero_stands i at le z = subst (λ (b : ℕ). Stands i at (b ∷ []) (at + 1)) z (Stands-byte i at le)

counted_stands : (i : Input) (b : Bound) (at : ℕ) (bytes : List ℕ) → IsBytes i.bytes → IsValid i b → Long i b at → long_in i (aligned 4 at) ≡ bytes → byte_in i (aligned 4 at + 4 + number_in i w32 (aligned 4 at)) ≡ 0
    → Stands i at (counted i.order at bytes) (aligned 4 at + 4 + number_in i w32 (aligned 4 at) + 1) × (length bytes < 2 ^ 32)
counted_stands i b at bytes h valid long same z =
    let p = aligned 4 at in
    let n = number_in i w32 p in
    let end = p + 4 + n in
    let inside_bytes : end + 1 ≤ length i.bytes = omega (arith, long.fits, valid.long) in
    let len : n ≡ length bytes = sym (length-slice i (p + 4) n (omega (arith, inside_bytes))) ∙ ap length same in
    let count = number_takes w32 wide32 i b p h valid (omega (arith, long.fits)) in
    let count_is : Stands i p (number_bytes i.order w32 (length bytes)) (p + 4) = subst (λ (m : ℕ). Stands i p (number_bytes i.order w32 m) (p + 4)) len count.0 in
    let body : Stands i (p + 4) bytes end = subst (λ (bs : List ℕ). Stands i (p + 4) bs end) same (Stands-slice i (p + 4) n (omega (arith, inside_bytes))) in
    let tail = Stands-append i (p + 4) end (end + 1) bytes (0 ∷ []) body (zero_stands i end inside_bytes z) in
    (Stands-append i at p (end + 1) (padding 4 at) _ long.padded (Stands-append i p (p + 4) (end + 1) _ _ count_is tail), omega (arith, len, count.1))

counted_short_stands : (i : Input) (b : Bound) (at : ℕ) (bytes : List ℕ) → IsValid i b → at + 2 + byte_in i at ≤ b.end → bytes ≡ short_in i at → byte_in i (at + 1 + byte_in i at) ≡ 0
    → Stands i at (counted_short bytes) (at + 2 + byte_in i at) × (length bytes ≡ byte_in i at)
counted_short_stands i b at bytes valid fits same z =
    let n = byte_in i at in
    let end = at + 1 + n in
    let inside_bytes : end + 1 ≤ length i.bytes = omega (arith, fits, valid.long) in
    let len : n ≡ length bytes = sym (length-slice i (at + 1) n (omega (arith, inside_bytes))) ∙ ap length (sym same) in
    let count : Stands i at (length bytes ∷ []) (at + 1) = subst (λ (m : ℕ). Stands i at (m ∷ []) (at + 1)) len (Stands-byte i at (omega (arith, inside_bytes))) in
    let body : Stands i (at + 1) bytes end = subst (λ (bs : List ℕ). Stands i (at + 1) bs end) (sym same) (Stands-slice i (at + 1) n (omega (arith, inside_bytes))) in
    let last : Stands i end (0 ∷ []) (at + 2 + n) = subst (λ (m : ℕ). Stands i end (0 ∷ []) m) (omega arith) (zero_stands i end inside_bytes z) in
    let tail = Stands-append i (at + 1) end (at + 2 + n) bytes (0 ∷ []) body last in
    (Stands-append i at (at + 1) (at + 2 + n) (length bytes ∷ []) _ count tail, sym len)

text_with_then : (i : Input) (p n : ℕ) (r : Result (List ℕ) TextFault) (x : Data × ℕ) → text_with i p n r ≡ Ok x → (cs : List ℕ) × (r ≡ Ok cs) × (byte_in i (p + 4 + n) ≡ 0) × ((text_data cs, p + 4 + n + 1) ≡ x)
text_with_then i p n (Ok cs) x e = let g = ended_then i (p + 4 + n) (text_data cs) x e in (cs, refl, g.0, g.1)
text_with_then i p n (Err (Zero z)) x e = absurd cc
text_with_then i p n (Err (Utf8 z)) x e = absurd cc
text_with_then i p n (Err TextNoMemory) x e = absurd cc

text_sound : (i : Input) (levels : ℕ) (b : Bound) (at : ℕ) (x : Data × ℕ) → IsBytes i.bytes → IsValid i b → long_at (text_body_at i) i b at ≡ Ok x → Takes i levels text b at x
unfolding text_body_at
text_sound i levels b at x h valid e =
    let p = aligned 4 at in
    let n = number_in i w32 p in
    let a = long_then (text_body_at i) i b at x valid e in
    let t = text_with_then i p n (text_in (long_in i p)) x a.1 in
    let is = text_is (long_in i p) t.0 t.1 in
    let there = counted_stands i b at (encode_utf8_all t.0) h valid a.0 (sym is.0) t.2 in
    subst (λ (y : Data × ℕ). Takes i levels text b at y) t.3 (record {
      is = record { fits = (is.1, subst (λ (bs : List ℕ). HasNoZero bs) (sym is.0) is.2, there.1); stands = there.0; within = omega (arith, a.0.fits) };
      more = omega arith;
    })

path_sound : (i : Input) (levels : ℕ) (b : Bound) (at : ℕ) (x : Data × ℕ) → IsBytes i.bytes → IsValid i b → long_at (path_body_at i) i b at ≡ Ok x → Takes i levels path b at x
unfolding path_body_at
path_sound i levels b at x h valid e =
    let p = aligned 4 at in
    let n = number_in i w32 p in
    let a = long_then (path_body_at i) i b at x valid e in
    let g = passed_not (is_path (long_in i p)) (record { place = p; reason = 15 }) (ended i (p + 4 + n) (path_data (long_in i p))) x a.1 in
    let t = ended_then i (p + 4 + n) (path_data (long_in i p)) x g.1 in
    let there = counted_stands i b at (long_in i p) h valid a.0 refl t.0 in
    subst (λ (y : Data × ℕ). Takes i levels path b at y) t.1 (record {
      is = record { fits = (IsPath-from_test (long_in i p) g.0, there.1); stands = there.0; within = omega (arith, a.0.fits) };
      more = omega arith;
    })

signature_with_then : (i : Input) (p : ℕ) (r : Result (List Kind) Fault) (x : Data × ℕ) → signature_with i p r ≡ Ok x → (ks : List Kind) × (r ≡ Ok ks) × (byte_in i (p + 1 + byte_in i p) ≡ 0) × ((signature_data (kinds_of ks), p + 1 + byte_in i p + 1) ≡ x)
signature_with_then i p (Ok ks) x e = let g = ended_then i (p + 1 + byte_in i p) (signature_data (kinds_of ks)) x e in (ks, refl, g.0, g.1)
signature_with_then i p (Err f) x e = absurd cc

signature_sound : (i : Input) (levels : ℕ) (b : Bound) (at : ℕ) (x : Data × ℕ) → IsValid i b → short_at (signature_body_at i) i b at ≡ Ok x → Takes i levels signature b at x
unfolding signature_body_at
signature_sound i levels b at x valid e =
    let a = short_then (signature_body_at i) i b at x valid e in
    let t = signature_with_then i at (signature_in (short_in i at)) x a.1 in
    let ks = kinds_of t.0 in
    let reads = signature_in-read (short_in i at) t.0 t.1 in
    let there = counted_short_stands i b at (signature_bytes ks) valid a.0 (sym reads.spelled) t.2 in
    let end : at + 2 + byte_in i at ≡ at + 1 + byte_in i at + 1 = omega arith in
    subst (λ (y : Data × ℕ). Takes i levels signature b at y) t.3 (record {
      is = record { fits = reads.is; stands = subst (λ (m : ℕ). Stands i at (counted_short (signature_bytes ks)) m) end there.0; within = omega (arith, a.0) };
      more = omega arith;
    })

-- arrays

abbrev pub FromTo : Input → ℕ → Kind → Bound → Reader → ℕ → Type 0
FromTo i levels k b one fuel = (at : ℕ) (ds : List Data) → at ≤ b.end → b.end ≤ at + fuel → elements_at (one k b) b.end fuel at ≡ Ok ds → AreItems i levels k b at b.end (items_of ds)

no_more : (i : Input) (levels : ℕ) (k : Kind) (b : Bound) (at : ℕ) (ds : List Data) → at ≡ b.end → done {A = List Data} [] ≡ Ok ds → AreItems i levels k b at b.end (items_of ds)
no_more i levels k b at ds same e =
    subst (λ (es : List Data). AreItems i levels k b at b.end (items_of es)) (ok_is [] ds e) (record { fit = tt; stand = subst (λ (n : ℕ). Stands i at [] n) same (Stands-nil i at); within = omega arith })

one_more : (i : Input) (levels : ℕ) (k : Kind) (b : Bound) (one : Reader) → IsSound i levels one → IsValid i b → IsLawful k → (fuel at : ℕ) (ds : List Data) → at ≤ b.end → b.end ≤ at + suc fuel → FromTo i levels k b one fuel
    → (t : Bool) → ltb at b.end ≡ t → cond t (one k b at >>= λ x. elements_at (one k b) b.end fuel x.1 >>= put_first x.0) (Ok []) ≡ Ok ds → AreItems i levels k b at b.end (items_of ds)
one_more i levels k b one sound valid lawful fuel at ds low high again false t e = no_more i levels k b at ds (omega (arith, low, ltb-false at b.end t)) e
one_more i levels k b one sound valid lawful fuel at ds low high again true t e =
    let a = bind_ok (one k b at) (λ x. elements_at (one k b) b.end fuel x.1 >>= put_first x.0) ds e in
    let c = bind_ok (elements_at (one k b) b.end fuel a.0.1) (put_first a.0.0) ds a.2 in
    let first = sound k b at a.0 lawful valid a.1 in
    let others = again a.0.1 c.0 first.is.within (omega (arith, high, first.more)) c.1 in
    let mid : a.0.1 ≡ at + length (spelling i.order at a.0.0) = first.is.stands.0 in
    let stand : Stands i a.0.1 (spellings i.order (at + length (spelling i.order at a.0.0)) (items_of c.0)) b.end = subst (λ (m : ℕ). Stands i a.0.1 (spellings i.order m (items_of c.0)) b.end) mid others.stand in
    let fit : AllFit i.order levels (at + length (spelling i.order at a.0.0)) (items_of c.0) k = subst (λ (m : ℕ). AllFit i.order levels m (items_of c.0) k) mid others.fit in
    subst (λ (es : List Data). AreItems i levels k b at b.end (items_of es)) (ok_is (a.0.0 ∷ c.0) ds c.2) (record {
      fit = (first.is.fits, fit);
      stand = Stands-append i at a.0.1 b.end (spelling i.order at a.0.0) _ first.is.stands stand;
      within = omega arith;
    })

-- elements from a place to the end
elements_sound : (i : Input) (levels : ℕ) (k : Kind) (b : Bound) (one : Reader) → IsSound i levels one → IsValid i b → IsLawful k → (fuel : ℕ) → FromTo i levels k b one fuel
elements_sound i levels k b one sound valid lawful zero at ds low high e = no_more i levels k b at ds (omega (arith, low, high)) e
elements_sound i levels k b one sound valid lawful (suc fuel) at ds low high e = one_more i levels k b one sound valid lawful fuel at ds low high (elements_sound i levels k b one sound valid lawful fuel) (ltb at b.end) refl e

-- what stands behind the length of an array, up to its end
array_takes : (i : Input) (levels : ℕ) (one : Reader) → IsSound i levels one → (k : Kind) (p : ℕ) (x : Data × ℕ) → IsLawful k → IsValid i (inside k p (number_in i w32 p)) → array_body_at one i k p ≡ Ok x
    → (ds : Items) × AreItems i levels k (inside k p (number_in i w32 p)) (aligned (alignment k) (p + 4)) (inside k p (number_in i w32 p)).end ds × Stands i (p + 4) (padding (alignment k) (p + 4)) (aligned (alignment k) (p + 4)) × ((array_data k ds, (inside k p (number_in i w32 p)).end) ≡ x)
unfolding array_body_at
array_takes i levels one sound k p x lawful valid e =
    let n = number_in i w32 p in
    let within = inside k p n in
    let s = aligned (alignment k) (p + 4) in
    let a = padding_then i (alignment k) within (p + 4) _ x valid e in
    let d = bind_ok (elements_at (one k within) within.end n s) (as_array k within.end) x a.1 in
    let items = elements_sound i levels k within one sound valid lawful n s d.0 (omega arith) (omega arith) d.1 in
    (items_of d.0, items, a.0.stands, ok_is (array_data k (items_of d.0), within.end) x d.2)

array_sound : (i : Input) (levels : ℕ) (one : Reader) → IsBytes i.bytes → IsSound i levels one → (k : Kind) (b : Bound) (at : ℕ) (x : Data × ℕ) → IsLawful k → IsValid i b → array_at false one i k b at ≡ Ok x
    → Takes i (suc levels) (array k) b at x × ((ds : Items) × (x.0 ≡ array_data k ds))
unfolding array_at array_place
array_sound i levels one h sound k b at x lawful valid e =
    let c = bind_ok (array_place i (alignment k) b at) (unless_deep false (array_body_at one i k)) x e in
    let a = room_then i 4 4 b at _ c.0 valid c.1 in
    let p = aligned 4 at in
    let n = number_in i w32 p in
    let within = inside k p n in
    let s = aligned (alignment k) (p + 4) in
    let g17 = passed (ltb 67108864 n) (record { place = p; reason = 17 }) _ c.0 a.1 in
    let g18 = passed (ltb b.end within.end) (record { place = p; reason = b.reason }) (Ok p) c.0 g17.1 in
    let fits_end : within.end ≤ b.end = ltb-false b.end within.end g18.0 in
    let valid_inside : IsValid i within = record { long = omega (arith, valid.long, fits_end); late = (omega arith, omega arith) } in
    let t = array_takes i levels one sound k p x lawful valid_inside (subst (λ (q : ℕ). array_body_at one i k q ≡ Ok x) (sym (ok_is p c.0 g18.1)) c.2) in
    let ds = t.0 in
    let count = number_takes w32 wide32 i b p h valid a.0.within in
    let es = spellings i.order s ds in
    let len : n ≡ length es = omega (arith, t.1.stand.0) in
    let count_is : Stands i p (number_bytes i.order w32 (length es)) (p + 4) = subst (λ (m : ℕ). Stands i p (number_bytes i.order w32 m) (p + 4)) len count.0 in
    let tail : Stands i (p + 4) (padding (alignment k) (p + 4) ++ es) within.end = Stands-append i (p + 4) s within.end _ es t.2 t.1.stand in
    let body = Stands-append i p (p + 4) within.end _ _ count_is tail in
    let all = Stands-append i at p within.end (padding 4 at) _ a.0.stands body in (
      subst (λ (y : Data × ℕ). Takes i (suc levels) (array k) b at y) t.3 (record {
        is = record { fits = (refl, omega (arith, len, ltb-false 67108864 n g17.0), t.1.fit); stands = all; within = fits_end };
        more = omega arith;
      }),
      (ds, sym (ap (λ (y : Data × ℕ). y.0) t.3)),
    )

-- an array of entries is a dictionary
as_dictionary_sound : (i : Input) (levels : ℕ) (k v : Kind) (b : Bound) (at : ℕ) (y x : Data × ℕ) (ds : Items) → Takes i (suc levels) (array (entry_kind k v)) b at y → y.0 ≡ array_data (entry_kind k v) ds → as_dictionary k v y ≡ Ok x → Takes i (suc levels) (dictionary k v) b at x
as_dictionary_sound i levels k v b at y x ds t same e =
    let s = start_of 8 at in
    let es = entries_in ds in
    let t' : Takes i (suc levels) (array (entry_kind k v)) b at (array_data (entry_kind k v) ds, y.1) = subst (λ (d : Data). Takes i (suc levels) (array (entry_kind k v)) b at (d, y.1)) same t in
    let made : done (dictionary_data k v es, y.1) ≡ Ok x = subst (λ (d : Data). as_dictionary k v (d, y.1) ≡ Ok x) same e in
    let back : structs_of es ≡ ds = structs-entries i.order levels s ds k v t'.is.fits.2 in
    let spelled : entry_spellings i.order s es ≡ spellings i.order s ds = entry_spellings-structs i.order s es ∙ ap (λ (fs : Items). spellings i.order s fs) back in
    let fit : EntriesFit i.order levels s es k v = all_entries_fit i.order levels s es k v (subst (λ (fs : Items). AllFit i.order levels s fs (entry_kind k v)) (sym back) t'.is.fits.2) in
    subst (λ (z : Data × ℕ). Takes i (suc levels) (dictionary k v) b at z) (ok_is (dictionary_data k v es, y.1) x made) (record {
      is = record {
        fits = (refl, refl, subst (λ (bs : List ℕ). length bs ≤ 67108864) (sym spelled) t'.is.fits.1, fit);
        stands = subst (λ (bs : List ℕ). Stands i at (array_spelling i.order at 8 bs) y.1) (sym spelled) t'.is.stands;
        within = t'.is.within;
      };
      more = t'.more;
    })

basic_lawful : (k : Kind) → IsBasic k → IsLawful k
basic_lawful (number n) basic = tt
basic_lawful boolean basic = tt
basic_lawful text basic = tt
basic_lawful path basic = tt
basic_lawful signature basic = tt
basic_lawful (array k) basic = absurd basic
basic_lawful (structure ks) basic = absurd basic
basic_lawful variant basic = absurd basic
basic_lawful (dictionary k v) basic = absurd basic

pub entry_lawful : (k v : Kind) → IsLawful (dictionary k v) → IsLawful (entry_kind k v)
entry_lawful k v lawful = (basic_lawful k lawful.0, (lawful.1, tt))

dictionary_sound : (i : Input) (levels : ℕ) (one : Reader) → IsBytes i.bytes → IsSound i levels one → (k v : Kind) (b : Bound) (at : ℕ) (x : Data × ℕ) → IsLawful (dictionary k v) → IsValid i b → dictionary_at false one i k v b at ≡ Ok x → Takes i (suc levels) (dictionary k v) b at x
dictionary_sound i levels one h sound k v b at x lawful valid e =
    let a = bind_ok (array_at false one i (entry_kind k v) b at) (as_dictionary k v) x (sym (dictionary_is false one i k v b at) ∙ e) in
    let t = array_sound i levels one h sound (entry_kind k v) b at a.0 (entry_lawful k v lawful) valid a.1 in
    as_dictionary_sound i levels k v b at a.0 x t.1.0 t.0 t.1.1 a.2

-- structs

-- some fields take some bytes
abbrev Grows : Kinds → ℕ → ℕ → Type 0
Grows no_kinds at next = Unit {0}
Grows (kind k ks) at next = at < next

abbrev FieldsTaken : Input → ℕ → Kinds → Bound → ℕ → List Data × ℕ → Type 0
FieldsTaken i levels ks b at x = FieldsFit i.order levels at (items_of x.0) ks × Stands i at (spellings i.order at (items_of x.0)) x.1 × (x.1 ≤ b.end) × Grows ks at x.1

fields_sound : (i : Input) (levels : ℕ) (one : Reader) → IsSound i levels one → (b : Bound) → IsValid i b → (ks : Kinds) (at : ℕ) (x : List Data × ℕ) → AreLawful ks → at ≤ b.end → fields_at (λ k q. one k b q) (types_in ks) at ≡ Ok x → FieldsTaken i levels ks b at x
fields_sound i levels one sound b valid no_kinds at x lawful low e = subst (λ (y : List Data × ℕ). FieldsTaken i levels no_kinds b at y) (ok_is ([], at) x e) (tt, Stands-nil i at, low, tt)
fields_sound i levels one sound b valid (kind k ks) at x lawful low e =
    let a = bind_ok (one k b at) _ x e in
    let c = bind_ok (fields_at (λ k q. one k b q) (types_in ks) a.0.1) (fields_first a.0.0) x a.2 in
    let first = sound k b at a.0 lawful.0 valid a.1 in
    let others = fields_sound i levels one sound b valid ks a.0.1 c.0 lawful.1 first.is.within c.1 in
    let d = a.0.0 in
    let mid : a.0.1 ≡ at + length (spelling i.order at d) = first.is.stands.0 in
    let stand : Stands i a.0.1 (spellings i.order (at + length (spelling i.order at d)) (items_of c.0.0)) c.0.1 = subst (λ (m : ℕ). Stands i a.0.1 (spellings i.order m (items_of c.0.0)) c.0.1) mid others.1 in
    let fit : FieldsFit i.order levels (at + length (spelling i.order at d)) (items_of c.0.0) ks = subst (λ (m : ℕ). FieldsFit i.order levels m (items_of c.0.0) ks) mid others.0 in
    subst (λ (y : List Data × ℕ). FieldsTaken i levels (kind k ks) b at y) (ok_is (d ∷ c.0.0, c.0.1) x c.2)
    ((first.is.fits, fit), Stands-append i at a.0.1 c.0.1 (spelling i.order at d) _ first.is.stands stand, others.2, omega (arith, first.more, others.1.0))

some_grow : (ks : Kinds) (p at next : ℕ) → IsLawful (structure ks) → at ≤ p → Grows ks p next → at < next
some_grow no_kinds p at next lawful le g = absurd lawful
some_grow (kind k ks) p at next lawful le g = omega (arith, le, g)

pub all_lawful : (ks : Kinds) → IsLawful (structure ks) → AreLawful ks
all_lawful no_kinds lawful = tt
all_lawful (kind k ks) lawful = lawful

structure_sound : (i : Input) (levels : ℕ) (one : Reader) → IsSound i levels one → (ks : Kinds) (b : Bound) (at : ℕ) (x : Data × ℕ) → IsLawful (structure ks) → IsValid i b → structure_at false one i (types_in ks) b at ≡ Ok x → Takes i (suc levels) (structure ks) b at x
unfolding structure_at
structure_sound i levels one sound ks b at x lawful valid e =
    let a = padding_then i 8 b at _ x valid e in
    let p = aligned 8 at in
    let c = bind_ok (fields_at (λ k q. one k b q) (types_in ks) p) as_structure x a.1 in
    let t = fields_sound i levels one sound b valid ks p c.0 (all_lawful ks lawful) (omega (arith, a.0.within)) c.1 in
    subst (λ (y : Data × ℕ). Takes i (suc levels) (structure ks) b at y) (ok_is (structure_data (items_of c.0.0), c.0.1) x c.2) (record {
      is = record { fits = t.0; stands = Stands-append i at p c.0.1 (padding 8 at) _ a.0.stands t.1; within = t.2 };
      more = some_grow ks p at c.0.1 lawful (omega arith) t.3;
    })

-- variants

-- the signature at a place p and the value behind it
pub record Varied (i : Input) (levels : ℕ) (b : Bound) (p : ℕ) (x : Data × ℕ) (r : Result (List Kind) Fault) : Type 0 where
  pub type : Kind
  pub value : Data
  pub named : r ≡ Ok (type ∷ [])
  pub ended : byte_in i (p + 1 + byte_in i p) ≡ 0
  pub took : Takes i levels type b (p + 2 + byte_in i p) (value, x.1)
  pub is : x.0 ≡ variant_data type value

inner_takes : (i : Input) (levels : ℕ) (one : Reader) → IsSound i levels one → (k : Kind) (b : Bound) (p : ℕ) (x : Data × ℕ) → IsLawful k → IsValid i b → inner_at false one i b p k ≡ Ok x
    → Varied i levels b p x (Ok (k ∷ []))
unfolding inner_at
inner_takes i levels one sound k b p x lawful valid e =
    let n = byte_in i p in
    let g = passed_not (byte_in i (p + 1 + n) == 0) (record { place = p + 1 + n; reason = 12 }) (one k b (p + 2 + n) >>= as_variant k) x e in
    let a = bind_ok (one k b (p + 2 + n)) (as_variant k) x g.1 in
    let made = ok_is (variant_data k a.0.0, a.0.1) x a.2 in
    let took = sound k b (p + 2 + n) a.0 lawful valid a.1 in
    record {
      type = k;
      value = a.0.0;
      named = refl;
      ended = eqb-true _ 0 g.0;
      took = subst (λ (m : ℕ). Takes i levels k b (p + 2 + n) (a.0.0, m)) (ap (λ (y : Data × ℕ). y.1) made) took;
      is = sym (ap (λ (y : Data × ℕ). y.0) made);
    }

variant_with_takes : (i : Input) (levels : ℕ) (one : Reader) → IsSound i levels one → (b : Bound) (p : ℕ) (r : Result (List Kind) Fault) (x : Data × ℕ) → ((ks : List Kind) → r ≡ Ok ks → AreLawful (kinds_of ks)) → IsValid i b
    → variant_with false one i b p r ≡ Ok x → Varied i levels b p x r
variant_with_takes i levels one sound b p (Ok []) x lawful valid e = absurd cc
variant_with_takes i levels one sound b p (Ok (k ∷ [])) x lawful valid e = inner_takes i levels one sound k b p x (lawful (k ∷ []) refl).0 valid e
variant_with_takes i levels one sound b p (Ok (k ∷ j ∷ ks)) x lawful valid e = absurd cc
variant_with_takes i levels one sound b p (Err f) x lawful valid e = absurd cc

variant_sound : (i : Input) (levels : ℕ) (one : Reader) → IsSound i levels one → (b : Bound) (at : ℕ) (x : Data × ℕ) → IsValid i b → short_at (variant_body_at false one i b) i b at ≡ Ok x → Takes i (suc levels) variant b at x
unfolding variant_body_at
variant_sound i levels one sound b at x valid e =
    let n = byte_in i at in
    let a = short_then (variant_body_at false one i b) i b at x valid e in
    let lawful : (ks : List Kind) → signature_in (short_in i at) ≡ Ok ks → AreLawful (kinds_of ks) = λ ks same. (signature_in-read (short_in i at) ks same).is.lawful in
    let v = variant_with_takes i levels one sound b at (signature_in (short_in i at)) x lawful valid a.1 in
    let reads = signature_in-read (short_in i at) (v.type ∷ []) v.named in
    let there = counted_short_stands i b at (signature_bytes (single v.type)) valid a.0 (sym reads.spelled) v.ended in
    let inner_at : at + 2 + n ≡ at + 2 + length (signature_bytes (single v.type)) = omega (arith, there.1) in
    let inner : Stands i (at + 2 + n) (spelling i.order (at + 2 + length (signature_bytes (single v.type))) v.value) x.1 = subst (λ (m : ℕ). Stands i (at + 2 + n) (spelling i.order m v.value) x.1) inner_at v.took.is.stands in
    let inner_fits : Fits i.order levels (at + 2 + length (signature_bytes (single v.type))) v.value v.type = subst (λ (m : ℕ). Fits i.order levels m v.value v.type) inner_at v.took.is.fits in
    let all = Stands-append i at (at + 2 + n) x.1 (counted_short (signature_bytes (single v.type))) _ there.0 inner in
    subst (λ (y : Data). Takes i (suc levels) variant b at (y, x.1)) (sym v.is) (record {
      is = record { fits = (reads.is, inner_fits); stands = all; within = v.took.is.within };
      more = omega (arith, v.took.more);
    })

-- any item

level_sound : (i : Input) (levels : ℕ) (one : Reader) → IsBytes i.bytes → IsSound i levels one → IsSound i (suc levels) (level false one i)
unfolding level single_at
level_sound i levels one h sound (number n) b at x lawful valid e = number_sound i (suc levels) n b at x h valid e
level_sound i levels one h sound boolean b at x lawful valid e = boolean_sound i (suc levels) b at x h valid e
level_sound i levels one h sound text b at x lawful valid e = text_sound i (suc levels) b at x h valid e
level_sound i levels one h sound path b at x lawful valid e = path_sound i (suc levels) b at x h valid e
level_sound i levels one h sound signature b at x lawful valid e = signature_sound i (suc levels) b at x valid e
level_sound i levels one h sound (array k) b at x lawful valid e = (array_sound i levels one h sound k b at x lawful valid e).0
level_sound i levels one h sound (structure ks) b at x lawful valid e = structure_sound i levels one sound ks b at x lawful valid e
level_sound i levels one h sound variant b at x lawful valid e = variant_sound i levels one sound b at x valid e
level_sound i levels one h sound (dictionary k v) b at x lawful valid e = dictionary_sound i levels one h sound k v b at x lawful valid e

-- no container is read at the last level

all_bad : {A : Type 0} (t u : Bool) (f g h : Fault) (x : A) → cond t (Err f) (cond u (Err g) (Err h)) ≡ Ok x → ⊥
all_bad true u f g h x e = cc
all_bad false true f g h x e = cc
all_bad false false f g h x e = cc

bad_deep : (r : Result ℕ Fault) (body : ℕ → Result (Data × ℕ) Fault) (x : Data × ℕ) → (r >>= unless_deep true body) ≡ Ok x → ⊥
bad_deep (Ok p) body x e = cc
bad_deep (Err f) body x e = cc

array_deep : (i : Input) (one : Reader) (k : Kind) (b : Bound) (at : ℕ) (x : Data × ℕ) → array_at true one i k b at ≡ Ok x → ⊥
unfolding array_at
array_deep i one k b at x e = bad_deep (array_place i (alignment k) b at) (array_body_at one i k) x e

dictionary_deep : (i : Input) (one : Reader) (k v : Kind) (b : Bound) (at : ℕ) (x : Data × ℕ) → dictionary_at true one i k v b at ≡ Ok x → ⊥
unfolding dictionary_at
dictionary_deep i one k v b at x e = bad_deep (array_place i 8 b at) (dictionary_body_at one i k v) x e

deep_bad : (p : ℕ) (r : Result (Data × ℕ) Fault) (x : Data × ℕ) → deep_at p r ≡ Ok x → ⊥
deep_bad p (Ok y) x e = cc
deep_bad p (Err f) x e = all_bad (ltb f.reason 20 && f.place == p) true f (record { place = p; reason = 20 }) f x e

deep_end : (r : Result ℕ Fault) (f : ℕ → Result (Data × ℕ) Fault) (x : Data × ℕ) → (r >>= λ p. deep_at p (f p)) ≡ Ok x → ⊥
deep_end (Ok p) f x e = deep_bad p (f p) x e
deep_end (Err g) f x e = cc

structure_deep : (i : Input) (one : Reader) (ks : List Kind) (b : Bound) (at : ℕ) (x : Data × ℕ) → structure_at true one i ks b at ≡ Ok x → ⊥
unfolding structure_at
structure_deep i one ks b at x e = deep_end (padding_at i 8 b at) (λ p. single_at true one i (first_in ks) b p) x e

variant_deep : (i : Input) (one : Reader) (b : Bound) (p : ℕ) (r : Result (List Kind) Fault) (x : Data × ℕ) → variant_with true one i b p r ≡ Ok x → ⊥
unfolding inner_at
variant_deep i one b p (Ok []) x e = cc
variant_deep i one b p (Ok (k ∷ [])) x e = cc
variant_deep i one b p (Ok (k ∷ j ∷ ks)) x e = cc
variant_deep i one b p (Err f) x e = cc

deep_sound : (i : Input) (one : Reader) → IsBytes i.bytes → IsSound i 0 (level true one i)
unfolding level single_at variant_body_at
deep_sound i one h (number n) b at x lawful valid e = number_sound i 0 n b at x h valid e
deep_sound i one h boolean b at x lawful valid e = boolean_sound i 0 b at x h valid e
deep_sound i one h text b at x lawful valid e = text_sound i 0 b at x h valid e
deep_sound i one h path b at x lawful valid e = path_sound i 0 b at x h valid e
deep_sound i one h signature b at x lawful valid e = signature_sound i 0 b at x valid e
deep_sound i one h (array k) b at x lawful valid e = absurd (array_deep i one k b at x e)
deep_sound i one h (structure ks) b at x lawful valid e = absurd (structure_deep i one (types_in ks) b at x e)
deep_sound i one h variant b at x lawful valid e = absurd (variant_deep i one b at _ x (short_then (variant_body_at true one i b) i b at x valid e).1)
deep_sound i one h (dictionary k v) b at x lawful valid e = absurd (dictionary_deep i one k v b at x e)

pub IsSound-read : (i : Input) (levels : ℕ) → IsBytes i.bytes → IsSound i levels (read i levels)
unfolding read
IsSound-read i zero h = deep_sound i nothing h
IsSound-read i (suc levels) h = level_sound i levels (read i levels) h (IsSound-read i levels h)
