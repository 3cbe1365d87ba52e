-- Writing what holds other values.
use Rattle.std.proofs.Common.{◌≡◌, ℕ, zero, suc, ◌+◌, ◌-◌, ◌<◌, ◌≤◌, List, [], ◌∷◌, ◌++◌, length, take, drop, Result, Ok, Err, refl, sym, ap, subst, ◌∙◌, append_assoc, arith}
use Rattle.std.specs.Int.{w32}
use Rattle.std.proofs.lemmas.List.{append-nil, length-append, take_at, drop_at}
use Rattle.atspi_types.specs.Kinds.{Kind, array, structure, dictionary, variant, alignment, IsLawful, IsBasic}
use Rattle.atspi_types.specs.Data.{Data, array_data, structure_data, dictionary_data, variant_data, Items, no_items, item, items_of, Entries, no_entries, entry, entries_of, type_of, types_of, IsWellTyped, AreWellTyped, AllHaveType, AllHaveTypes}
use Rattle.atspi_types.specs.Signatures.{signature_bytes, FitsSignature, IsSignature}
use Rattle.atspi_types.specs.declared.fault.Order.{Order}
use Rattle.atspi_marshal.specs.declared.writing.fault.WriteFault.{WriteFault}
use Rattle.atspi_marshal.specs.declared.writing.fault.WriteFault.TheVariants as faults
use Rattle.atspi_marshal.specs.Input.{number_bytes, aligned}
use Rattle.atspi_marshal.specs.Spelling.{zeros, padding, counted_short, start_of, array_spelling, single, spelling, spellings, entry_spellings, IsShort, Fits, AllFit, FieldsFit, EntriesFit}
use Rattle.atspi_marshal.specs.Faults.{entry_kind}
use Rattle.atspi_marshal.specs.Reading.{struct_of, structs_in}
use Rattle.atspi_marshal.specs.Writing.{IsWritten, Writes, IsPadded}
use Rattle.atspi_marshal.proofs.Places.{wide32}
use Rattle.atspi_marshal.proofs.Entries.{structs_of, entry_spellings-structs, entries_fit, all_entries_fit}
use Rattle.atspi_marshal.proofs.WritingSteps.{array_front, length_padding, Writes-behind, Writes-refused}

-- bytes written over others that stand behind a front
pub set_over : (old p z s n : List ℕ) (i : ℕ) → i ≡ length old + length p → length z ≡ 4 → take i (old ++ (p ++ (z ++ s))) ++ (n ++ drop (i + 4) (old ++ (p ++ (z ++ s)))) ≡ old ++ (p ++ (n ++ s))
set_over old p z s n i is four =
    let len : length (old ++ p) ≡ i = omega (arith, length-append old p) in
    let longer : length ((old ++ p) ++ z) ≡ i + 4 = omega (arith, length-append (old ++ p) z) in
    let one : old ++ (p ++ (z ++ s)) ≡ (old ++ p) ++ (z ++ s) = simp append_assoc in
    let two : old ++ (p ++ (z ++ s)) ≡ ((old ++ p) ++ z) ++ s = simp append_assoc in
    let front : take i (old ++ (p ++ (z ++ s))) ≡ old ++ p = ap (λ (bs : List ℕ). take i bs) one ∙ take_at (old ++ p) (z ++ s) i len in
    let back : drop (i + 4) (old ++ (p ++ (z ++ s))) ≡ s = ap (λ (bs : List ℕ). drop (i + 4) bs) two ∙ drop_at ((old ++ p) ++ z) s (i + 4) longer in
    rw (front, back) (append_assoc old p (n ++ s))

length_front : (n at : ℕ) → at + length (array_front n at) ≡ start_of n at
length_front n at =
    let pad = padding n (aligned 4 at + 4) in
    omega (arith, length_padding 4 at, length_padding n (aligned 4 at + 4), length-append (padding 4 at) (zeros 4 ++ pad), length-append (zeros 4) pad)

length_array : (o : Order) (at n : ℕ) (elements : List ℕ) → at + length (array_spelling o at n elements) ≡ start_of n at + length elements
length_array o at n elements =
    let pad = padding n (aligned 4 at + 4) in
    let number = number_bytes o w32 (length elements) in
    omega (arith, length_padding 4 at, length_padding n (aligned 4 at + 4), length-append (padding 4 at) (number ++ (pad ++ elements)), length-append number (pad ++ elements), wide32.long o (length elements), length-append pad elements)

started : (n at first : ℕ) (old opened : List ℕ) → IsWritten (Unit {0}) (array_front n at) at old opened first → first ≡ start_of n at
started n at first old opened w = w.place ∙ length_front n at

-- where the length of an array stands
pub record LengthStands (at first : ℕ) (old opened : List ℕ) : Type 0 where
  pub before : aligned 4 at + 4 ≤ first
  pub within : first - aligned 4 at ≤ length opened
  pub index : length opened - (first - aligned 4 at) ≡ length old + length (padding 4 at)
  pub room : length opened - (first - aligned 4 at) + 4 ≤ length opened

pub length_stands : (n at first : ℕ) (old opened : List ℕ) → IsWritten (Unit {0}) (array_front n at) at old opened first → LengthStands at first old opened
length_stands n at first old opened w =
    let pad = padding n (aligned 4 at + 4) in
    let all : length opened ≡ length old + length (array_front n at) = ap length w.appended ∙ length-append old (array_front n at) in
    let four : length (padding 4 at) + 4 ≤ length (array_front n at) = omega (arith, length-append (padding 4 at) (zeros 4 ++ pad), length-append (zeros 4) pad) in
    let there : first ≡ at + length (array_front n at) = w.place in
    let padded = length_padding 4 at in
    record { before = omega (arith, there, four, padded); within = omega (arith, all, there, four, padded); index = omega (arith, all, there, four, padded); room = omega (arith, all, there, four, padded) }

-- elements that were refused refuse the array
array_refused : (o : Order) (n at first : ℕ) (E : ℕ → List ℕ) (P : ℕ → Type 0) (Q : Type 0) (old opened new last : List ℕ) (e : WriteFault) → IsWritten (Unit {0}) (array_front n at) at old opened first → (Q → P (start_of n at))
    → Writes (P first) (E first) first opened new (Err e) → Writes Q (array_spelling o at n (E (start_of n at))) at old last (Err e)
array_refused o n at first E P Q old opened new last e begun may w =
    let there = started n at first old opened begun in
    Writes-refused (P first) Q (E first) (array_spelling o at n (E (start_of n at))) first at opened new old last e (λ q. subst P (sym there) (may q)) (omega (arith, length_array o at n (E (start_of n at)), there, ap (λ (m : ℕ). length (E m)) there)) w

-- so does their length
array_long : (o : Order) (n at first next : ℕ) (E : ℕ → List ℕ) (P : ℕ → Type 0) (Q : Type 0) (old opened filled last : List ℕ) (e : WriteFault) → IsWritten (Unit {0}) (array_front n at) at old opened first → (Q → IsShort (E (start_of n at)))
    → IsWritten (P first) (E first) first opened filled next → e ≡ faults.Big → 67108864 < next - first → Writes Q (array_spelling o at n (E (start_of n at))) at old last (Err e)
array_long o n at first next E P Q old opened filled last e begun short w is long =
    let there = started n at first old opened begun in
    let over : Q → 134217728 < at + length (array_spelling o at n (E (start_of n at))) = λ q. let few = short q in absurd (omega (arith, few, long, w.place, ap (λ (m : ℕ). length (E m)) there)) in
    subst (λ (f : WriteFault). Writes Q (array_spelling o at n (E (start_of n at))) at old last (Err f)) (sym is) over

-- an array whose length was set
array_written : (o : Order) (n at first next index : ℕ) (E : ℕ → List ℕ) (P : ℕ → Type 0) (Q : Type 0) (old opened filled closed : List ℕ) → IsWritten (Unit {0}) (array_front n at) at old opened first
    → IsWritten (P first) (E first) first opened filled next → index ≡ length old + length (padding 4 at) → closed ≡ take index filled ++ (number_bytes o w32 (next - first) ++ drop (index + 4) filled) → next - first ≤ 67108864
    → (IsShort (E (start_of n at)) → P (start_of n at) → Q) → IsWritten Q (array_spelling o at n (E (start_of n at))) at old closed next
array_written o n at first next index E P Q old opened filled closed begun w is set short may =
    let there = started n at first old opened begun in
    let els = E (start_of n at) in
    let same : E first ≡ els = ap E there in
    let len : length (E first) ≡ length els = ap length same in
    let count : next - first ≡ length els = omega (arith, w.place, len) in
    let pad = padding n (aligned 4 at + 4) in
    let all : filled ≡ old ++ (padding 4 at ++ (zeros 4 ++ (pad ++ els))) = w.appended ∙ (ap (λ (bs : List ℕ). opened ++ bs) same ∙ (ap (λ (bs : List ℕ). bs ++ els) begun.appended ∙ regroup old (padding 4 at) (zeros 4) pad els)) in
    record {
      may = may (omega (arith, count, short)) (subst P there w.may);
      appended = set ∙ (ap (λ (bs : List ℕ). take index bs ++ (number_bytes o w32 (next - first) ++ drop (index + 4) bs)) all
          ∙ (ap (λ (m : ℕ). take index (old ++ (padding 4 at ++ (zeros 4 ++ (pad ++ els)))) ++ (number_bytes o w32 m ++ drop (index + 4) (old ++ (padding 4 at ++ (zeros 4 ++ (pad ++ els)))))) count
          ∙ set_over old (padding 4 at) (zeros 4) (pad ++ els) (number_bytes o w32 (length els)) index is refl));
      place = omega (arith, w.place, len, there, length_array o at n els);
      within = w.within;
    }
  where
    regroup : (a b c d e : List ℕ) → (a ++ (b ++ (c ++ d))) ++ e ≡ a ++ (b ++ (c ++ (d ++ e)))
    regroup a b c d e = simp append_assoc

-- elements of one type fit as that, and as fields of their own types
elements_fit : (o : Order) (levels at : ℕ) (k : Kind) (ds : Items) → AllHaveType k ds → FieldsFit o levels at ds (types_of ds) → AllFit o levels at ds k
elements_fit o levels at k no_items t f = tt
elements_fit o levels at k (item d ds) t f = (subst (λ (j : Kind). Fits o levels at d j) t.0 f.0, elements_fit o levels (at + length (spelling o at d)) k ds t.2 f.1)

fields_fit : (o : Order) (levels at : ℕ) (k : Kind) (ds : Items) → AllHaveType k ds → AllFit o levels at ds k → FieldsFit o levels at ds (types_of ds)
fields_fit o levels at k no_items t f = tt
fields_fit o levels at k (item d ds) t f = (subst (λ (j : Kind). Fits o levels at d j) (sym t.0) f.0, fields_fit o levels (at + length (spelling o at d)) k ds t.2 f.1)

pub all_typed : (k : Kind) (ds : Items) → AllHaveType k ds → AreWellTyped ds
all_typed k no_items t = tt
all_typed k (item d ds) t = (t.1, all_typed k ds t.2)

array_fits : (o : Order) (levels inner at : ℕ) (k : Kind) (ds : Items) → levels ≡ suc inner → AllHaveType k ds → IsShort (spellings o (start_of (alignment k) at) ds) → FieldsFit o inner (start_of (alignment k) at) ds (types_of ds) → Fits o levels at (array_data k ds) (array k)
array_fits o levels inner at k ds e t short f = subst (λ (l : ℕ). Fits o l at (array_data k ds) (array k)) (sym e) (refl, short, elements_fit o inner (start_of (alignment k) at) k ds t f)

array_parts : (o : Order) (levels inner at : ℕ) (k : Kind) (ds : Items) → levels ≡ suc inner → AllHaveType k ds → Fits o levels at (array_data k ds) (array k) → IsShort (spellings o (start_of (alignment k) at) ds) × FieldsFit o inner (start_of (alignment k) at) ds (types_of ds)
array_parts o levels inner at k ds e t fit = parts (subst (λ (l : ℕ). Fits o l at (array_data k ds) (array k)) e fit)
  where
    parts : Fits o (suc inner) at (array_data k ds) (array k) → IsShort (spellings o (start_of (alignment k) at) ds) × FieldsFit o inner (start_of (alignment k) at) ds (types_of ds)
    parts f = (f.1, fields_fit o inner (start_of (alignment k) at) k ds t f.2)

pub array_elements_refused : (o : Order) (levels inner at first : ℕ) (k : Kind) (ds : Items) (old opened new last : List ℕ) (e : WriteFault) → levels ≡ suc inner → AllHaveType k ds → IsWritten (Unit {0}) (array_front (alignment k) at) at old opened first
    → Writes (FieldsFit o inner first ds (types_of ds)) (spellings o first ds) first opened new (Err e) → Writes (Fits o levels at (array_data k ds) (array k)) (spelling o at (array_data k ds)) at old last (Err e)
array_elements_refused o levels inner at first k ds old opened new last e is t begun w =
    array_refused o (alignment k) at first (λ m. spellings o m ds) (λ m. FieldsFit o inner m ds (types_of ds)) (Fits o levels at (array_data k ds) (array k)) old opened new last e begun (λ q. (array_parts o levels inner at k ds is t q).1) w

pub array_too_long : (o : Order) (levels inner at first next : ℕ) (k : Kind) (ds : Items) (old opened filled last : List ℕ) (e : WriteFault) → levels ≡ suc inner → AllHaveType k ds → IsWritten (Unit {0}) (array_front (alignment k) at) at old opened first
    → IsWritten (FieldsFit o inner first ds (types_of ds)) (spellings o first ds) first opened filled next → e ≡ faults.Big → 67108864 < next - first → Writes (Fits o levels at (array_data k ds) (array k)) (spelling o at (array_data k ds)) at old last (Err e)
array_too_long o levels inner at first next k ds old opened filled last e is t begun w big long =
    array_long o (alignment k) at first next (λ m. spellings o m ds) (λ m. FieldsFit o inner m ds (types_of ds)) (Fits o levels at (array_data k ds) (array k)) old opened filled last e begun (λ q. (array_parts o levels inner at k ds is t q).0) w big long

pub array_ended : (o : Order) (levels inner at first next index : ℕ) (k : Kind) (ds : Items) (old opened filled closed : List ℕ) → levels ≡ suc inner → AllHaveType k ds → IsWritten (Unit {0}) (array_front (alignment k) at) at old opened first
    → IsWritten (FieldsFit o inner first ds (types_of ds)) (spellings o first ds) first opened filled next → index ≡ length old + length (padding 4 at) → closed ≡ take index filled ++ (number_bytes o w32 (next - first) ++ drop (index + 4) filled) → next - first ≤ 67108864
    → IsWritten (Fits o levels at (array_data k ds) (array k)) (spelling o at (array_data k ds)) at old closed next
array_ended o levels inner at first next index k ds old opened filled closed is t begun w there set short =
    array_written o (alignment k) at first next index (λ m. spellings o m ds) (λ m. FieldsFit o inner m ds (types_of ds)) (Fits o levels at (array_data k ds) (array k)) old opened filled closed begun w there set short (λ few fit. array_fits o levels inner at k ds is t few fit)

-- dictionaries, whose entries are spelled as structs
structs_same : (ps : List (Data × Data)) → structs_of (entries_of ps) ≡ items_of (structs_in ps)
structs_same [] = refl
structs_same (p ∷ ps) = ap (λ (ds : Items). item (struct_of p.0 p.1) ds) (structs_same ps)

pub entries_typed : (k v : Kind) (ps : List (Data × Data)) → AllHaveTypes k v (entries_of ps) → AreWellTyped (items_of (structs_in ps))
entries_typed k v [] t = tt
entries_typed k v (p ∷ ps) t = ((t.2, (t.3, tt)), entries_typed k v ps t.4)

structs_typed : (k v : Kind) (ps : List (Data × Data)) → AllHaveTypes k v (entries_of ps) → AllHaveType (entry_kind k v) (items_of (structs_in ps))
structs_typed k v [] t = tt
structs_typed k v (p ∷ ps) t = (rw (t.0, t.1) refl, (t.2, (t.3, tt)), structs_typed k v ps t.4)

dictionary_spelled : (o : Order) (at : ℕ) (k v : Kind) (ps : List (Data × Data)) → array_spelling o at 8 (spellings o (start_of 8 at) (items_of (structs_in ps))) ≡ spelling o at (dictionary_data k v (entries_of ps))
dictionary_spelled o at k v ps =
    let same : spellings o (start_of 8 at) (items_of (structs_in ps)) ≡ entry_spellings o (start_of 8 at) (entries_of ps) = ap (λ (ds : Items). spellings o (start_of 8 at) ds) (sym (structs_same ps)) ∙ sym (entry_spellings-structs o (start_of 8 at) (entries_of ps)) in
    ap (λ (bs : List ℕ). array_spelling o at 8 bs) same

dictionary_fits : (o : Order) (levels inner at : ℕ) (k v : Kind) (ps : List (Data × Data)) → levels ≡ suc inner → AllHaveTypes k v (entries_of ps) → IsShort (spellings o (start_of 8 at) (items_of (structs_in ps)))
    → FieldsFit o inner (start_of 8 at) (items_of (structs_in ps)) (types_of (items_of (structs_in ps))) → Fits o levels at (dictionary_data k v (entries_of ps)) (dictionary k v)
dictionary_fits o levels inner at k v ps e t short f =
    let start = start_of 8 at in
    let all = elements_fit o inner start (entry_kind k v) (items_of (structs_in ps)) (structs_typed k v ps t) f in
    let fit = all_entries_fit o inner start (entries_of ps) k v (subst (λ (ds : Items). AllFit o inner start ds (entry_kind k v)) (sym (structs_same ps)) all) in
    let few = subst (λ (ds : Items). IsShort (spellings o start ds)) (sym (structs_same ps)) short in
    let bytes = subst (λ (bs : List ℕ). IsShort bs) (sym (entry_spellings-structs o start (entries_of ps))) few in
    subst (λ (l : ℕ). Fits o l at (dictionary_data k v (entries_of ps)) (dictionary k v)) (sym e) (refl, refl, bytes, fit)

dictionary_parts : (o : Order) (levels inner at : ℕ) (k v : Kind) (ps : List (Data × Data)) → levels ≡ suc inner → AllHaveTypes k v (entries_of ps) → Fits o levels at (dictionary_data k v (entries_of ps)) (dictionary k v)
    → IsShort (spellings o (start_of 8 at) (items_of (structs_in ps))) × FieldsFit o inner (start_of 8 at) (items_of (structs_in ps)) (types_of (items_of (structs_in ps)))
dictionary_parts o levels inner at k v ps e t fit = parts (subst (λ (l : ℕ). Fits o l at (dictionary_data k v (entries_of ps)) (dictionary k v)) e fit)
  where
    parts : Fits o (suc inner) at (dictionary_data k v (entries_of ps)) (dictionary k v) → IsShort (spellings o (start_of 8 at) (items_of (structs_in ps))) × FieldsFit o inner (start_of 8 at) (items_of (structs_in ps)) (types_of (items_of (structs_in ps)))
    parts f =
        let start = start_of 8 at in
        let few = subst (λ (bs : List ℕ). IsShort bs) (entry_spellings-structs o start (entries_of ps)) f.2 in
        let short = subst (λ (ds : Items). IsShort (spellings o start ds)) (structs_same ps) few in
        let all = subst (λ (ds : Items). AllFit o inner start ds (entry_kind k v)) (structs_same ps) (entries_fit o inner start (entries_of ps) k v f.3) in
        (short, fields_fit o inner start (entry_kind k v) (items_of (structs_in ps)) (structs_typed k v ps t) all)

pub dictionary_entries_refused : (o : Order) (levels inner at first : ℕ) (k v : Kind) (ps : List (Data × Data)) (old opened new last : List ℕ) (e : WriteFault) → levels ≡ suc inner → AllHaveTypes k v (entries_of ps) → IsWritten (Unit {0}) (array_front 8 at) at old opened first
    → Writes (FieldsFit o inner first (items_of (structs_in ps)) (types_of (items_of (structs_in ps)))) (spellings o first (items_of (structs_in ps))) first opened new (Err e)
    → Writes (Fits o levels at (dictionary_data k v (entries_of ps)) (dictionary k v)) (spelling o at (dictionary_data k v (entries_of ps))) at old last (Err e)
dictionary_entries_refused o levels inner at first k v ps old opened new last e is t begun w =
    let ds = items_of (structs_in ps) in
    let Q = Fits o levels at (dictionary_data k v (entries_of ps)) (dictionary k v) in
    subst (λ (bs : List ℕ). Writes Q bs at old last (Err e)) (dictionary_spelled o at k v ps)
    (array_refused o 8 at first (λ m. spellings o m ds) (λ m. FieldsFit o inner m ds (types_of ds)) Q old opened new last e begun (λ q. (dictionary_parts o levels inner at k v ps is t q).1) w)

pub dictionary_too_long : (o : Order) (levels inner at first next : ℕ) (k v : Kind) (ps : List (Data × Data)) (old opened filled last : List ℕ) (e : WriteFault) → levels ≡ suc inner → AllHaveTypes k v (entries_of ps) → IsWritten (Unit {0}) (array_front 8 at) at old opened first
    → IsWritten (FieldsFit o inner first (items_of (structs_in ps)) (types_of (items_of (structs_in ps)))) (spellings o first (items_of (structs_in ps))) first opened filled next → e ≡ faults.Big → 67108864 < next - first
    → Writes (Fits o levels at (dictionary_data k v (entries_of ps)) (dictionary k v)) (spelling o at (dictionary_data k v (entries_of ps))) at old last (Err e)
dictionary_too_long o levels inner at first next k v ps old opened filled last e is t begun w big long =
    let ds = items_of (structs_in ps) in
    let Q = Fits o levels at (dictionary_data k v (entries_of ps)) (dictionary k v) in
    subst (λ (bs : List ℕ). Writes Q bs at old last (Err e)) (dictionary_spelled o at k v ps)
    (array_long o 8 at first next (λ m. spellings o m ds) (λ m. FieldsFit o inner m ds (types_of ds)) Q old opened filled last e begun (λ q. (dictionary_parts o levels inner at k v ps is t q).0) w big long)

pub dictionary_ended : (o : Order) (levels inner at first next index : ℕ) (k v : Kind) (ps : List (Data × Data)) (old opened filled closed : List ℕ) → levels ≡ suc inner → AllHaveTypes k v (entries_of ps) → IsWritten (Unit {0}) (array_front 8 at) at old opened first
    → IsWritten (FieldsFit o inner first (items_of (structs_in ps)) (types_of (items_of (structs_in ps)))) (spellings o first (items_of (structs_in ps))) first opened filled next → index ≡ length old + length (padding 4 at)
    → closed ≡ take index filled ++ (number_bytes o w32 (next - first) ++ drop (index + 4) filled) → next - first ≤ 67108864
    → IsWritten (Fits o levels at (dictionary_data k v (entries_of ps)) (dictionary k v)) (spelling o at (dictionary_data k v (entries_of ps))) at old closed next
dictionary_ended o levels inner at first next index k v ps old opened filled closed is t begun w there set short =
    let ds = items_of (structs_in ps) in
    let Q = Fits o levels at (dictionary_data k v (entries_of ps)) (dictionary k v) in
    subst (λ (bs : List ℕ). IsWritten Q bs at old closed next) (dictionary_spelled o at k v ps)
    (array_written o 8 at first next index (λ m. spellings o m ds) (λ m. FieldsFit o inner m ds (types_of ds)) Q old opened filled closed begun w there set short (λ few fit. dictionary_fits o levels inner at k v ps is t few fit))

-- structs
pub struct_typed : (ds : Items) → IsWellTyped (structure_data ds) → AreWellTyped ds
struct_typed no_items t = absurd t
struct_typed (item d ds) t = t

pub struct_written : (o : Order) (levels inner at first : ℕ) (ds : Items) (old padded new : List ℕ) (r : Result ℕ WriteFault) → levels ≡ suc inner → IsPadded 8 at 0 old padded first → Writes (FieldsFit o inner first ds (types_of ds)) (spellings o first ds) first padded new r
    → Writes (Fits o levels at (structure_data ds) (structure (types_of ds))) (spelling o at (structure_data ds)) at old new r
struct_written o levels inner at first ds old padded new r e p w =
    let a = aligned 8 at in
    let P = FieldsFit o inner a ds (types_of ds) in
    let Q = Fits o levels at (structure_data ds) (structure (types_of ds)) in
    let here = subst (λ (m : ℕ). Writes (FieldsFit o inner m ds (types_of ds)) (spellings o m ds) m padded new r) p.place w in
    Writes-behind P Q (padding 8 at) (spellings o a ds) at a old padded new r p.appended (sym (length_padding 8 at))
    (λ f. subst (λ (l : ℕ). Fits o l at (structure_data ds) (structure (types_of ds))) (sym e) f)
    (λ q. subst (λ (l : ℕ). Fits o l at (structure_data ds) (structure (types_of ds))) e q) here

-- variants
pub variant_written : (o : Order) (levels inner at first : ℕ) (k : Kind) (d x : Data) (old named new : List ℕ) (r : Result ℕ WriteFault) → levels ≡ suc inner → IsWellTyped (variant_data k d)
    → IsWritten (FitsSignature (single k)) (counted_short (signature_bytes (single k))) at old named first → x ≡ d → Writes (Fits o inner first x (type_of x)) (spelling o first x) first named new r
    → Writes (Fits o levels at (variant_data k d) variant) (spelling o at (variant_data k d)) at old new r
variant_written o levels inner at first k d x old named new r e t front same w =
    let sig = signature_bytes (single k) in
    let m = at + 2 + length sig in
    let len : length (counted_short sig) ≡ 2 + length sig = omega (arith, length-append sig (0 ∷ [])) in
    let there : first ≡ m = omega (arith, front.place, len) in
    let P = Fits o inner m d (type_of d) in
    let Q = Fits o levels at (variant_data k d) variant in
    let is_signature : IsSignature (single k) = record { lawful = (t.0, tt); fits = front.may } in
    let here = subst (λ (y : Data). Writes (Fits o inner first y (type_of y)) (spelling o first y) first named new r) same w in
    let behind = subst (λ (q : ℕ). Writes (Fits o inner q d (type_of d)) (spelling o q d) q named new r) there here in
    Writes-behind P Q (counted_short sig) (spelling o m d) at m old named new r front.appended (omega (arith, len))
    (λ f. subst (λ (l : ℕ). Fits o l at (variant_data k d) variant) (sym e) (is_signature, subst (λ (j : Kind). Fits o inner m d j) t.1 f))
    (λ q. subst (λ (j : Kind). Fits o inner m d j) (sym t.1) (parts (subst (λ (l : ℕ). Fits o l at (variant_data k d) variant) e q))) behind
  where
    parts : Fits o (suc inner) at (variant_data k d) variant → Fits o inner (at + 2 + length (signature_bytes (single k))) d k
    parts f = f.1

-- entries, a key behind padding and a value behind it
length_entry : (o : Order) (at : ℕ) (c d : Data) → at + length (spelling o at (struct_of c d)) ≡ aligned 8 at + length (spelling o (aligned 8 at) c) + length (spelling o (aligned 8 at + length (spelling o (aligned 8 at) c)) d)
length_entry o at c d =
    let key = spelling o (aligned 8 at) c in
    let value = spelling o (aligned 8 at + length key) d in
    omega (arith, length_padding 8 at, length-append (padding 8 at) (key ++ (value ++ [])), length-append key (value ++ []), length-append value [])

pub entry_key_refused : (o : Order) (levels inner at first : ℕ) (c d x : Data) (old padded new last : List ℕ) (e : WriteFault) → levels ≡ suc inner → IsPadded 8 at 0 old padded first → x ≡ c
    → Writes (Fits o inner first x (type_of x)) (spelling o first x) first padded new (Err e) → Writes (Fits o levels at (struct_of c d) (type_of (struct_of c d))) (spelling o at (struct_of c d)) at old last (Err e)
entry_key_refused o levels inner at first c d x old padded new last e is p same w =
    let a = aligned 8 at in
    let P = Fits o inner a c (type_of c) in
    let Q = Fits o levels at (struct_of c d) (type_of (struct_of c d)) in
    let here = subst (λ (y : Data). Writes (Fits o inner first y (type_of y)) (spelling o first y) first padded new (Err e)) same w in
    let there = subst (λ (m : ℕ). Writes (Fits o inner m c (type_of c)) (spelling o m c) m padded new (Err e)) p.place here in
    Writes-refused P Q (spelling o a c) (spelling o at (struct_of c d)) a at padded new old last e
    (λ q. parts (subst (λ (l : ℕ). Fits o l at (struct_of c d) (type_of (struct_of c d))) is q)) (omega (arith, length_entry o at c d)) there
  where
    parts : Fits o (suc inner) at (struct_of c d) (type_of (struct_of c d)) → Fits o inner (aligned 8 at) c (type_of c)
    parts f = f.0

pub entry_written : (o : Order) (levels inner at first middle : ℕ) (c d x y : Data) (old padded mid new : List ℕ) (r : Result ℕ WriteFault) → levels ≡ suc inner → IsPadded 8 at 0 old padded first → x ≡ c
    → IsWritten (Fits o inner first x (type_of x)) (spelling o first x) first padded mid middle → y ≡ d → Writes (Fits o inner middle y (type_of y)) (spelling o middle y) middle mid new r
    → Writes (Fits o levels at (struct_of c d) (type_of (struct_of c d))) (spelling o at (struct_of c d)) at old new r
entry_written o levels inner at first middle c d x y old padded mid new r is p same w alike v =
    let a = aligned 8 at in
    let key = spelling o a c in
    let m = a + length key in
    let value = spelling o m d in
    let P = Fits o inner m d (type_of d) in
    let Q = Fits o levels at (struct_of c d) (type_of (struct_of c d)) in
    let first_key = subst (λ (z : Data). IsWritten (Fits o inner first z (type_of z)) (spelling o first z) first padded mid middle) same w in
    let k = subst (λ (q : ℕ). IsWritten (Fits o inner q c (type_of c)) (spelling o q c) q padded mid middle) p.place first_key in
    let here = subst (λ (z : Data). Writes (Fits o inner middle z (type_of z)) (spelling o middle z) middle mid new r) alike v in
    let there = subst (λ (q : ℕ). Writes (Fits o inner q d (type_of d)) (spelling o q d) q mid new r) k.place here in
    let front : mid ≡ old ++ (padding 8 at ++ key) = k.appended ∙ (ap (λ (bs : List ℕ). bs ++ key) p.appended ∙ append_assoc old (padding 8 at) key) in
    let place : m ≡ at + length (padding 8 at ++ key) = omega (arith, length_padding 8 at, length-append (padding 8 at) key) in
    subst (λ (bs : List ℕ). Writes Q bs at old new r) (regroup (padding 8 at) key value)
    (Writes-behind P Q (padding 8 at ++ key) value at m old mid new r front place
    (λ f. subst (λ (l : ℕ). Fits o l at (struct_of c d) (type_of (struct_of c d))) (sym is) (k.may, (f, tt)))
    (λ q. parts (subst (λ (l : ℕ). Fits o l at (struct_of c d) (type_of (struct_of c d))) is q)) there)
  where
    regroup : (p k v : List ℕ) → (p ++ k) ++ v ≡ p ++ (k ++ (v ++ []))
    regroup p k v = simp (append_assoc, append-nil)

    parts : Fits o (suc inner) at (struct_of c d) (type_of (struct_of c d)) → Fits o inner (aligned 8 at + length (spelling o (aligned 8 at) c)) d (type_of d)
    parts f = f.1.0
