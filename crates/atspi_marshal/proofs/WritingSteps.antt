-- Steps of writing, and what a step that was refused says of the whole.
use Rattle.std.proofs.Common.{◌≡◌, ℕ, zero, suc, ◌+◌, ◌-◌, ◌%◌, ◌<◌, ◌≤◌, ◌^◌, List, [], ◌∷◌, ◌++◌, length, take, drop, Result, Ok, Err, OnOk, OnErr, IsUtf8, chars, encode_utf8_all, true, refl, sym, ap, subst, ◌∙◌, append_assoc, mod-lt, arith}
use Rattle.std.specs.Int.{w8, w32, byte_len}
use Rattle.std.specs.Str.{all_scalars}
use Rattle.std.proofs.Math.Seq.{take-length}
use Rattle.std.proofs.lemmas.List.{append-nil, length-append}
use Rattle.std.proofs.lemmas.Str.{scalars-chars}
use Rattle.atspi_base.specs.Text.{HasNoZero}
use Rattle.atspi_base.specs.valid_names.Names.{IsPath}
use Rattle.atspi_types.specs.Kinds.{Num, width, number_alignment, Kind, number, text, path}
use Rattle.atspi_types.specs.Data.{Data, number_data, text_data, path_data, type_of}
use Rattle.atspi_types.specs.declared.fault.Order.{Order}
use Rattle.atspi_types.specs.declared.fault.Order.TheVariants.{Little, Big}
use Rattle.atspi_marshal.specs.declared.writing.fault.WriteFault.{WriteFault}
use Rattle.atspi_marshal.specs.declared.writing.fault.WriteFault.TheVariants as faults
use Rattle.atspi_marshal.specs.Input.{number_bytes, aligned}
use Rattle.atspi_marshal.specs.Spelling.{zeros, padding, counted, spelling, Fits}
use Rattle.atspi_marshal.specs.Writing.{IsWritten, Writes, IsPadded, Pads, TakesLevel}
use Rattle.atspi_marshal.proofs.Places.{length-zeros, wide32}

take-zeros : (n m : ℕ) → n ≤ m → take n (zeros m) ≡ zeros n
take-zeros zero m le = refl
take-zeros (suc n) zero le = absurd (omega arith)
take-zeros (suc n) (suc m) le = ap (λ (bs : List ℕ). 0 ∷ bs) (take-zeros n m (omega arith))

pub length_padding : (n at : ℕ) → at + length (padding n at) ≡ aligned n at
length_padding n at = omega (arith, length-zeros (aligned n at - at))

pub zeros_padding : (n at : ℕ) → 0 < n → n ≤ 8 → take ((n - at % n) % n) (zeros 8) ≡ padding n at
zeros_padding n at pos few =
    let count = (n - at % n) % n in
    let small : count ≤ 8 = omega (arith, mod-lt (n - at % n) pos) in
    let same : aligned n at - at ≡ count = omega arith in
    take-zeros count 8 small ∙ ap zeros (sym same)

pub padding_one : (at : ℕ) → padding 1 at ≡ []
padding_one at = let none : aligned 1 at - at ≡ 0 = omega arith in ap zeros none

pub number_byte : (o : Order) (n : ℕ) → n < 256 → number_bytes o w8 n ≡ n ∷ []
number_byte Little n lt = let is : n % 256 ≡ n = omega (arith, lt) in ap (λ (m : ℕ). m ∷ []) is
number_byte Big n lt = let is : n % 256 ≡ n = omega (arith, lt) in ap (λ (m : ℕ). m ∷ []) is

-- what may be written under a fact may be under an equivalent one
pub Writes-by : (P Q : Type 0) (s : List ℕ) (at : ℕ) (old new : List ℕ) (r : Result ℕ WriteFault) → (P → Q) → (Q → P) → Writes P s at old new r → Writes Q s at old new r
Writes-by P Q s at old new (Ok next) f g w = record { may = f w.may; appended = w.appended; place = w.place; within = w.within }
Writes-by P Q s at old new (Err faults.Big) f g w = λ q. w (g q)
Writes-by P Q s at old new (Err faults.NoMemory) f g w = tt

-- a step keeps its answer where what it wrote is taken back after a refusal
pub Writes-settled : (P : Type 0) (s : List ℕ) (at : ℕ) (old mid new : List ℕ) (r q : Result ℕ WriteFault) → q ≡ r → OnOk q (new ≡ mid) → Writes P s at old mid r → Writes P s at old new q
Writes-settled P s at old mid new r q e = subst (λ (x : Result ℕ WriteFault). OnOk q (new ≡ mid) → Writes P s at old mid x → Writes P s at old new q) e (by_result q)
  where
    by_result : (x : Result ℕ WriteFault) → OnOk x (new ≡ mid) → Writes P s at old mid x → Writes P s at old new x
    by_result (Ok next) same w = record { may = w.may; appended = same ∙ w.appended; place = w.place; within = w.within }
    by_result (Err faults.Big) kept w = w
    by_result (Err faults.NoMemory) kept w = tt

pub err_settled : (len : ℕ) (old mid new : List ℕ) (q : Result ℕ WriteFault) → len ≡ length old → take (length old) mid ≡ old → OnErr q (new ≡ take len mid) → OnErr q (new ≡ old)
err_settled len old mid new (Ok next) is front cut = tt
err_settled len old mid new (Err e) is front cut = cut ∙ (ap (λ (n : ℕ). take n mid) is ∙ front)

pub front_settled : (len : ℕ) (old mid new : List ℕ) (q : Result ℕ WriteFault) → len ≡ length old → take (length old) mid ≡ old → OnOk q (new ≡ mid) → OnErr q (new ≡ take len mid) → take (length old) new ≡ old
front_settled len old mid new (Ok next) is front same cut = ap (λ (bs : List ℕ). take (length old) bs) same ∙ front
front_settled len old mid new (Err e) is front same cut = ap (λ (bs : List ℕ). take (length old) bs) (cut ∙ (ap (λ (n : ℕ). take n mid) is ∙ front)) ∙ take-length old

-- a last step, behind others
pub Writes-behind : (P Q : Type 0) (p s : List ℕ) (at m : ℕ) (old mid new : List ℕ) (r : Result ℕ WriteFault) → mid ≡ old ++ p → m ≡ at + length p → (P → Q) → (Q → P) → Writes P s m mid new r → Writes Q (p ++ s) at old new r
Writes-behind P Q p s at m old mid new (Ok next) e there f g w =
    record {
      may = f w.may;
      appended = w.appended ∙ (ap (λ (bs : List ℕ). bs ++ s) e ∙ append_assoc old p s);
      place = omega (arith, w.place, there, length-append p s);
      within = w.within;
    }
Writes-behind P Q p s at m old mid new (Err faults.Big) e there f g w = λ q. let over = w (g q) in omega (arith, over, there, length-append p s)
Writes-behind P Q p s at m old mid new (Err faults.NoMemory) e there f g w = tt

-- a step that was refused
pub Writes-refused : (P Q : Type 0) (s t : List ℕ) (at whole : ℕ) (old new first last : List ℕ) (e : WriteFault) → (Q → P) → at + length s ≤ whole + length t → Writes P s at old new (Err e) → Writes Q t whole first last (Err e)
Writes-refused P Q s t at whole old new first last faults.Big g le w = λ q. let over = w (g q) in omega (arith, over, le)
Writes-refused P Q s t at whole old new first last faults.NoMemory g le w = tt

pub Pads-refused : (Q : Type 0) (t : List ℕ) (n at len whole : ℕ) (old new first last : List ℕ) (e : WriteFault) → aligned n at + len ≤ whole + length t → Pads n at len old new (Err e) → Writes Q t whole first last (Err e)
Pads-refused Q t n at len whole old new first last faults.Big le over = λ q. omega (arith, over, le)
Pads-refused Q t n at len whole old new first last faults.NoMemory le over = tt

pub Level-refused : (Q : Type 0) (t : List ℕ) (levels whole : ℕ) (first last : List ℕ) (e : WriteFault) → (levels ≡ 0 → Q → ⊥) → TakesLevel levels (Err e) → Writes Q t whole first last (Err e)
Level-refused Q t levels whole first last faults.Big none is = λ q. absurd (none is q)
Level-refused Q t levels whole first last faults.NoMemory none is = tt

pub padded_written : (n at p : ℕ) (bytes old mid new : List ℕ) → IsPadded n at (length bytes) old mid p → new ≡ mid ++ bytes → IsWritten (Unit {0}) (padding n at ++ bytes) at old new (p + length bytes)
padded_written n at p bytes old mid new padded e =
    record {
      may = tt;
      appended = e ∙ (ap (λ (bs : List ℕ). bs ++ bytes) padded.appended ∙ append_assoc old (padding n at) bytes);
      place = omega (arith, padded.place, length_padding n at, length-append (padding n at) bytes);
      within = padded.within;
    }

pub padded_room : (n at : ℕ) (bytes : List ℕ) → aligned n at + length bytes ≤ at + length (padding n at ++ bytes)
padded_room n at bytes = omega (arith, length_padding n at, length-append (padding n at) bytes)

length-counted : (o : Order) (at : ℕ) (bytes : List ℕ) → at + length (counted o at bytes) ≡ aligned 4 at + 5 + length bytes
length-counted o at bytes =
    let number = number_bytes o w32 (length bytes) in
    omega (arith, length_padding 4 at, length-append (padding 4 at) (number ++ (bytes ++ 0 ∷ [])), length-append number (bytes ++ 0 ∷ []), wide32.long o (length bytes), length-append bytes (0 ∷ []))

pub counted_written : (o : Order) (at p : ℕ) (bytes old mid counts all new : List ℕ) → IsPadded 4 at (length bytes + 5) old mid p
    → counts ≡ mid ++ number_bytes o w32 (length bytes) → all ≡ counts ++ bytes → new ≡ all ++ 0 ∷ [] → IsWritten (Unit {0}) (counted o at bytes) at old new (p + 5 + length bytes)
counted_written o at p bytes old mid counts all new padded e f g =
    record {
      may = tt;
      appended = rw (g, f, e, padded.appended) (regroup old (padding 4 at) (number_bytes o w32 (length bytes)) bytes (0 ∷ []));
      place = omega (arith, padded.place, length-counted o at bytes);
      within = omega (arith, padded.within);
    }
  where
    regroup : (a b c d e : List ℕ) → (((a ++ b) ++ c) ++ d) ++ e ≡ a ++ (b ++ (c ++ (d ++ e)))
    regroup a b c d e = simp append_assoc

pub counted_room : (o : Order) (at : ℕ) (bytes : List ℕ) → aligned 4 at + (length bytes + 5) ≤ at + length (counted o at bytes)
counted_room o at bytes = omega (arith, length-counted o at bytes)

-- the front of an array is padding, a length, and padding
abbrev pub array_front : ℕ → ℕ → List ℕ
array_front n at = padding 4 at ++ (zeros 4 ++ padding n (aligned 4 at + 4))

pub array_begun : (n at m : ℕ) (old mid new : List ℕ) (r : Result ℕ WriteFault) → IsWritten (Unit {0}) (padding 4 at ++ zeros 4) at old mid m → Pads n m 0 mid new r → Writes (Unit {0}) (array_front n at) at old new r
array_begun n at m old mid new (Ok next) first then =
    let four : m ≡ aligned 4 at + 4 = omega (arith, first.place, length_padding 4 at, length-append (padding 4 at) (zeros 4)) in
    let pad : padding n m ≡ padding n (aligned 4 at + 4) = ap (padding n) four in
    record {
      may = tt;
      appended = rw (then.appended, first.appended, pad) (regroup old (padding 4 at) (zeros 4) (padding n (aligned 4 at + 4)));
      place = omega (arith, then.place, first.place, ap length pad, length_padding n m, length-append (padding 4 at) (zeros 4), length-append (padding 4 at) (zeros 4 ++ padding n (aligned 4 at + 4)), length-append (zeros 4) (padding n (aligned 4 at + 4)));
      within = omega (arith, then.within);
    }
  where
    regroup : (a b c d : List ℕ) → (a ++ (b ++ c)) ++ d ≡ a ++ (b ++ (c ++ d))
    regroup a b c d = simp append_assoc
array_begun n at m old mid new (Err faults.Big) first then =
    λ may.
    let four : m ≡ aligned 4 at + 4 = omega (arith, first.place, length_padding 4 at, length-append (padding 4 at) (zeros 4)) in
    let pad : padding n m ≡ padding n (aligned 4 at + 4) = ap (padding n) four in
    omega (arith, then, first.place, ap length pad, length_padding n m, length-append (padding 4 at) (zeros 4), length-append (padding 4 at) (zeros 4 ++ padding n (aligned 4 at + 4)), length-append (zeros 4) (padding n (aligned 4 at + 4)))
array_begun n at m old mid new (Err faults.NoMemory) first then = tt

-- values without others in them
pub number_writes : (o : Order) (levels at : ℕ) (n : Num) (x : ℕ) (old new : List ℕ) (r : Result ℕ WriteFault) → Writes (x < 256 ^ byte_len (width n)) (padding (number_alignment n) at ++ number_bytes o (width n) x) at old new r
    → Writes (Fits o levels at (number_data n x) (number n)) (spelling o at (number_data n x)) at old new r
number_writes o levels at n x old new r w = Writes-by (x < 256 ^ byte_len (width n)) (Fits o levels at (number_data n x) (number n)) (spelling o at (number_data n x)) at old new r (λ lt. (refl, lt)) (λ fit. fit.1) w

pub text_writes : (o : Order) (at : ℕ) (cs bytes old new : List ℕ) (r : Result ℕ WriteFault) → bytes ≡ encode_utf8_all cs → IsUtf8 bytes → chars bytes ≡ cs → HasNoZero bytes → length bytes < 2 ^ 32
    → Writes (Unit {0}) (counted o at bytes) at old new r → Writes (Fits o 0 at (text_data cs) text) (spelling o at (text_data cs)) at old new r
text_writes o at cs bytes old new r spelled utf8 read no_zero short w =
    let scalars : all_scalars cs ≡ true = ap all_scalars (sym read) ∙ scalars-chars bytes utf8 in
    let fit : Fits o 0 at (text_data cs) text = (scalars, subst (λ (bs : List ℕ). HasNoZero bs) spelled no_zero, subst (λ (bs : List ℕ). length bs < 2 ^ 32) spelled short) in
    Writes-by (Unit {0}) (Fits o 0 at (text_data cs) text) (spelling o at (text_data cs)) at old new r (λ may. fit) (λ fits. tt) (subst (λ (bs : List ℕ). Writes (Unit {0}) (counted o at bs) at old new r) spelled w)

pub path_writes : (o : Order) (at : ℕ) (name bytes old new : List ℕ) (r : Result ℕ WriteFault) → bytes ≡ name → IsPath name
    → Writes (Unit {0}) (counted o at bytes) at old new r → Writes (Fits o 0 at (path_data name) path) (spelling o at (path_data name)) at old new r
path_writes o at name bytes old new r same rule w = by_result r (subst (λ (bs : List ℕ). Writes (Unit {0}) (counted o at bs) at old new r) same w)
  where
    by_result : (r : Result ℕ WriteFault) → Writes (Unit {0}) (counted o at name) at old new r → Writes (Fits o 0 at (path_data name) path) (spelling o at (path_data name)) at old new r
    by_result (Ok next) w = record { may = (rule, omega (arith, w.place, w.within, length-counted o at name)); appended = w.appended; place = w.place; within = w.within }
    by_result (Err faults.Big) w = λ fits. w tt
    by_result (Err faults.NoMemory) w = tt
