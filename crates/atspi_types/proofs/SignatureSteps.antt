-- What a byte does to a context: rules that refuse it, and what stands after it.
use Rattle.std.proofs.Common.{◌≡◌, ℕ, ◌≤◌, ◌==◌, [], ◌∷◌, Bool, true, false, refl, sym, ap, subst, ◌∙◌, arith, if◌then◌else◌, Some, None, Option}
use Rattle.std.specs.Prelude.{nat_le}
use Rattle.std.proofs.lemmas.Bool.{cond_both, both_ways, eqb-true, leb-true, le-leb}
use Rattle.atspi_types.specs.Kinds.{byte, i16, u16, i32, u32, i64, u64, double, Kind, number, boolean, text, path, signature, array, structure, variant, dictionary, IsBasic, is_basic, IsLawful}
use Rattle.atspi_types.specs.Signatures.{type_bytes, array_depth, struct_depth}
use Rattle.atspi_types.specs.SignatureFaults.{Token, code, array_code, struct_open, struct_close, entry_open, entry_close, descriptor, no_code, end, token_of, Context, at_top, in_array, in_struct, in_entry, arrays_open, structs_open, BeginsSignature, BeginsType, BeginsContainer, Refused, not_a_code, is_descriptor, no_element, no_field, no_struct, no_entry, not_closed, no_array, key_not_basic, too_few, too_many, too_many_arrays, too_many_structs}
use Rattle.atspi_types.specs.SignatureReading.{refusal, type_refusal}

-- a basic type, and its test
pub basic_from : (k : Kind) → is_basic k ≡ true → IsBasic k
basic_from (number n) e = tt
basic_from boolean e = tt
basic_from text e = tt
basic_from path e = tt
basic_from signature e = tt
basic_from (array k) e = absurd cc
basic_from (structure ks) e = absurd cc
basic_from variant e = absurd cc
basic_from (dictionary k v) e = absurd cc

pub basic_to : (k : Kind) → IsBasic k → is_basic k ≡ true
basic_to (number n) h = refl
basic_to boolean h = refl
basic_to text h = refl
basic_to path h = refl
basic_to signature h = refl
basic_to (array k) h = absurd h
basic_to (structure ks) h = absurd h
basic_to variant h = absurd h
basic_to (dictionary k v) h = absurd h

not_basic : (k : Kind) → (IsBasic k → ⊥) → is_basic k ≡ false
not_basic (number n) h = absurd (h tt)
not_basic boolean h = absurd (h tt)
not_basic text h = absurd (h tt)
not_basic path h = absurd (h tt)
not_basic signature h = absurd (h tt)
not_basic (array k) h = refl
not_basic (structure ks) h = refl
not_basic variant h = refl
not_basic (dictionary k v) h = refl

-- what is refused by a rule is refused, for a reason that is no greater
abbrev pub RefusedBy : Context → Token → ℕ → Type 0
RefusedBy c t s = (r : ℕ) × (refusal c t ≡ Some r) × (r ≤ s)

deep_refused : (c : Context) → (r : ℕ) × (type_refusal c false (Some 9) ≡ Some r) × (r ≤ 9)
deep_refused (at_top ks) = (9, refl, omega arith)
deep_refused (in_array c) = (9, refl, omega arith)
deep_refused (in_struct c ks) = (9, refl, omega arith)
deep_refused (in_entry c []) = (8, refl, omega arith)
deep_refused (in_entry c (key ∷ [])) = (9, refl, omega arith)
deep_refused (in_entry c (key ∷ value ∷ ks)) = (8, refl, omega arith)

pub refused_by : (c : Context) (t : Token) (s : ℕ) → Refused c t s → RefusedBy c t s
unfolding refusal
refused_by c t s (not_a_code c') = (2, refl, omega arith)
refused_by c t s (is_descriptor c') = (3, refl, omega arith)
refused_by c t s (no_element c' end h) = (4, refl, omega arith)
refused_by c t s (no_element c' struct_close h) = (4, refl, omega arith)
refused_by c t s (no_element c' entry_close h) = (4, refl, omega arith)
refused_by c t s (no_element c' (code k) h) = absurd h
refused_by c t s (no_element c' array_code h) = absurd h
refused_by c t s (no_element c' struct_open h) = absurd h
refused_by c t s (no_element c' entry_open h) = absurd h
refused_by c t s (no_element c' descriptor h) = absurd h
refused_by c t s (no_element c' no_code h) = absurd h
refused_by c t s (no_field c') = (5, refl, omega arith)
refused_by c t s (no_struct (at_top ks) h) = (6, refl, omega arith)
refused_by c t s (no_struct (in_array c') h) = (4, refl, omega arith)
refused_by c t s (no_struct (in_struct c' ks) h) = absurd (h refl)
refused_by c t s (no_struct (in_entry c' ks) h) = (6, refl, omega arith)
refused_by c t s (no_entry (at_top ks) h) = (6, refl, omega arith)
refused_by c t s (no_entry (in_array c') h) = (4, refl, omega arith)
refused_by c t s (no_entry (in_struct c' ks) h) = (6, refl, omega arith)
refused_by c t s (no_entry (in_entry c' ks) h) = absurd (h refl)
refused_by c t s (not_closed (at_top ks) h) = absurd (h refl)
refused_by c t s (not_closed (in_array c') h) = (4, refl, omega arith)
refused_by c t s (not_closed (in_struct c' ks) h) = (6, refl, omega arith)
refused_by c t s (not_closed (in_entry c' ks) h) = (6, refl, omega arith)
refused_by c t s (no_array (at_top ks) h) = (7, refl, omega arith)
refused_by c t s (no_array (in_array c') h) = absurd (h tt)
refused_by c t s (no_array (in_struct c' ks) h) = (7, refl, omega arith)
refused_by c t s (no_array (in_entry c' ks) h) = (7, refl, omega arith)
refused_by c t s (key_not_basic c' (code k) h) = (8, rw (not_basic k h) refl, omega arith)
refused_by c t s (key_not_basic c' array_code h) = (8, refl, omega arith)
refused_by c t s (key_not_basic c' struct_open h) = (8, refl, omega arith)
refused_by c t s (key_not_basic c' struct_close h) = absurd h
refused_by c t s (key_not_basic c' entry_open h) = absurd h
refused_by c t s (key_not_basic c' entry_close h) = absurd h
refused_by c t s (key_not_basic c' descriptor h) = absurd h
refused_by c t s (key_not_basic c' no_code h) = absurd h
refused_by c t s (key_not_basic c' end h) = absurd h
refused_by c t s (too_few c' [] h) = (8, refl, omega arith)
refused_by c t s (too_few c' (key ∷ []) h) = (8, refl, omega arith)
refused_by c t s (too_few c' (key ∷ value ∷ ks) h) = absurd (omega arith)
refused_by c t s (too_many c' key value (code k) h) = (8, refl, omega arith)
refused_by c t s (too_many c' key value array_code h) = (8, refl, omega arith)
refused_by c t s (too_many c' key value struct_open h) = (8, refl, omega arith)
refused_by c t s (too_many c' key value struct_close h) = absurd h
refused_by c t s (too_many c' key value entry_open h) = absurd h
refused_by c t s (too_many c' key value entry_close h) = absurd h
refused_by c t s (too_many c' key value descriptor h) = absurd h
refused_by c t s (too_many c' key value no_code h) = absurd h
refused_by c t s (too_many c' key value end h) = absurd h
refused_by c t s (too_many_arrays c' h) = rw (le-leb 32 (arrays_open c') h) (deep_refused c')
refused_by c t s (too_many_structs c' h) = rw (le-leb 32 (structs_open c') h) (deep_refused c')

-- what is refused for a reason is refused by the rule of that reason
some_is : {a b : ℕ} → Some a ≡ Some b → a ≡ b
some_is e = cc

type_holds : (c : Context) (t : Token) (basic : Bool) (deep : Option ℕ) (r : ℕ) → BeginsSignature c → BeginsType t → (basic ≡ false → BeginsContainer t) → (deep ≡ Some r → Refused c t r) → type_refusal c basic deep ≡ Some r → Refused c t r
type_holds (at_top ks) t basic deep r begins type container told e = told e
type_holds (in_array c) t basic deep r begins type container told e = told e
type_holds (in_struct c ks) t basic deep r begins type container told e = told e
type_holds (in_entry c []) t true deep r begins type container told e = told e
type_holds (in_entry c []) t false deep r begins type container told e = subst (Refused (in_entry c []) t) (some_is e) (key_not_basic c t (container refl))
type_holds (in_entry c (key ∷ [])) t basic deep r begins type container told e = told e
type_holds (in_entry c (key ∷ value ∷ [])) t basic deep r begins type container told e = subst (Refused (in_entry c (key ∷ value ∷ [])) t) (some_is e) (too_many c key value t type)
type_holds (in_entry c (key ∷ value ∷ k ∷ ks)) t basic deep r begins type container told e = absurd begins.3

arrays_hold : (c : Context) (r : ℕ) (t : Bool) → nat_le 32 (arrays_open c) ≡ t → (if t then Some 9 else None) ≡ Some r → Refused c array_code r
arrays_hold c r true t e = subst (Refused c array_code) (some_is e) (too_many_arrays c (leb-true 32 (arrays_open c) t))
arrays_hold c r false t e = absurd cc

structs_hold : (c : Context) (r : ℕ) (t : Bool) → nat_le 32 (structs_open c) ≡ t → (if t then Some 9 else None) ≡ Some r → Refused c struct_open r
structs_hold c r true t e = subst (Refused c struct_open) (some_is e) (too_many_structs c (leb-true 32 (structs_open c) t))
structs_hold c r false t e = absurd cc

basic_is_no_container : (k : Kind) → is_basic k ≡ false → IsBasic k → ⊥
basic_is_no_container k e h = absurd (both_ways (is_basic k) e (basic_to k h))

pub refusal_holds : (c : Context) (t : Token) (r : ℕ) → BeginsSignature c → refusal c t ≡ Some r → Refused c t r
unfolding refusal
refusal_holds c no_code r begins e = subst (Refused c no_code) (some_is e) (not_a_code c)
refusal_holds c descriptor r begins e = subst (Refused c descriptor) (some_is e) (is_descriptor c)
refusal_holds (at_top ks) end r begins e = absurd cc
refusal_holds (in_array c) end r begins e = subst (Refused (in_array c) end) (some_is e) (no_element c end tt)
refusal_holds (in_struct c ks) end r begins e = subst (Refused (in_struct c ks) end) (some_is e) (not_closed (in_struct c ks) (λ same. absurd cc))
refusal_holds (in_entry c ks) end r begins e = subst (Refused (in_entry c ks) end) (some_is e) (not_closed (in_entry c ks) (λ same. absurd cc))
refusal_holds (at_top ks) struct_close r begins e = subst (Refused (at_top ks) struct_close) (some_is e) (no_struct (at_top ks) (λ same. absurd cc))
refusal_holds (in_array c) struct_close r begins e = subst (Refused (in_array c) struct_close) (some_is e) (no_element c struct_close tt)
refusal_holds (in_struct c []) struct_close r begins e = subst (Refused (in_struct c []) struct_close) (some_is e) (no_field c)
refusal_holds (in_struct c (k ∷ ks)) struct_close r begins e = absurd cc
refusal_holds (in_entry c ks) struct_close r begins e = subst (Refused (in_entry c ks) struct_close) (some_is e) (no_struct (in_entry c ks) (λ same. absurd cc))
refusal_holds (at_top ks) entry_close r begins e = subst (Refused (at_top ks) entry_close) (some_is e) (no_entry (at_top ks) (λ same. absurd cc))
refusal_holds (in_array c) entry_close r begins e = subst (Refused (in_array c) entry_close) (some_is e) (no_element c entry_close tt)
refusal_holds (in_struct c ks) entry_close r begins e = subst (Refused (in_struct c ks) entry_close) (some_is e) (no_entry (in_struct c ks) (λ same. absurd cc))
refusal_holds (in_entry c []) entry_close r begins e = subst (Refused (in_entry c []) entry_close) (some_is e) (too_few c [] (omega arith))
refusal_holds (in_entry c (key ∷ [])) entry_close r begins e = subst (Refused (in_entry c (key ∷ [])) entry_close) (some_is e) (too_few c (key ∷ []) (omega arith))
refusal_holds (in_entry c (key ∷ value ∷ ks)) entry_close r begins e = absurd cc
refusal_holds (at_top ks) entry_open r begins e = subst (Refused (at_top ks) entry_open) (some_is e) (no_array (at_top ks) (λ h. h))
refusal_holds (in_array c) entry_open r begins e = absurd cc
refusal_holds (in_struct c ks) entry_open r begins e = subst (Refused (in_struct c ks) entry_open) (some_is e) (no_array (in_struct c ks) (λ h. h))
refusal_holds (in_entry c ks) entry_open r begins e = subst (Refused (in_entry c ks) entry_open) (some_is e) (no_array (in_entry c ks) (λ h. h))
refusal_holds c (code k) r begins e = type_holds c (code k) (is_basic k) None r begins tt (λ no. basic_is_no_container k no) (λ none. absurd cc) e
refusal_holds c array_code r begins e = type_holds c array_code false (if nat_le 32 (arrays_open c) then Some 9 else None) r begins tt (λ no. tt) (λ told. arrays_hold c r (nat_le 32 (arrays_open c)) refl told) e
refusal_holds c struct_open r begins e = type_holds c struct_open false (if nat_le 32 (structs_open c) then Some 9 else None) r begins tt (λ no. tt) (λ told. structs_hold c r (nat_le 32 (structs_open c)) refl told) e

-- what a byte is as a token
abbrev pub TokenFits : ℕ → Token → Type 0
TokenFits b (code k) = (type_bytes k ≡ b ∷ []) × IsLawful k × (array_depth k ≡ 0) × (struct_depth k ≡ 0)
TokenFits b array_code = b ≡ 97
TokenFits b struct_open = b ≡ 40
TokenFits b struct_close = b ≡ 41
TokenFits b entry_open = b ≡ 123
TokenFits b entry_close = b ≡ 125
TokenFits b descriptor = b ≡ 104
TokenFits b no_code = Unit {0}
TokenFits b end = ⊥

code_fits : (b n : ℕ) (k : Kind) → type_bytes k ≡ n ∷ [] → IsLawful k → array_depth k ≡ 0 → struct_depth k ≡ 0 → (b == n) ≡ true → TokenFits b (code k)
code_fits b n k spelled lawful arrays structs e = (spelled ∙ ap (λ m. m ∷ []) (sym (eqb-true b n e)), lawful, arrays, structs)

pub token_fits : (b : ℕ) → TokenFits b (token_of b)
unfolding token_of
token_fits b =
    cond_both (b == 121) _ _ (TokenFits b) (code_fits b 121 (number byte) refl tt refl refl) (λ _.
    cond_both (b == 98) _ _ (TokenFits b) (code_fits b 98 boolean refl tt refl refl) (λ _.
    cond_both (b == 110) _ _ (TokenFits b) (code_fits b 110 (number i16) refl tt refl refl) (λ _.
    cond_both (b == 113) _ _ (TokenFits b) (code_fits b 113 (number u16) refl tt refl refl) (λ _.
    cond_both (b == 105) _ _ (TokenFits b) (code_fits b 105 (number i32) refl tt refl refl) (λ _.
    cond_both (b == 117) _ _ (TokenFits b) (code_fits b 117 (number u32) refl tt refl refl) (λ _.
    cond_both (b == 120) _ _ (TokenFits b) (code_fits b 120 (number i64) refl tt refl refl) (λ _.
    cond_both (b == 116) _ _ (TokenFits b) (code_fits b 116 (number u64) refl tt refl refl) (λ _.
    cond_both (b == 100) _ _ (TokenFits b) (code_fits b 100 (number double) refl tt refl refl) (λ _.
    cond_both (b == 115) _ _ (TokenFits b) (code_fits b 115 text refl tt refl refl) (λ _.
    cond_both (b == 111) _ _ (TokenFits b) (code_fits b 111 path refl tt refl refl) (λ _.
    cond_both (b == 103) _ _ (TokenFits b) (code_fits b 103 signature refl tt refl refl) (λ _.
    cond_both (b == 118) _ _ (TokenFits b) (code_fits b 118 variant refl tt refl refl) (λ _.
    cond_both (b == 97) _ _ (TokenFits b) (eqb-true b 97) (λ _.
    cond_both (b == 40) _ _ (TokenFits b) (eqb-true b 40) (λ _.
    cond_both (b == 41) _ _ (TokenFits b) (eqb-true b 41) (λ _.
    cond_both (b == 123) _ _ (TokenFits b) (eqb-true b 123) (λ _.
    cond_both (b == 125) _ _ (TokenFits b) (eqb-true b 125) (λ _.
    cond_both (b == 104) _ _ (TokenFits b) (eqb-true b 104) (λ _. tt)))))))))))))))))))
