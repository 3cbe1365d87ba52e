-- What is wrong with the bytes of a signature stands in them or right behind them, and has one of nine reasons.
use Rattle.std.proofs.Common.{◌≡◌, ℕ, ◌<◌, ◌≤◌, List, length, Result, Ok, Err, arith, subst, refl}
use Rattle.atspi_types.specs.Kinds.{Kind, kinds_of}
use Rattle.atspi_types.specs.SignatureFaults.{Token, Context, Refused, not_a_code, is_descriptor, no_element, no_field, no_struct, no_entry, not_closed, no_array, key_not_basic, too_few, too_many, too_many_arrays, too_many_structs, WrongSignature, too_long, refused, Before}
use Rattle.atspi_types.specs.SignatureReading.{signature_in}
use Rattle.atspi_types.specs.declared.fault.Fault.{Fault}
use Rattle.atspi_types.proofs.SignatureLaws.{signature_in-told, signature_in-read, no_fault_of_signature}

refused_by_nine : (c : Context) (t : Token) (r : ℕ) → Refused c t r → r ≤ 9
refused_by_nine c t r (not_a_code c') = omega arith
refused_by_nine c t r (is_descriptor c') = omega arith
refused_by_nine c t r (no_element c' t' e) = omega arith
refused_by_nine c t r (no_field c') = omega arith
refused_by_nine c t r (no_struct c' n) = omega arith
refused_by_nine c t r (no_entry c' n) = omega arith
refused_by_nine c t r (not_closed c' n) = omega arith
refused_by_nine c t r (no_array c' n) = omega arith
refused_by_nine c t r (key_not_basic c' t' n) = omega arith
refused_by_nine c t r (too_few c' ks lt) = omega arith
refused_by_nine c t r (too_many c' k v t' n) = omega arith
refused_by_nine c t r (too_many_arrays c' n) = omega arith
refused_by_nine c t r (too_many_structs c' n) = omega arith

pub wrong_place : (bytes : List ℕ) (place reason : ℕ) → WrongSignature bytes place reason → (place ≤ length bytes) × (reason ≤ 9)
wrong_place bytes place reason (too_long long) = (omega (arith, long), omega arith)
wrong_place bytes place reason (refused p r c judged h) = (judged.within, refused_by_nine c _ r h)

pub told_place : (bytes : List ℕ) (f : Fault) → signature_in bytes ≡ Err f → (f.place ≤ length bytes) × (f.reason ≤ 9)
told_place bytes f e = wrong_place bytes f.place f.reason (signature_in-told bytes f e).there

-- where something is wrong, a fault is told, and none comes before it
pub wrong_told : (bytes : List ℕ) (q s : ℕ) → WrongSignature bytes q s → (f : Fault) × (signature_in bytes ≡ Err f) × Before f.place f.reason q s
wrong_told bytes q s w = by (signature_in bytes) refl
  where
    by : (r : Result (List Kind) Fault) → signature_in bytes ≡ r → (f : Fault) × (signature_in bytes ≡ Err f) × Before f.place f.reason q s
    by (Err f) e = (f, e, (signature_in-told bytes f e).first q s w)
    by (Ok ks) e =
        let reads = signature_in-read bytes ks e in
        absurd (no_fault_of_signature (kinds_of ks) q s reads.is (subst (λ (bs : List ℕ). WrongSignature bs q s) reads.spelled w))
