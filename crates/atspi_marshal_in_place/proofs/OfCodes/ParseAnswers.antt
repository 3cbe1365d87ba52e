-- What the answer of reading types says, in the terms of its definition.
use Rattle.std.proofs.Common.{◌≡◌, ℕ, List, [], ◌∷◌, length, refl, sym, ap, ◌∙◌, true, Result, Ok, Err}
use Rattle.std.specs.Prelude.{is_ok, IfOk, IfErr, IsOkAnd}
use Rattle.std.specs.Result.{result_unwrap_or}
use Rattle.atspi_types.specs.Kinds.{Kind, Kinds, kinds_of, types_in}
use Rattle.atspi_types.specs.Signatures.{signature_bytes, IsSignature}
use Rattle.atspi_types.specs.SignatureFaults.{IsFirstSignatureFault}
use Rattle.atspi_types.specs.SignatureReading.{signature_in}
use Rattle.atspi_types.specs.declared.fault.Fault.{Fault}
use Rattle.atspi_types.proofs.DataLemmas.{kinds_of-types_in}
use Rattle.atspi_types.proofs.SignatureLaws.{signature_in-read, signature_in-again, signature_in-told}
use Rattle.atspi_marshal_in_place.specs.codes.Codes.{kind_at, kinds_at, spells}
use Rattle.atspi_marshal_in_place.specs.codes.TyRefs.{refs_kinds, refs_read}
use Rattle.atspi_marshal_in_place.specs.declared.codes.types.TysRef.{TysRef}

abbrev read : List Kind → Result (List Kind) Fault
read ks = Ok ks

-- codes that are spelled are read as the types that they spell
pub spelled_read : (bytes : List ℕ) → spells bytes ≡ true → read (kinds_at bytes) ≡ signature_in bytes
spelled_read bytes h = by (signature_in bytes) refl h
  where
    by : (r : Result (List Kind) Fault) → signature_in bytes ≡ r → is_ok r ≡ true → read (kinds_at bytes) ≡ signature_in bytes
    by (Ok ks) e h = rw e refl
    by (Err f) e h = absurd cc

-- one type alone is read as that type
pub one_read : (bytes : List ℕ) → length (kinds_at bytes) ≡ 1 → signature_in bytes ≡ read (kind_at bytes ∷ [])
one_read bytes h = by (signature_in bytes) refl h
  where
    by : (r : Result (List Kind) Fault) → signature_in bytes ≡ r → length (result_unwrap_or r []) ≡ 1 → signature_in bytes ≡ read (kind_at bytes ∷ [])
    by (Ok []) e h = absurd cc
    by (Ok (k ∷ [])) e h = rw e refl
    by (Ok (k ∷ j ∷ ks)) e h = absurd cc
    by (Err f) e h = absurd cc

pub found : (bytes : List ℕ) (r : Result TysRef Fault) → refs_read r ≡ signature_in bytes → IfOk r (λ ts. bytes ≡ signature_bytes (kinds_of (refs_kinds ts)))
found bytes (Ok ts) g = (signature_in-read bytes (refs_kinds ts) (sym g)).spelled
found bytes (Err f) g = tt

pub within : (bytes : List ℕ) (r : Result TysRef Fault) → refs_read r ≡ signature_in bytes → IfOk r (λ ts. IsSignature (kinds_of (refs_kinds ts)))
within bytes (Ok ts) g = (signature_in-read bytes (refs_kinds ts) (sym g)).is
within bytes (Err f) g = tt

ok_is : (a b : List Kind) → read a ≡ read b → a ≡ b
ok_is a b e = cc

pub only : (bytes : List ℕ) (r : Result TysRef Fault) → refs_read r ≡ signature_in bytes → (ks : Kinds) → IsSignature ks → bytes ≡ signature_bytes ks → IsOkAnd r (λ ts. kinds_of (refs_kinds ts) ≡ ks)
only bytes (Ok ts) g ks h e = ap kinds_of (ok_is (refs_kinds ts) (types_in ks) (g ∙ (ap signature_in e ∙ signature_in-again ks h))) ∙ kinds_of-types_in ks
only bytes (Err f) g ks h e = let clash = g ∙ (ap signature_in e ∙ signature_in-again ks h) in absurd cc

pub first : (bytes : List ℕ) (r : Result TysRef Fault) → refs_read r ≡ signature_in bytes → IfErr r (λ f. IsFirstSignatureFault bytes f.place f.reason)
first bytes (Ok ts) g = tt
first bytes (Err f) g = signature_in-told bytes f (sym g)
