-- Fields of a header that are passed, and signatures that are not those of a field.
use Rattle.std.proofs.Common.{◌≡◌, ℕ, List, [], ◌∷◌, length, Some, None, Result, Ok, Err, refl, sym, ap, subst, ◌∙◌, arith}
use Rattle.atspi_types.specs.Kinds.{Kind, variant}
use Rattle.atspi_types.specs.Data.{Data}
use Rattle.atspi_types.specs.declared.fault.Fault.{Fault}
use Rattle.atspi_types.specs.SignatureFaults.{token_of}
use Rattle.atspi_types.specs.SignatureReading.{signature_in, walk, step_at, refusal, with_token, end_at}
use Rattle.atspi_marshal_in_place.specs.codes.TyRefs.{ref_kind, ReadsOne}
use Rattle.atspi_marshal_in_place.specs.declared.codes.types.TyRef.{TyRef}
use Rattle.atspi_marshal.specs.Reading.{◌>>=◌, bad}
use Rattle.atspi_marshal_in_place.specs.Passing.{after}
use Rattle.atspi_message.specs.inner.Reading.{Found, dropped, other_type}
use Rattle.atspi_message_in_place.specs.View.{Reads}

abbrev types_read : List Kind → Result (List Kind) Fault
types_read ks = Ok ks

-- a field without a meaning is passed, and changes nothing that was found
pub passed_over : (found : Found) (r : Result ℕ Fault) (x : Result (Data × ℕ) Fault) → r ≡ after x → Reads (λ (next : ℕ). (found, next)) r (x >>= dropped found)
passed_over found r (Ok x) e = subst (λ (q : Result ℕ Fault). Reads (λ (next : ℕ). (found, next)) q (dropped found x)) (sym e) refl
passed_over found r (Err f) e = subst (λ (q : Result ℕ Fault). Reads {Y = Found × ℕ} (λ (next : ℕ). (found, next)) q (Err f)) (sym e) refl

-- what is told of one type, and of none or several
pub of_one : (p : ℕ) (ks : List Kind) → length ks ≡ 1 → other_type p (Ok ks) ≡ bad p 29
of_one p [] one = absurd (omega (arith, one))
of_one p (k ∷ []) one = refl
of_one p (k ∷ j ∷ ks) one = absurd (omega (arith, one))

pub of_others : (p : ℕ) (ks : List Kind) → (length ks ≡ 1 → ⊥) → other_type p (Ok ks) ≡ bad p 16
of_others p [] other = refl
of_others p (k ∷ []) other = absurd (other refl)
of_others p (k ∷ j ∷ ks) other = refl

-- v spells the type of a variant
variant_codes : signature_in (118 ∷ []) ≡ Ok (variant ∷ [])
unfolding signature_in walk step_at refusal with_token token_of end_at
variant_codes = refl

same_types : (ks js : List Kind) → types_read ks ≡ types_read js → ks ≡ js
same_types ks js e = cc

-- so it is read as this type, and as nothing else
pub is_variant : (t : TyRef) → ReadsOne (Ok (Some t)) (signature_in (118 ∷ [])) → ref_kind t ≡ variant
is_variant t e = head_is (ref_kind t) variant (same_types _ _ (sym e ∙ variant_codes))
  where
    head_is : (k j : Kind) → k ∷ [] ≡ j ∷ [] → k ≡ j
    head_is k j h = cc

pub is_one : ReadsOne (Ok None) (signature_in (118 ∷ [])) → ⊥
is_one t = t.2 (ap length (same_types t.0 (variant ∷ []) (sym t.1 ∙ variant_codes)))

pub is_no_fault : (f : Fault) → ReadsOne (Err f) (signature_in (118 ∷ [])) → ⊥
is_no_fault f e = let clash = sym e ∙ variant_codes in absurd cc
