-- Bytes that are a character each.
use Rattle.std.proofs.Common.{◌≡◌, ℕ, zero, suc, ◌<◌, Bool, true, false, nat_lt, List, [], ◌∷◌, length, Option, Result, Ok, Err, ◌≤◌, chars, refl, arith}
use Rattle.std.specs.Prelude.{◌&&◌, slice_index, IfErr}
use Rattle.std.specs.List.{list_all}
use Rattle.std.proofs.lemmas.Bool.{ltb-true}
use Rattle.std.proofs.lemmas.Str.{IsUtf8-from_ascii}
use Rattle.atspi_base.specs.Text.{bytes_before_zero}
use Rattle.atspi_base.specs.ReadsText.{text_in}
use Rattle.atspi_base.proofs.TextLemmas.{whole}
use Rattle.atspi_types.specs.SignatureReading.{signature_in}
use Rattle.atspi_types.specs.declared.fault.Fault.{Fault}
use Rattle.atspi_marshal_in_place.specs.codes.TyRefs.{ReadsOne}
use Rattle.atspi_marshal_in_place.specs.declared.codes.types.TyRef.{TyRef}
use Rattle.atspi_marshal.proofs.SignatureFaults.{told_place}
use Rattle.atspi_marshal_in_place.specs.Passing.{is_plain}

and_both : (a b : Bool) → (a && b) ≡ true → (a ≡ true) × (b ≡ true)
and_both true true h = (refl, refl)
and_both true false h = absurd cc
and_both false b h = absurd cc

plain_zero : (bytes : List ℕ) → list_all is_plain bytes ≡ true → bytes_before_zero bytes ≡ length bytes
plain_zero [] h = refl
plain_zero (zero ∷ bytes) h = absurd cc
plain_zero (suc b ∷ bytes) h =
    let rest = plain_zero bytes (and_both (is_plain (suc b)) (list_all is_plain bytes) h).1 in
    omega (arith, rest)

plain_ascii : (bytes : List ℕ) → list_all is_plain bytes ≡ true → (i : ℕ) → slice_index bytes i < 128
plain_ascii [] h i = omega arith
plain_ascii (b ∷ bytes) h zero =
    let both = and_both (is_plain b) (list_all is_plain bytes) h in
    ltb-true b 128 (and_both (nat_lt 0 b) (nat_lt b 128) both.0).1
plain_ascii (b ∷ bytes) h (suc i) = plain_ascii bytes (and_both (is_plain b) (list_all is_plain bytes) h).1 i

pub plain_text : (bytes : List ℕ) → list_all is_plain bytes ≡ true → text_in bytes ≡ Ok (chars bytes)
plain_text bytes h = whole bytes (bytes_before_zero bytes) (IsUtf8-from_ascii bytes (plain_ascii bytes h)) refl (omega (arith, plain_zero bytes h))

-- what is wrong with the codes of a type stands in them, or right behind them
pub one_place : (bytes : List ℕ) (r : Result (Option TyRef) Fault) → ReadsOne r (signature_in bytes) → IfErr r (λ (w : Fault). w.place ≤ length bytes)
one_place bytes (Ok o) h = tt
one_place bytes (Err f) h = (told_place bytes f h).0
