-- Thirty-two hex digits are what decodes to sixteen bytes.
use Rattle.std.proofs.Common.{◌≡◌, ℕ, ◌==◌, ◌&&◌, Bool, true, false, List, length, is_ok, refl, arith, sym}
use Rattle.std.specs.List.{list_all}
use Rattle.std.proofs.lemmas.Bool.{and_parts, eqb-true, eq-eqb}
use Rattle.std.proofs.lemmas.List.Sums.{AllPass-from_list_all, list_all-from_AllPass}
use Rattle.hex.specs.Hex.{decode_sized, is_hex_digit}
use Rattle.hex.proofs.HexLemmas.{IsOk-decode_sized}

-- two tests that hold together are one
both_ways : (a b : Bool) → (a ≡ true → b ≡ true) → (b ≡ true → a ≡ true) → a ≡ b
both_ways true b h k = sym (h refl)
both_ways false true h k = k refl
both_ways false false h k = refl

and_both : (a b : Bool) → a ≡ true → b ≡ true → (a && b) ≡ true
and_both a b h k = grind (arith, h, k)

pub thirty_two_digits : (t : List ℕ) → is_ok (decode_sized t 16) ≡ (length t == 32 && list_all is_hex_digit t)
thirty_two_digits t =
    let digits = IsOk-decode_sized t 16 in
    both_ways (is_ok (decode_sized t 16)) (length t == 32 && list_all is_hex_digit t)
    (λ h.
    let d = digits.0 h in
    and_both (length t == 32) (list_all is_hex_digit t) (eq-eqb (length t) 32 d.0) (list_all-from_AllPass is_hex_digit t d.1))
    (λ h.
    let d = and_parts (length t == 32) (list_all is_hex_digit t) h in
    digits.1 (eqb-true (length t) 32 d.0, AllPass-from_list_all is_hex_digit t d.1))
