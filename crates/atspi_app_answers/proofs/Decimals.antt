-- A number in decimal is plain and short.
use Rattle.std.proofs.Common.{◌≡◌, ℕ, ◌+◌, ◌<◌, ◌^◌, ◌%◌, Bool, true, ◌&&◌, List, [], ◌∷◌, ◌++◌, length, refl, arith}
use Rattle.std.specs.Prelude.{nat_lt, decimal}
use Rattle.std.proofs.lemmas.Bool.{and_parts, and_from}
use Rattle.std.proofs.lemmas.Bool.Decides.{nat_tests}
use Rattle.std.proofs.lemmas.Grind.{common_steps}
use Rattle.std.proofs.lemmas.Fmt.{decimal_by_steps, length-decimal-le}
use Rattle.atspi_protocol_messages.specs.Plain.{are_plain}

abbrev is_plain : ℕ → Bool
is_plain b = nat_lt 0 b && nat_lt b 128

digit : (d : ℕ) → d < 10 → is_plain (48 + d) ≡ true
digit d h = grind (arith, nat_tests, common_steps)

one : (d : ℕ) → d < 10 → are_plain ((48 + d) ∷ []) ≡ true
one d h = let p = digit d h in rw p refl

push : (ds : List ℕ) (d : ℕ) → d < 10 → are_plain ds ≡ true → are_plain (ds ++ (48 + d) ∷ []) ≡ true
push [] d h e = one d h
push (b ∷ ds) d h e =
    let both = and_parts (is_plain b) (are_plain ds) e in
    and_from (is_plain b) (are_plain (ds ++ (48 + d) ∷ [])) both.0 (push ds d h both.1)

pub plain_decimal : (n : ℕ) → n < 2 ^ 32 → are_plain (decimal n) ≡ true
plain_decimal n h = decimal_by_steps (λ n ds. are_plain ds ≡ true) (λ n small. one n small) (λ n ds big e. push ds (n % 10) (omega arith) e) n (omega (arith, h))

pub short_decimal : (n : ℕ) → n < 2 ^ 32 → length (decimal n) < 2 ^ 32
short_decimal n h = let l = length-decimal-le 10 n (omega arith) (omega (arith, h)) (omega (arith, h)) in omega (arith, l)
