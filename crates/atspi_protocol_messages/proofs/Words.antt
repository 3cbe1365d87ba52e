-- The words of a program are their own characters, without a zero byte.
use Rattle.std.proofs.Common.{◌≡◌, ℕ, zero, suc, true, ◌&&◌, List, [], ◌∷◌, refl, ap, arith}
use Rattle.std.proofs.lemmas.Bool.{and_parts, ltb-true}
use Rattle.std.proofs.lemmas.Str.{chars-IsAscii}
use Rattle.std.specs.Prelude.{nat_lt}
use Rattle.std.specs.Str.{chars, IsAscii}
use Rattle.atspi_base.specs.Text.{HasNoZero}
use Rattle.atspi_protocol_messages.specs.Plain.{are_plain}

pub plain_no_zero : (bytes : List ℕ) → are_plain bytes ≡ true → HasNoZero bytes
plain_no_zero [] h = refl
plain_no_zero (zero ∷ bytes) h = absurd cc
plain_no_zero (suc b ∷ bytes) h = ap suc (plain_no_zero bytes (and_parts (nat_lt 0 (suc b) && nat_lt (suc b) 128) (are_plain bytes) h).1)

ascii_at : (bytes : List ℕ) → are_plain bytes ≡ true → IsAscii bytes
ascii_at [] h i = omega arith
ascii_at (b ∷ bytes) h zero = let both = and_parts (nat_lt 0 b && nat_lt b 128) (are_plain bytes) h in ltb-true b 128 (and_parts (nat_lt 0 b) (nat_lt b 128) both.0).1
ascii_at (b ∷ bytes) h (suc i) = ascii_at bytes (and_parts (nat_lt 0 b && nat_lt b 128) (are_plain bytes) h).1 i

pub plain_chars : (bytes : List ℕ) → are_plain bytes ≡ true → chars bytes ≡ bytes
plain_chars bytes h = chars-IsAscii bytes (ascii_at bytes h)
