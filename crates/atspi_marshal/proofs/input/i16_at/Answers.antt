use Rattle.std.proofs.Common.{◌≡◌, ℕ, ap, ◌∙◌, ℤ, arith}
use Rattle.std.specs.Int.{w16, cast_unsigned, cast_signed}
use Rattle.std.proofs.lemmas.Int.{of_z-to_z}
use Rattle.atspi_marshal.proofs.input.i16_at.Goals as goal

pub returns : goal.returns
returns c =
    let bits : cast_unsigned w16 c.cast_signed.result ≡ c.u16_at.result = ap (λ (z : ℤ). cast_unsigned w16 z) c.cast_signed.ensures ∙ of_z-to_z w16 c.u16_at.result (omega arith) in
    of_z-to_z w16 (cast_unsigned w16 c.cast_signed.result) (omega (arith, bits)) ∙ bits ∙ c.u16_at.ensures
