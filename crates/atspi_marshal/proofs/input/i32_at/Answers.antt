use Rattle.std.proofs.Common.{◌≡◌, ℕ, ap, ◌∙◌, ℤ, arith}
use Rattle.std.specs.Int.{w32, cast_unsigned, cast_signed}
use Rattle.std.proofs.lemmas.Int.{of_z-to_z}
use Rattle.atspi_marshal.proofs.input.i32_at.Goals as goal

pub returns : goal.returns
returns c =
    let bits : cast_unsigned w32 c.cast_signed.result ≡ c.u32_at.result = ap (λ (z : ℤ). cast_unsigned w32 z) c.cast_signed.ensures ∙ of_z-to_z w32 c.u32_at.result (omega arith) in
    of_z-to_z w32 (cast_unsigned w32 c.cast_signed.result) (omega (arith, bits)) ∙ bits ∙ c.u32_at.ensures
