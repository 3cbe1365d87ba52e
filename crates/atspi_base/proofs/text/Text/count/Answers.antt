use Rattle.std.proofs.Common.{◌≡◌, ◌<◌, List, ℕ, IsUtf8, chars, length, ap, arith}
use Rattle.std.proofs.lemmas.Str.{IsUtf8-string_bytes}
use Rattle.atspi_base.proofs.TextLemmas.{length-chars-le}
use Rattle.atspi_base.proofs.text.Text.count.Goals as goal

-- a text whose bytes a u32 counts has as few characters
fits : (bytes told : List ℕ) (count : ℕ) → IsUtf8 bytes → told ≡ bytes → count ≡ length (chars told) → length bytes < 4294967296 → count < 4294967296
fits bytes told count u e c below = omega (arith, c, ap (λ bs. length (chars bs)) e, length-chars-le bytes u, below)

pub overflow_cast-result : goal.overflow_cast-result
overflow_cast-result c =
    let counted : c.count_chars.result < 4294967296 = fits _ _ c.count_chars.result (IsUtf8-string_bytes c.self.inside.string) c.deref.ensures c.count_chars.ensures c.self.invariant.counted in
    omega (arith, counted)
