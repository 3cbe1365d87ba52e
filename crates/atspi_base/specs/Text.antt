-- Texts: lists of characters without U+0000, and what reading bytes as one gives.
use Rattle.std.specs.Prelude.{◌≡◌, ◌<◌, ℕ, zero, suc, List, [], ◌∷◌, length}

-- how many bytes stand before the first one that is 0, or all
abbrev pub bytes_before_zero : List ℕ → ℕ
bytes_before_zero [] = 0
bytes_before_zero (zero ∷ bytes) = 0
bytes_before_zero (suc b ∷ bytes) = suc (bytes_before_zero bytes)

-- no byte is 0
abbrev pub HasNoZero : List ℕ → Type 0
HasNoZero bytes = bytes_before_zero bytes ≡ length bytes

-- what is kept of the bytes of a text: none is 0, and a u32 counts them
pub record IsTextBytes (bytes : List ℕ) : Type 0 where
  pub no_zero : HasNoZero bytes
  pub counted : length bytes < 4294967296
