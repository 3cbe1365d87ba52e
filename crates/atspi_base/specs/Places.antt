-- Characters in their bytes.
use Rattle.std.specs.Prelude.{◌≡◌, ℕ, ◌≤◌, List, length, take, drop, chars, IsUtf8}
use Rattle.atspi_base.specs.Text.{IsTextBytes}

-- the bytes are those of a text with so many characters
pub record IsCounted (bytes : List ℕ) (told : ℕ) : Type 0 where
  pub text : IsTextBytes bytes
  pub counted : told ≡ length (chars bytes)

-- the first n characters are the bytes before a place, and the others those from it on
pub record CutAt (bytes : List ℕ) (n place : ℕ) : Type 0 where
  pub within : place ≤ length bytes
  pub front_utf8 : IsUtf8 (take place bytes)
  pub back_utf8 : IsUtf8 (drop place bytes)
  pub front : chars (take place bytes) ≡ take n (chars bytes)
  pub back : chars (drop place bytes) ≡ drop n (chars bytes)
