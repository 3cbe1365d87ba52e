-- A text in two parts with a gap between them.
use Rattle.std.specs.Prelude.{◌≡◌, ℕ, ◌+◌, ◌<◌, List, ◌++◌, length, reverse, chars, IsUtf8}
use Rattle.atspi_base.specs.Text.{HasNoZero}
use Rattle.atspi_faces.specs.declared.side.Side.{Side}
use Rattle.atspi_faces.specs.Sides.{IsSide}

-- the characters of both parts
abbrev pub text_of : List ℕ × List ℕ → List ℕ
text_of parts = chars parts.0 ++ chars parts.1

-- a part is bytes of so many characters, none of them U+0000
pub record IsPart (bytes : List ℕ) (told : ℕ) : Type 0 where
  pub utf8 : IsUtf8 bytes
  pub no_zero : HasNoZero bytes
  pub counted : told ≡ length (chars bytes)

-- so are both, and a u32 counts the bytes of both
pub record IsGapped (parts : List ℕ × List ℕ) (before behind : ℕ) : Type 0 where
  pub front : IsPart parts.0 before
  pub back : IsPart parts.1 behind
  pub fits : length parts.0 + length parts.1 < 4294967296

-- the two parts are what the sides tell of
pub record AreKept (parts : List ℕ × List ℕ) (front back : Side) : Type 0 where
  pub gapped : IsGapped parts front.end.chars back.end.chars
  pub before : IsSide (chars parts.0) front
  pub behind : IsSide (reverse (chars parts.1)) back
