-- The two sides of a gap in a text, each read from its end of the text up to the gap, with places that are noted in it.
use Rattle.std.specs.Prelude.{◌≡◌, ℕ, ◌-◌, ◌≤◌, List, [], ◌∷◌, length, take, drop, reverse}
use Rattle.std.specs.Str.{encode_utf8_all}
use Rattle.atspi_faces.specs.declared.side.Place.{Place}
use Rattle.atspi_faces.specs.declared.side.Side.{Side}

-- how many bytes characters take
abbrev pub size : List ℕ → ℕ
size cs = length (encode_utf8_all cs)

-- a place is one of the characters, and tells the bytes before it
pub record IsPlace (cs : List ℕ) (place : Place) : Type 0 where
  pub within : place.chars ≤ length cs
  pub told : place.bytes ≡ size (take place.chars cs)

-- each is a place of the characters, the first at most at the bound and each other at most at the one before it
abbrev pub AreNoted : List ℕ → ℕ → List Place → Type 0
AreNoted cs bound [] = Unit {0}
AreNoted cs bound (place ∷ places) = (place.chars ≤ bound) × IsPlace cs place × AreNoted cs place.chars places

-- a side has such characters; those places of it that were noted last are nearest to the gap
pub record IsSide (cs : List ℕ) (side : Side) : Type 0 where
  pub counted : side.end.chars ≡ length cs
  pub sized : side.end.bytes ≡ size cs
  pub noted : AreNoted cs side.end.chars (reverse side.places.items)

-- a text is noted from both its ends, up to so many characters and behind them
pub record AreSpread (text : List ℕ) (total : Place) (upto : ℕ) (from to : List Place) : Type 0 where
  pub counted : total.chars ≡ length text
  pub sized : total.bytes ≡ size text
  pub within : upto ≤ total.chars
  pub held : AreNoted text upto (reverse from)
  pub given : AreNoted (reverse text) (total.chars - upto) (reverse to)

-- a text in two sides: its first characters, and the others read from its other end
pub record AreSides (text : List ℕ) (side other : Side) : Type 0 where
  pub near : IsSide (take side.end.chars text) side
  pub far : IsSide (reverse (drop side.end.chars text)) other
