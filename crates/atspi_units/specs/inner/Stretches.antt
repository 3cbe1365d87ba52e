-- The part of a window between two places where a unit surely ends.
use Rattle.std.specs.Prelude.{◌≡◌, ℕ, ◌<◌, ◌≤◌, ◌⊎◌, true, List, [], ◌∷◌, ◌++◌, length, encode_utf8_all, Option, None}
use Rattle.std.specs.Prelude.{Some}
use Rattle.atspi_units.specs.declared.grain.Grain.{Grain}
use Rattle.atspi_units.specs.declared.window.Reaches.{Reaches}
use Rattle.atspi_units.specs.declared.stretch.Place.{Place}
use Rattle.atspi_units.specs.declared.stretch.Stretch.{Stretch}
use Rattle.atspi_units.specs.inner.Seams.{AreApart}

-- so many characters stand before the place, and take so many bytes
pub record IsPlaceBehind (front : List ℕ) (place : Place) : Type 0 where
  pub chars : place.chars ≡ length front
  pub bytes : place.bytes ≡ length (encode_utf8_all front)

-- a stretch may begin at the place
pub record IsOpen (unit : Grain) (window : List ℕ) (reaches : Reaches) (from : Place) : Type 0 where
  pub before : List ℕ
  pub rest : List ℕ
  pub whole : window ≡ before ++ rest
  pub place : IsPlaceBehind before from
  pub apart : ((before ≡ []) × (reaches.start ≡ true)) ⊎ AreApart unit before rest

-- the stretch is between two such places, and holds the character
pub record IsStretch (unit : Grain) (window : List ℕ) (reaches : Reaches) (at : ℕ) (stretch : Stretch) : Type 0 where
  pub before : List ℕ
  pub middle : List ℕ
  pub behind : List ℕ
  pub whole : window ≡ before ++ (middle ++ behind)
  pub from : IsPlaceBehind before stretch.from
  pub to : IsPlaceBehind (before ++ middle) stretch.to
  pub first : ((before ≡ []) × (reaches.start ≡ true)) ⊎ AreApart unit before middle
  pub last : ((behind ≡ []) × (reaches.end ≡ true)) ⊎ AreApart unit middle behind
  pub holds : (stretch.from.chars ≤ at) × (at < stretch.to.chars)

-- the last of the characters
abbrev pub IsLast : List ℕ → Option ℕ → Type 0
IsLast cs None = cs ≡ []
IsLast cs (Some c) = (front : List ℕ) × (cs ≡ front ++ c ∷ [])
