-- Reading units: the pieces of a text, and the one that holds a character.
use Rattle.std.specs.Prelude.{◌≡◌, ℕ, ◌+◌, ◌<◌, ◌≤◌, ◌==◌, true, List, [], ◌∷◌, ◌++◌, length}
use Rattle.std.specs.List.{concat}
use Rattle.unicode_segmentation.specs.Segments.{Rule, cut}
use Rattle.unicode_segmentation.specs.Word.{is_word_break}
use Rattle.atspi_units.specs.declared.grain.Grain.{Grain}
use Rattle.atspi_units.specs.declared.grain.Grain.TheVariants.{Char, Word, Line}

-- the line feed
abbrev pub line_feed : ℕ
line_feed = 10

-- whether a line ends between the characters before a place, nearest first, and those after it: behind a line feed, and
-- where the text ends
abbrev pub ends_line : Rule
ends_line [] after = true
ends_line (last ∷ before) [] = true
ends_line (last ∷ before) (next ∷ after) = last == line_feed

-- the same of any unit: a character ends everywhere, a word where Unicode has a word boundary
abbrev pub ends_unit : Grain → Rule
ends_unit Char = λ before after. true
ends_unit Word = is_word_break
ends_unit Line = ends_line

-- the units of a text: it is cut wherever one of them ends
abbrev pub units : Grain → List ℕ → List (List ℕ)
units unit text = cut (ends_unit unit) [] text []

-- the piece from one place up to another holds the character at a place; so many characters stand in the pieces before
-- it
pub record IsUnitAt (pieces : List (List ℕ)) (at start end : ℕ) : Type 0 where
  pub before : List (List ℕ)
  pub piece : List ℕ
  pub behind : List (List ℕ)
  pub cut : pieces ≡ before ++ piece ∷ behind
  pub starts : start ≡ length (concat before)
  pub ends : end ≡ start + length piece
  pub from : start ≤ at
  pub upto : at < end
