-- Where a unit ends between two characters whatever stands around them.
use Rattle.std.specs.Prelude.{◌≡◌, ℕ, ◌==◌, Bool, true, false, ◌&&◌, List, [], ◌∷◌, ◌++◌, Option, None, Some, unwrap_or}
use Rattle.ucd_breaks.specs.WordBreak.{word_break}
use Rattle.ucd_breaks.specs.declared.WordBreak.{WordBreak}
use Rattle.ucd_breaks.specs.declared.WordBreak.TheVariants.{Cr, Lf, Newline, Other, WSegSpace}
use Rattle.unicode_segmentation.specs.Word.{break_by_pair}
use Rattle.atspi_units.specs.Units.{line_feed}
use Rattle.atspi_units.specs.declared.grain.Grain.{Grain}
use Rattle.atspi_units.specs.declared.grain.Grain.TheVariants.{Char, Word, Line}

-- no rule of words but those on pairs names the class
abbrev pub is_plain : WordBreak → Bool
is_plain Cr = true
is_plain Lf = true
is_plain Newline = true
is_plain Other = true
is_plain WSegSpace = true
is_plain _ = false

-- a word ends behind a plain character which the rules on pairs do not join to the next
abbrev pub word_ends : WordBreak → WordBreak → Bool
word_ends left right = is_plain left && unwrap_or (break_by_pair left right false) true

-- the unit ends between the two characters
abbrev pub ends_surely : Grain → ℕ → ℕ → Bool
ends_surely Char left right = true
ends_surely Word left right = word_ends (word_break left) (word_break right)
ends_surely Line left right = left == line_feed

-- the same, where the one part may be empty
abbrev pub ends_behind : Grain → Option ℕ → ℕ → Bool
ends_behind unit None right = false
ends_behind unit (Some left) right = ends_surely unit left right

-- the same between two parts of a text
pub record AreApart (unit : Grain) (before behind : List ℕ) : Type 0 where
  pub front : List ℕ
  pub left : ℕ
  pub right : ℕ
  pub back : List ℕ
  pub first : before ≡ front ++ left ∷ []
  pub second : behind ≡ right ∷ back
  pub sure : ends_surely unit left right ≡ true
