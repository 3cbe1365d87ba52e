-- How a line of the input of `hit` is spelled: an empty line, a comment, a start and an edit as in a script, the edit
-- without the words `edit A`; any other by its words, each behind a space but the first.
use Rattle.std.specs.Prelude.{◌≤◌, ℕ, ℤ, List, [], ◌∷◌, length, codes, IsUtf8, unsigned_abs, FitsSigned}
use Rattle.std.specs.Fmt.{signed_decimal}
use Rattle.std.specs.Int.{w32}
use Rattle.atspi_script_lines.specs.declared.limits.TheConstants.{LINE_LIMIT}
use Rattle.atspi_script_lines.specs.declared.line.Line.TheVariants as script
use Rattle.atspi_script_lines.specs.Line.{Spells}
use Rattle.atspi_script_lines.specs.Words.{Word, SpellsWords, literal, number}
use Rattle.atspi_hit.specs.declared.rect.Rect.{Rect}
use Rattle.atspi_hit.specs.declared.cells.Way.{Way}
use Rattle.atspi_hit.specs.declared.cells.Way.TheVariants as ways
use Rattle.atspi_hit_answers.specs.declared.ask.Ask.{Ask}
use Rattle.atspi_hit_answers.specs.declared.ask.Ask.TheVariants.{Contains, AccessibleAtPoint, Extents}
use Rattle.atspi_run_input.specs.Edits.{IsEditLine}
use Rattle.atspi_run_hit.specs.declared.line.HitLine.{HitLine}
use Rattle.atspi_run_hit.specs.declared.line.HitLine.TheVariants.{Nothing, App, Edit, Place, Call, Cell, Follow}
use Rattle.atspi_run_hit.specs.declared.line.TheConstants.{CORNER_LIMIT, SIZE_LIMIT}

-- a signed number: decimal, behind a `-` where it is below 0
abbrev pub signed : ℤ → Word
signed z = literal (signed_decimal z)

-- coordinates that a line can have: of a point they have 32 bits, a rectangle keeps within its limits
abbrev pub IsPoint : ℤ → ℤ → Type 0
IsPoint x y = FitsSigned w32 x × FitsSigned w32 y

pub record IsRect (r : Rect) : Type 0 where
  pub column : unsigned_abs r.x ≤ CORNER_LIMIT
  pub row : unsigned_abs r.y ≤ CORNER_LIMIT
  pub width : r.w ≤ SIZE_LIMIT
  pub height : r.h ≤ SIZE_LIMIT

-- `place N X Y W H`
abbrev pub rect_words : Rect → List Word
rect_words r = signed r.x ∷ signed r.y ∷ number r.w ∷ number r.h ∷ []

abbrev pub place_words : ℕ → Rect → List Word
place_words n r = literal (codes "place") ∷ number n ∷ rect_words r

-- `inside N X Y`, `point N X Y`, `extents N`
abbrev pub ask_words : ℕ → Ask → List Word
ask_words n (Contains x y) = literal (codes "inside") ∷ number n ∷ signed x ∷ signed y ∷ []
ask_words n (AccessibleAtPoint x y) = literal (codes "point") ∷ number n ∷ signed x ∷ signed y ∷ []
ask_words n Extents = literal (codes "extents") ∷ number n ∷ []

abbrev pub IsAsk : Ask → Type 0
IsAsk (Contains x y) = IsPoint x y
IsAsk (AccessibleAtPoint x y) = IsPoint x y
IsAsk Extents = Unit {0}

-- `cell N I WAY`
abbrev pub way_word : Way → List ℕ
way_word ways.Up = codes "up"
way_word ways.Down = codes "down"
way_word ways.Left = codes "left"
way_word ways.Right = codes "right"

abbrev pub cell_words : ℕ → ℕ → Way → List Word
cell_words n i way = literal (codes "cell") ∷ number n ∷ number i ∷ literal (way_word way) ∷ []

-- `follow N K`
abbrev pub follow_words : ℕ → ℕ → List Word
follow_words n k = literal (codes "follow") ∷ number n ∷ number k ∷ []

-- the bytes are the words of a line of its own, whatever their number
abbrev pub AreOwn : HitLine → List ℕ → Type 0
AreOwn (Place n r) bytes = IsRect r × SpellsWords (place_words n r) (32 ∷ bytes)
AreOwn (Call n ask) bytes = IsAsk ask × SpellsWords (ask_words n ask) (32 ∷ bytes)
AreOwn (Cell n i way) bytes = SpellsWords (cell_words n i way) (32 ∷ bytes)
AreOwn (Follow n k) bytes = SpellsWords (follow_words n k) (32 ∷ bytes)
AreOwn line bytes = ⊥

-- THE BYTES, WITHOUT THEIR LINE FEED, SPELL THIS LINE
abbrev pub SpellsLine : HitLine → List ℕ → Type 0
SpellsLine Nothing bytes = Spells script.Blank bytes
SpellsLine (App name) bytes = Spells (script.App name) bytes
SpellsLine (Edit edit) bytes = IsEditLine edit bytes
SpellsLine line bytes = (length bytes ≤ LINE_LIMIT) × IsUtf8 bytes × AreOwn line bytes
