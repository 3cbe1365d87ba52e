-- The unit that holds a character, told from a window of the text.
use Rattle.std.specs.Prelude.{◌≡◌, ℕ, ◌+◌, true, List, [], ◌++◌, length}
use Rattle.atspi_units.specs.Units.{units, IsUnitAt}
use Rattle.atspi_units.specs.declared.grain.Grain.{Grain}
use Rattle.atspi_units.specs.declared.window.Reaches.{Reaches}

-- the unit holds the character in each text of which this is the window: nothing stands before it where it reaches the
-- start of the text, and nothing behind it where it reaches the end
abbrev pub IsUnitWithin : Grain → List ℕ → Reaches → ℕ → ℕ → ℕ → Type 0
IsUnitWithin unit window reaches at start end = (front back : List ℕ) → (reaches.start ≡ true → front ≡ [])
    → (reaches.end ≡ true → back ≡ [])
    → IsUnitAt (units unit (front ++ (window ++ back))) (length front + at) (length front + start) (length front + end)
