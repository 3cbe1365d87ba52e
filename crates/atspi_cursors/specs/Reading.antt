-- Reading the unit of a text at a cursor.
use Rattle.std.specs.Prelude.{◌≡◌, ℕ, zero, suc, ◌≤◌, List, length, Option, None, Some, MatchOption}
use Rattle.std.specs.List.{concat}
use Rattle.atspi_units.specs.Units.{IsUnitAt}
use Rattle.atspi_cursors.specs.declared.reading.Way.{Way}
use Rattle.atspi_cursors.specs.declared.reading.Way.TheVariants.{Here, Next, Prev}
use Rattle.atspi_cursors.specs.declared.reading.Reading.{Reading}

-- the place of the character whose unit is read: the one behind the cursor, or the one before it
abbrev pub place_read : Way → ℕ → Option ℕ
place_read Here cursor = Some cursor
place_read Next cursor = Some cursor
place_read Prev zero = None
place_read Prev (suc before) = Some before

-- the cursor behind that: it stays, comes to the unit's end, or to its start
abbrev pub cursor_after : Way → ℕ → ℕ → ℕ → ℕ
cursor_after Here cursor start end = cursor
cursor_after Next cursor start end = end
cursor_after Prev cursor start end = start

-- among these pieces the unit is read that holds the character
abbrev pub IsUnitRead : Way → List (List ℕ) → ℕ → Reading → ℕ → Type 0
IsUnitRead way pieces cursor reading at = IsUnitAt pieces at reading.start reading.end
    × (reading.cursor ≡ cursor_after way cursor reading.start reading.end)

-- WHAT IS READ AT A CURSOR: the unit of that character, and the cursor behind that; nothing exactly where there is no
-- such character
abbrev pub IsRead : Way → List (List ℕ) → ℕ → Option Reading → Type 0
IsRead way pieces cursor None = MatchOption (place_read way cursor) (Unit {0}) (λ at. length (concat pieces) ≤ at)
IsRead way pieces cursor (Some reading) =
    MatchOption (place_read way cursor) ⊥ (λ at. IsUnitRead way pieces cursor reading at)
