-- A unit that was read lies in its text.
use Rattle.std.specs.Prelude.{ℕ, ◌≤◌, List, length, Option, IfSome}
use Rattle.atspi_cursors.specs.declared.reading.Reading.{Reading}

abbrev pub FitsIn : Option Reading → List ℕ → Type 0
FitsIn reading text = IfSome reading (λ unit. (unit.start ≤ unit.end) × (unit.end ≤ length text))
