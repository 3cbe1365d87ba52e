-- Selections whose ends fit signed numbers.
use Rattle.std.specs.Prelude.{◌≤◌, ℕ, List, Option, None, Some}
use Rattle.atspi_tree_model.specs.Row.{Each}

abbrev pub FitsSigned : ℕ × ℕ → Type 0
FitsSigned mark = (mark.0 ≤ 2147483647) × (mark.1 ≤ 2147483647)

abbrev pub IsSmall : Option (ℕ × ℕ) → Type 0
IsSmall None = Unit {0}
IsSmall (Some mark) = FitsSigned mark

abbrev pub AreSmall : List (ℕ × ℕ) → Type 0
AreSmall marks = Each FitsSigned marks
