-- The cells of a table (AT-SPI2's interface file Table), and those beside a cell.
use Rattle.std.specs.Prelude.{ℕ, suc, ◌*◌, ◌/◌, ◌%◌, ◌≡◌, ◌<◌}
use Rattle.atspi_hit.specs.declared.cells.Way.{Way}
use Rattle.atspi_hit.specs.declared.cells.Way.TheVariants.{Up, Down, Left, Right}

-- so many children are cells: those that fill whole rows; without columns there is none
abbrev pub cells : ℕ → ℕ → ℕ
cells count columns = count / columns * columns

-- a cell's row and its column
abbrev pub seat : ℕ → ℕ → ℕ × ℕ
seat columns i = (i / columns, i % columns)

-- on this way the second stands directly beside the first
abbrev pub IsBeside : Way → ℕ × ℕ → ℕ × ℕ → Type 0
IsBeside Up a b = (a.0 ≡ suc b.0) × (a.1 ≡ b.1)
IsBeside Down a b = (b.0 ≡ suc a.0) × (b.1 ≡ a.1)
IsBeside Left a b = (b.0 ≡ a.0) × (a.1 ≡ suc b.1)
IsBeside Right a b = (b.0 ≡ a.0) × (b.1 ≡ suc a.1)

-- there is a cell beside another on this way
pub record IsNeighbour (count columns : ℕ) (way : Way) (at to : ℕ) : Type 0 where
  pub cell : to < cells count columns
  pub beside : IsBeside way (seat columns at) (seat columns to)
