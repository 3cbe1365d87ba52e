-- A text in one piece with the two sides of the place where it was changed last.
use Rattle.std.specs.Prelude.{ℕ, ◌+◌, List, chars}
use Rattle.atspi_faces.specs.declared.side.Side.{Side}
use Rattle.atspi_base.specs.Places.{IsCounted}
use Rattle.atspi_faces.specs.Sides.{AreSides}

pub record IsRun (bytes : List ℕ) (front back : Side) : Type 0 where
  pub counted : IsCounted bytes (front.end.chars + back.end.chars)
  pub sides : AreSides (chars bytes) front back
