-- The end of a name, read value by value.
use Rattle.std.specs.Prelude.{ℕ, List, [], Option, Some, None}
use Rattle.atspi_types.specs.Data.{Data}
use Rattle.atspi_protocol.specs.news.Arguments.{then_text}

-- the new owner is nobody, and nothing stands behind it
abbrev pub ended_if : List ℕ → List ℕ → List Data → Option (List ℕ)
ended_if name [] [] = Some name
ended_if name owner rest = None

abbrev pub ended_in : List Data → Option (List ℕ)
ended_in = then_text (λ name. then_text (λ before. then_text (λ owner. ended_if name owner)))
