-- What the line that tells a reading has behind the names.
use Rattle.std.specs.Prelude.{ℕ, ◌-◌, List, [], ◌∷◌, ◌++◌, take, drop, codes, Option, None, Some}
use Rattle.std.specs.Fmt.{decimal}
use Rattle.atspi_base.specs.Quoted.{quoted}
use Rattle.atspi_cursors.specs.declared.reading.Reading.{Reading}

abbrev pub behind_names : List ℕ → Option Reading → List ℕ
behind_names text None = codes " end" ++ 10 ∷ []
behind_names text (Some unit) =
    (32 ∷ decimal unit.start ++ 32 ∷ decimal unit.end)
    ++ (32 ∷ quoted (take (unit.end - unit.start) (drop unit.start text)) ++ 10 ∷ [])
