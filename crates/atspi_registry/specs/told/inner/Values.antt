-- A pair as a value.
use Rattle.std.specs.Prelude.{ℕ, List, [], ◌∷◌}
use Rattle.atspi_types.specs.Data.{Data, text_data, structure_data, items_of}

abbrev pub pair_data : List ℕ × List ℕ → Data
pair_data p = structure_data (items_of (text_data p.0 ∷ text_data p.1 ∷ []))
