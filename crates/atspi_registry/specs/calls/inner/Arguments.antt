-- The arguments of calls as parts of bytes.
use Rattle.std.specs.Prelude.{ℕ, List, ◌∷◌, Option, None, Some, chars}
use Rattle.std.specs.Borrow.{Bor}
use Rattle.atspi_types.specs.Data.{Data, text_data, path_data, structure_data, item, no_items}

-- the first argument, where it is a reference
abbrev pub reference_of : List Data → Option (List ℕ × List ℕ)
reference_of (structure_data (item (text_data name) (item (path_data place) no_items)) ∷ ds) = Some (name, place)
reference_of ds = None

-- a bus name and a path that lie in bytes
abbrev pub lent_reference : Bor (List ℕ) × Bor (List ℕ) → List ℕ × List ℕ
lent_reference r = (chars r.0.now, r.1.now)

abbrev pub lent_references : Option (Bor (List ℕ) × Bor (List ℕ)) → Option (List ℕ × List ℕ)
lent_references None = None
lent_references (Some r) = Some (lent_reference r)
