-- Words that only the private contracts and proofs beside `Lent` use.
use Rattle.std.specs.Prelude.{ℕ, List, Option, None, Some, if◌then◌else◌}
use Rattle.atspi_base.specs.valid_names.Names.{is_bus_name}
use Rattle.atspi_app_known.specs.declared.hearing.pair_ref.PairRef.{PairRef}
use Rattle.atspi_app_known.specs.hearing.Lent.{lent_pair}

abbrev pub lent_or_none : Option PairRef → Option (List ℕ × List ℕ)
lent_or_none None = None
lent_or_none (Some r) = Some (lent_pair r)

-- two texts are a pair, if the first is a bus name
abbrev pub pair_by : List ℕ → List ℕ → Option (List ℕ × List ℕ)
pair_by name pattern = if is_bus_name name then Some (name, pattern) else None
