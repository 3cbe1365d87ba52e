use Rattle.std.proofs.Common.{◌≡◌, take, map}
use Rattle.atspi_types.specs.DataView.{all_data}
use Rattle.atspi_registry.specs.told.inner.Values.{pair_data}
use Rattle.atspi_registry.proofs.told.answers.pair_values.Given as goal

abbrev pub invariant-loop-pair : goal.invariant-loop-pair
invariant-loop-pair l = all_data l.values ≡ map pair_data (take l.pair-index l.pairs)
