use Rattle.std.proofs.Common.{◌≡◌, map, take}
use Rattle.atspi_types.specs.DataView.{data_of, pair_of}
use Rattle.atspi_types.proofs.value.+copy.Given as goal

abbrev pub invariant-Kept::copy-loop-value : goal.invariant-Kept::copy-loop-value
invariant-Kept::copy-loop-value l = map data_of l.copies.items ≡ map data_of (take l.value-index l.value-items)

abbrev pub invariant-Pairs::copy-loop-pair : goal.invariant-Pairs::copy-loop-pair
invariant-Pairs::copy-loop-pair l = map pair_of l.items.items ≡ map pair_of (take l.pair-index l.pair-items)
