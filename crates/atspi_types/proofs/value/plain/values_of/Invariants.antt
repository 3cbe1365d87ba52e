use Rattle.std.proofs.Common.{◌≡◌, map, take}
use Rattle.atspi_types.specs.DataView.{data_of}
use Rattle.atspi_types.proofs.value.plain.values_of.Given as goal

abbrev pub invariant-loop-item : goal.invariant-loop-item
invariant-loop-item g l = map data_of l.values.items ≡ map g.T.Plain.plain_data (take l.item-index l.items)
