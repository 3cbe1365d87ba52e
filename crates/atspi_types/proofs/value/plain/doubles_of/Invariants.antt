use Rattle.std.proofs.Common.{◌≡◌, map, take}
use Rattle.atspi_types.specs.Data.{number_data}
use Rattle.atspi_types.specs.Kinds.{double}
use Rattle.atspi_types.specs.DataView.{data_of}
use Rattle.atspi_types.proofs.value.plain.doubles_of.Given as goal

abbrev pub invariant-loop-bits : goal.invariant-loop-bits
invariant-loop-bits l = map data_of l.values.items ≡ map (number_data double) (take l.bits-index l.items)
