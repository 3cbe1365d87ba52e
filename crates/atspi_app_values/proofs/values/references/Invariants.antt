use Rattle.std.proofs.Common.{◌≡◌, map, take}
use Rattle.atspi_types.specs.DataView.{data_of}
use Rattle.atspi_app_values.specs.Numbers.{numbered_reference}
use Rattle.atspi_app_values.proofs.values.references.Given as goal

abbrev pub invariant-loop-node : goal.invariant-loop-node
invariant-loop-node l = map data_of l.elements.items ≡ map (numbered_reference l.bus) (take l.node-index l.nodes)
