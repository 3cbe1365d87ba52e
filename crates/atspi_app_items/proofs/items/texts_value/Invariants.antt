use Rattle.std.proofs.Common.{◌≡◌, map, take}
use Rattle.atspi_types.specs.Data.{text_data}
use Rattle.atspi_types.specs.DataView.{data_of}
use Rattle.atspi_app_items.proofs.items.texts_value.Given as goal

abbrev pub invariant-loop-name : goal.invariant-loop-name
invariant-loop-name l = map data_of l.elements.items ≡ map text_data (take l.name-index l.names)
