use Rattle.std.proofs.Common.{◌≡◌, take, map}
use Rattle.atspi_types.specs.Data.{text_data}
use Rattle.atspi_types.specs.DataView.{all_data}
use Rattle.atspi_bus_answers.proofs.listing.texts.Given as goal

abbrev pub invariant-loop-name : goal.invariant-loop-name
invariant-loop-name l = all_data l.values ≡ map text_data (take l.name-index l.names)
