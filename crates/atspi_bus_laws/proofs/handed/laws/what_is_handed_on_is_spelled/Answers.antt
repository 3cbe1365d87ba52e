use Rattle.atspi_bus_laws.proofs.OfHanded.First.{first_hands}
use Rattle.atspi_bus_laws.proofs.OfHanded.Handing.{takes_hands, ends_hands}
use Rattle.atspi_bus_laws.proofs.handed.laws.what_is_handed_on_is_spelled.Goals as goal

pub returns : goal.returns
returns c = record { begins = first_hands; taken = takes_hands; ended = ends_hands }
