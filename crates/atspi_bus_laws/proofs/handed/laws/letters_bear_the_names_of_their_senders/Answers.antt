use Rattle.atspi_bus_laws.proofs.OfHanded.First.{first_named}
use Rattle.atspi_bus_laws.proofs.OfHanded.Joining.{joined_named}
use Rattle.atspi_bus_laws.proofs.OfHanded.Naming.{takes_named, ends_named}
use Rattle.atspi_bus_laws.proofs.handed.laws.letters_bear_the_names_of_their_senders.Goals as goal

pub returns : goal.returns
returns c = record { begins = λ quota. first_named; joined = joined_named; taken = takes_named; ended = ends_named }
