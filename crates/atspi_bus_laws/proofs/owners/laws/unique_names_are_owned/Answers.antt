use Rattle.atspi_bus_laws.proofs.OfOwners.Steps.{owner_is}
use Rattle.atspi_bus_laws.proofs.owners.laws.unique_names_are_owned.Goals as goal

pub returns : goal.returns
returns c = λ owners conn n orderly below. (orderly.has_it conn n below, owner_is owners conn n orderly)
