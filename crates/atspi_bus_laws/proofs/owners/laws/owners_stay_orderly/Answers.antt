use Rattle.atspi_bus_laws.proofs.OfOwners.Steps.{orderly-nobody, orderly-hello, orderly-request, orderly-release, orderly-gone}
use Rattle.atspi_bus_laws.proofs.owners.laws.owners_stay_orderly.Goals as goal

pub returns-clause-nobody : goal.returns-clause-nobody
returns-clause-nobody c = orderly-nobody

pub returns-clause-hello : goal.returns-clause-hello
returns-clause-hello c = orderly-hello

pub returns-clause-request : goal.returns-clause-request
returns-clause-request c = orderly-request

pub returns-clause-release : goal.returns-clause-release
returns-clause-release c = orderly-release

pub returns-clause-gone : goal.returns-clause-gone
returns-clause-gone c = orderly-gone
