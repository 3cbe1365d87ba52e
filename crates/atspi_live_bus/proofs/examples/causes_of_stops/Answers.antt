use Rattle.std.proofs.Common.{refl}
use Rattle.atspi_live_bus.proofs.examples.causes_of_stops.Goals as goal

pub returns-clause-host : goal.returns-clause-host
returns-clause-host c f = f

pub returns-clause-last_number : goal.returns-clause-last_number
returns-clause-last_number c = tt

pub returns-clause-memory : goal.returns-clause-memory
returns-clause-memory c = tt

pub returns-clause-host_no_want : goal.returns-clause-host_no_want
returns-clause-host_no_want c f = f

pub returns-clause-number_no_want : goal.returns-clause-number_no_want
returns-clause-number_no_want c f = f

pub returns-clause-want : goal.returns-clause-want
returns-clause-want c = tt

pub returns-clause-host_status : goal.returns-clause-host_status
returns-clause-host_status c = refl

pub returns-clause-number_status : goal.returns-clause-number_status
returns-clause-number_status c = refl

pub returns-clause-memory_status : goal.returns-clause-memory_status
returns-clause-memory_status c = refl
