use Rattle.std.proofs.Common.{[], refl}
use Rattle.atspi_live_bus_examples.proofs.closing.writes.Goals as goal

pub returns-clause-given : goal.returns-clause-given
returns-clause-given c x = (refl, refl)

pub returns-clause-given_no_close : goal.returns-clause-given_no_close
returns-clause-given_no_close c x y calls w = w.0

pub returns-clause-given_same : goal.returns-clause-given_same
returns-clause-given_same c x y calls w = w.1

pub returns-clause-waits : goal.returns-clause-waits
returns-clause-waits c x = (refl, refl)

pub returns-clause-waits_no_close : goal.returns-clause-waits_no_close
returns-clause-waits_no_close c x y calls w = w.0

pub returns-clause-waits_same : goal.returns-clause-waits_same
returns-clause-waits_same c x y calls w = w.1

pub returns-clause-no_end : goal.returns-clause-no_end
returns-clause-no_end c x y calls w = w

pub returns-clause-failed : goal.returns-clause-failed
returns-clause-failed c x y step = ([], [], step, refl, refl)

pub returns-clause-failed_and_stopped : goal.returns-clause-failed_and_stopped
returns-clause-failed_and_stopped c x = (refl, refl)
