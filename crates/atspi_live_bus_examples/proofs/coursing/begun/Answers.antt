use Rattle.std.proofs.Common.{refl}
use Rattle.atspi_live_bus_examples.proofs.Facts.{served_nothing}
use Rattle.atspi_live_bus_examples.proofs.coursing.begun.Goals as goal

pub returns-clause-nothing : goal.returns-clause-nothing
returns-clause-nothing c = refl

pub returns-clause-quota : goal.returns-clause-quota
returns-clause-quota c = refl

pub returns-clause-no_link : goal.returns-clause-no_link
returns-clause-no_link c k = refl

pub returns-clause-served : goal.returns-clause-served
returns-clause-served c cs s is = served_nothing cs s is
