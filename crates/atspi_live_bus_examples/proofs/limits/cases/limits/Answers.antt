use Rattle.atspi_live_bus_examples.specs.limits.Sized.{bare}
use Rattle.atspi_live_bus_examples.proofs.OfLimits.Fitting.{bare-fits, signed-fits, long-path}
use Rattle.atspi_live_bus_examples.proofs.limits.cases.limits.Goals as goal

pub returns-clause-no_field : goal.returns-clause-no_field
returns-clause-no_field c = bare-fits

pub returns-clause-one_field : goal.returns-clause-one_field
returns-clause-one_field c = signed-fits

pub returns-clause-path : goal.returns-clause-path
returns-clause-path c = long-path bare
