use Rattle.std.proofs.Common.{[], append-nil}
use Rattle.atspi_live_examples.specs.registry.Registries.{hail}
use Rattle.atspi_live_examples.proofs.OfRegistry.Running.{says, says_no_other}
use Rattle.atspi_live_examples.proofs.registry.runs.all_speak.Goals as goal

pub returns-clause-no_link : goal.returns-clause-no_link
returns-clause-no_link c = tt

pub returns-clause-line : goal.returns-clause-line
returns-clause-line c = (says hail [] (append-nil hail), tt)

pub returns-clause-other : goal.returns-clause-other
returns-clause-other c s = says_no_other s.0

pub returns-clause-other_on_second : goal.returns-clause-other_on_second
returns-clause-other_on_second c s = says_no_other s.1.0

pub returns-clause-closed_link : goal.returns-clause-closed_link
returns-clause-closed_link c = (says hail [] (append-nil hail), tt)
