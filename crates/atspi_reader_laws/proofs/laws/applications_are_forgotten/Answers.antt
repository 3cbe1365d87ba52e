use Rattle.atspi_reader_laws.proofs.Forgotten.{forgotten_only, forgotten_each}
use Rattle.atspi_reader_laws.proofs.laws.applications_are_forgotten.Goals as goal

pub returns-clause-only : goal.returns-clause-only
returns-clause-only c = forgotten_only

pub returns-clause-each : goal.returns-clause-each
returns-clause-each c = forgotten_each
