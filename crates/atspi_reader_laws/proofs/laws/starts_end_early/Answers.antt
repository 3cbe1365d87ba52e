use Rattle.atspi_reader_laws.proofs.Starting.{ended_only, ended}
use Rattle.atspi_reader_laws.proofs.laws.starts_end_early.Goals as goal

pub returns-clause-only : goal.returns-clause-only
returns-clause-only c = ended_only

pub returns-clause-each : goal.returns-clause-each
returns-clause-each c = ended
