use Rattle.atspi_cursors.proofs.MoveLemmas.{insertion_within, deletion_within}
use Rattle.atspi_cursors.proofs.laws.stays_within.Goals as goal

pub returns-clause-insertion : goal.returns-clause-insertion
returns-clause-insertion c = insertion_within

pub returns-clause-deletion : goal.returns-clause-deletion
returns-clause-deletion c = deletion_within
