use Rattle.atspi_cursors.proofs.MoveLemmas.{insertion_before, insertion_behind}
use Rattle.atspi_cursors.proofs.laws.stays_behind_an_insertion.Goals as goal

pub returns-clause-before : goal.returns-clause-before
returns-clause-before c = insertion_before

pub returns-clause-behind : goal.returns-clause-behind
returns-clause-behind c = insertion_behind
