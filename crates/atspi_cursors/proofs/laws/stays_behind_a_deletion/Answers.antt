use Rattle.atspi_cursors.proofs.MoveLemmas.{deletion_before, deletion_behind, deletion_inside}
use Rattle.atspi_cursors.proofs.laws.stays_behind_a_deletion.Goals as goal

pub returns-clause-before : goal.returns-clause-before
returns-clause-before c = deletion_before

pub returns-clause-behind : goal.returns-clause-behind
returns-clause-behind c = deletion_behind

pub returns-clause-around : goal.returns-clause-around
returns-clause-around c = deletion_inside
