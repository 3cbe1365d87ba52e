use Rattle.atspi_units.proofs.PieceLemmas.{piece_none, piece_held}
use Rattle.atspi_units.proofs.laws.piece_is_told.Goals as goal

pub returns-clause-held : goal.returns-clause-held
returns-clause-held c = piece_held

pub returns-clause-none : goal.returns-clause-none
returns-clause-none c = piece_none
