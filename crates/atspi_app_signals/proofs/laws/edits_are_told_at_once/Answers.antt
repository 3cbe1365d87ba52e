use Rattle.atspi_app_signals.proofs.EditsStay.{edits_are_told_at_once, edits_can_be_told}
use Rattle.atspi_app_signals.proofs.laws.edits_are_told_at_once.Goals as goal

pub returns-clause-same : goal.returns-clause-same
returns-clause-same c = edits_are_told_at_once

pub returns-clause-can : goal.returns-clause-can
returns-clause-can c = edits_can_be_told
