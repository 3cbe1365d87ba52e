use Rattle.atspi_app_signals.proofs.Staying.{staying_is_told_at_once, staying_can_be_told, states_are_told_at_once, texts_are_told_at_once}
use Rattle.atspi_app_signals.proofs.laws.staying_is_told_at_once.Goals as goal

pub returns-clause-same : goal.returns-clause-same
returns-clause-same c = staying_is_told_at_once

pub returns-clause-can : goal.returns-clause-can
returns-clause-can c = staying_can_be_told

pub returns-clause-states : goal.returns-clause-states
returns-clause-states c = states_are_told_at_once

pub returns-clause-texts : goal.returns-clause-texts
returns-clause-texts c = texts_are_told_at_once
