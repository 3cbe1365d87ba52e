use Rattle.atspi_live_bus_examples.proofs.rounding.answers_to_go_on.Goals as goal

pub returns-clause-done : goal.returns-clause-done
returns-clause-done c = tt

pub returns-clause-not_yet : goal.returns-clause-not_yet
returns-clause-not_yet c = tt

pub returns-clause-ended : goal.returns-clause-ended
returns-clause-ended c g = g

pub returns-clause-failed : goal.returns-clause-failed
returns-clause-failed c g = g
