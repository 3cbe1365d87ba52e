use Rattle.atspi_bus_laws.proofs.handed.examples.standings.Goals as goal

pub returns-clause-away : goal.returns-clause-away
returns-clause-away c = tt

pub returns-clause-here : goal.returns-clause-here
returns-clause-here c = λ h. h

pub returns-clause-stopped : goal.returns-clause-stopped
returns-clause-stopped c = λ h. h
