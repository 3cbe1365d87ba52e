use Rattle.atspi_trace_examples.proofs.trace.settling.by_standing.Goals as goal

pub returns-clause-unheld : goal.returns-clause-unheld
returns-clause-unheld c = λ h. h

pub returns-clause-stopped : goal.returns-clause-stopped
returns-clause-stopped c = tt

pub returns-clause-no_application : goal.returns-clause-no_application
returns-clause-no_application c = tt

pub returns-clause-reader : goal.returns-clause-reader
returns-clause-reader c = λ h. h.0

pub returns-clause-left : goal.returns-clause-left
returns-clause-left c = tt

pub returns-clause-no_reader : goal.returns-clause-no_reader
returns-clause-no_reader c = tt

pub returns-clause-waits : goal.returns-clause-waits
returns-clause-waits c = λ w. tt
