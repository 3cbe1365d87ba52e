use Rattle.atspi_live_bus_examples.proofs.rounding.calls_that_close.Goals as goal

pub returns-clause-none : goal.returns-clause-none
returns-clause-none c = tt

pub returns-clause-closes : goal.returns-clause-closes
returns-clause-closes c = (tt, (tt, tt))

pub returns-clause-behind : goal.returns-clause-behind
returns-clause-behind c a = a.1.0

pub returns-clause-listen : goal.returns-clause-listen
returns-clause-listen c a = a

pub returns-clause-accept : goal.returns-clause-accept
returns-clause-accept c a = a

pub returns-clause-connect : goal.returns-clause-connect
returns-clause-connect c a = a

pub returns-clause-read : goal.returns-clause-read
returns-clause-read c a = a

pub returns-clause-write : goal.returns-clause-write
returns-clause-write c a = a
