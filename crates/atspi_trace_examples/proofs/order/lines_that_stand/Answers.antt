use Rattle.std.proofs.Common.{◌<◌, arith}
use Rattle.atspi_trace_examples.proofs.order.lines_that_stand.Goals as goal

pub returns-clause-drains : goal.returns-clause-drains
returns-clause-drains c = tt

pub returns-clause-caret : goal.returns-clause-caret
returns-clause-caret c = tt

pub returns-clause-state : goal.returns-clause-state
returns-clause-state c = let less : 12 < 44 = omega arith in less

pub returns-clause-no_state : goal.returns-clause-no_state
returns-clause-no_state c h = let less : 44 < 44 = h in absurd (omega (arith, less))
