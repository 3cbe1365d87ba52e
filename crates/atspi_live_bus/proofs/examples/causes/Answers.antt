use Rattle.atspi_live_bus.proofs.Worked.{by_message, not_first, second_left}
use Rattle.atspi_live_bus.proofs.examples.causes.Goals as goal

pub returns-clause-by_message : goal.returns-clause-by_message
returns-clause-by_message c x y e d t rest n conns steps is on left waits = by_message x y e d t rest n conns steps is on left waits

pub returns-clause-by_end : goal.returns-clause-by_end
returns-clause-by_end c y d t steps is = second_left y d t steps is

pub returns-clause-own_first : goal.returns-clause-own_first
returns-clause-own_first c y t f = not_first y t f
