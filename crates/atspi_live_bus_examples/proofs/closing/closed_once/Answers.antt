use Rattle.atspi_live_bus_examples.proofs.Facts.{three_not_open, second_twice, two_messages, own_left}
use Rattle.atspi_live_bus_examples.proofs.closing.closed_once.Goals as goal

pub returns-clause-twice : goal.returns-clause-twice
returns-clause-twice c x y e f = second_twice x y e f

pub returns-clause-by_messages : goal.returns-clause-by_messages
returns-clause-by_messages c x m y e f d g connected again first second step next = two_messages x m y e f d g connected again first second step next

pub returns-clause-its_own : goal.returns-clause-its_own
returns-clause-its_own c x y d connected first step = own_left x y d connected first step

pub returns-clause-of_one_closed : goal.returns-clause-of_one_closed
returns-clause-of_one_closed c x y e calls t = three_not_open t.0
