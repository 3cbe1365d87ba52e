use Rattle.std.proofs.Common.{[], sym}
use Rattle.atspi_live_bus_examples.proofs.Linked.{no_seat}
use Rattle.atspi_live_bus_examples.proofs.seating.links_that_stay.Goals as goal

pub returns-clause-dismissed : goal.returns-clause-dismissed
returns-clause-dismissed c l x y past d = no_seat (l.number, l.conn) [] (sym d.2)

pub returns-clause-settling : goal.returns-clause-settling
returns-clause-settling c l x y past s = no_seat (l.number, l.conn) [] (sym s.8)

pub returns-clause-settled : goal.returns-clause-settled
returns-clause-settled c l x y past s = no_seat (l.number, l.conn) [] (sym s.6)

pub returns-clause-one_taken : goal.returns-clause-one_taken
returns-clause-one_taken c l x y past t = no_seat (l.number, l.conn) [] (sym t.0)

pub returns-clause-some_taken : goal.returns-clause-some_taken
returns-clause-some_taken c l x y past t = no_seat (l.number, l.conn) [] (sym t.0)

pub returns-clause-all_taken : goal.returns-clause-all_taken
returns-clause-all_taken c l x y past t = no_seat (l.number, l.conn) [] (sym t.0)

pub returns-clause-written : goal.returns-clause-written
returns-clause-written c l x y past w = no_seat (l.number, l.conn) [] (sym w.0)

pub returns-clause-turn : goal.returns-clause-turn
returns-clause-turn c l x y past t = no_seat (l.number, l.conn) [] (sym t.0)

pub returns-clause-not_open : goal.returns-clause-not_open
returns-clause-not_open c x y past seated t = (t.2 0 seated).2
