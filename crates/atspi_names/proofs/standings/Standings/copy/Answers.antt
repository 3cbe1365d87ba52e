use Rattle.atspi_names.proofs.Copies.{noted_next}
use Rattle.atspi_names.proofs.standings.Standings.copy.Goals as goal

pub loop-conn-preserved : goal.loop-conn-preserved
loop-conn-preserved c =
    noted_next c.iter-rest.result c.loop-conn.rest c.next_back.new.self c.in-Some.conn.now c.in-Some.names.now c.in_ok-copy_set.field-0 c.loop-conn.sets c.put.new.sets c.loop-conn.invariant
    c.in-Some.ensures.steps c.in_ok-copy_set.ensures c.in_ok-put.ensures.ok.0
