use Rattle.atspi_names.proofs.Copies.{set_next}
use Rattle.atspi_names.proofs.standings.copy_set.Goals as goal

pub loop-name-preserved : goal.loop-name-preserved
loop-name-preserved c q =
    set_next c.into_iter-name-iterator.result c.loop-name.name-iterator c.next.new.self c.in-Some.name.now c.in_ok-copy.field-0 c.loop-name.copy c.insert.new.self q
    (c.loop-name.invariant q) c.in-Some.ensures.steps c.in_ok-copy.ensures (c.in_ok-insert.ensures.updates.0 q)
