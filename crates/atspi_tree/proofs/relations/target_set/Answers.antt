use Rattle.atspi_tree.proofs.Notes.{listed_more}
use Rattle.atspi_tree.proofs.relations.target_set.Goals as goal

pub loop-relation-preserved : goal.loop-relation-preserved
loop-relation-preserved c =
    listed_more c.loop-relation.named c.insert.new.self c.args.relations.now c.loop-relation.relation-index c.loop-relation-test.true c.in_ok-insert.ensures.updates.0 c.loop-relation.invariant
