use Rattle.atspi_app_contents.specs.changes.inner.Steps.{choosing}
use Rattle.atspi_app_contents.proofs.OfChanges.Changed.{chosen_more}
use Rattle.atspi_app_contents.proofs.changes.children.choosing.Goals as goal

pub loop-node-preserved : goal.loop-node-preserved
loop-node-preserved c =
    chosen_more c.args.tree.now.rows c.args.on c.args.nodes.now c.loop-node.node-index c.loop-node.steps c.push_chosen.new.steps (choosing c.args.tree.now.rows c.args.on c.args.nodes.now)
    c.loop-node-test.true c.loop-node.invariant c.in_ok-push_chosen.ensures
