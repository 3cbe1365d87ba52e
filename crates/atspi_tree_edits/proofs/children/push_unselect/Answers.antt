use Rattle.std.proofs.Common.{◌++◌}
use Rattle.atspi_tree_edits.specs.inner.Switches.{unselecting}
use Rattle.atspi_tree_edits.proofs.Switched.{unselect_more}
use Rattle.atspi_tree_edits.proofs.children.push_unselect.Goals as goal

pub loop-node-preserved : goal.loop-node-preserved
loop-node-preserved c =
    unselect_more c.args.tree.now.rows c.args.nodes.now c.loop-node.node-index c.loop-node.steps c.push_switch.new.steps (c.args.steps.now ++ unselecting c.args.tree.now.rows c.args.nodes.now)
    c.loop-node-test.true c.loop-node.invariant c.in_ok-push_switch.ensures.ok
