use Rattle.atspi_hit.proofs.Dropped.{dropping_starts, dropping_goes_on, dropping_ends}
use Rattle.atspi_hit.proofs.layout.Layout.drop_subtree.Goals as goal

pub loop-seat-init : goal.loop-seat-init
loop-seat-init c =
    dropping_starts c.args.tree.now c.args.node c.args.self.now _ _ c.is_lawful.ensures c.requires c.drop_node.ensures
    c.seats_below-walk.ensures

pub loop-seat-preserved : goal.loop-seat-preserved
loop-seat-preserved c =
    dropping_goes_on c.in-Some.seat _ _ _ _ _ c.in-Some.ensures.steps c.drop_node-in-Some.ensures c.loop-seat.invariant

pub returns : goal.returns
returns c = dropping_ends _ _ _ c.in_default.ensures.steps.0 c.loop-seat.invariant
