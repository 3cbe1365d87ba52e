use Rattle.std.specs.Ordering.{nat_cmp}
use Rattle.std.specs.BTreeSet.{contains}
use Rattle.atspi_audit_held.proofs.Collecting.{forgetting_starts, forgetting_more, forgetting_ends}
use Rattle.atspi_audit_held.proofs.lacking.forget.Goals as goal

pub loop-seat-init : goal.loop-seat-init
loop-seat-init c =
    forgetting_starts c.args.tree.now c.args.node (contains nat_cmp c.args.lacking.now) (contains nat_cmp c.remove.new.self) c.seats_below-walk.result
    c.is_lawful.ensures c.requires.there c.remove.ensures.updates.0 c.seats_below-walk.ensures

pub loop-seat-preserved : goal.loop-seat-preserved
loop-seat-preserved c =
    forgetting_more (contains nat_cmp c.loop-seat.lacking) (contains nat_cmp c.remove-in-Some.new.self) _ c.loop-seat.walk c.next.new.self c.in-Some.seat
    c.in-Some.ensures.steps c.remove-in-Some.ensures.updates.0 c.loop-seat.invariant

pub returns : goal.returns
returns c = forgetting_ends (contains nat_cmp c.loop-seat.lacking) _ c.loop-seat.walk c.in_default.ensures.steps.0 c.loop-seat.invariant
