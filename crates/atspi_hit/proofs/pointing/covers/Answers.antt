use Rattle.std.proofs.Common.{sym, rules}
use Rattle.atspi_hit.specs.Places.{rect_at}
use Rattle.atspi_hit.proofs.Reaching.{not_in, not_here, shows}
use Rattle.atspi_hit.proofs.pointing.covers.Goals as goal

pub returns-then-not-is_in : goal.returns-then-not-is_in
returns-then-not-is_in c =
    sym (not_in c.args.tree.now (rect_at c.args.layout.now) c.args.point.now.x c.args.point.now.y c.args.node _ _ c.rect.ensures
    c.is_in.ensures (search rules))

pub returns-then-not-has : goal.returns-then-not-has
returns-then-not-has c =
    sym (not_here c.args.tree.now (rect_at c.args.layout.now) c.args.point.now.x c.args.point.now.y c.args.node _
    c.has.ensures.answer (search rules))

pub returns : goal.returns
returns c =
    sym (shows c.args.tree.now (rect_at c.args.layout.now) c.args.point.now.x c.args.point.now.y c.args.node _ _ _ _
    c.rect.ensures c.is_in.ensures (search rules) c.states.ensures c.is_showing.ensures)
