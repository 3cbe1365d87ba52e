use Rattle.std.proofs.Common.{sym, ◌∙◌, arith}
use Rattle.atspi_hit.specs.inner.Covering.{covers_node}
use Rattle.atspi_hit.specs.Places.{rect_at}
use Rattle.atspi_hit.proofs.Reaching.{last_at}
use Rattle.atspi_hit.proofs.pointing.last_covering.Goals as goal

pub returns-then-covers : goal.returns-then-covers
returns-then-covers c =
    sym (last_at (covers_node c.args.tree.now (rect_at c.args.layout.now) c.args.point.now.x c.args.point.now.y) c.args.nodes.now
    c.loop-left.left (omega arith) c.loop-left.invariant.within c.loop-left.invariant.none
    (sym c.covers.ensures ∙ c.if-covers.true))
