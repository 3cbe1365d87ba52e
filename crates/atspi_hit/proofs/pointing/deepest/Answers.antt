use Rattle.std.proofs.Common.{sym, ap, ◌∙◌, rules}
use Rattle.atspi_hit.specs.inner.Covering.{covers_node, last_of}
use Rattle.atspi_hit.specs.Places.{rect_at}
use Rattle.atspi_hit.proofs.Reaching.{nothing_there, goes_down, ends_here}
use Rattle.atspi_hit.proofs.pointing.deepest.Goals as goal

pub returns-then-not-covers : goal.returns-then-not-covers
returns-then-not-covers c =
    sym (nothing_there c.args.tree.now c.is_lawful.ensures (rect_at c.args.layout.now) c.args.point.now.x c.args.point.now.y
    c.args.from c.requires _ c.covers.ensures (search rules))

pub loop-child-smaller : goal.loop-child-smaller
loop-child-smaller c =
    (goes_down c.args.tree.now c.is_lawful.ensures (rect_at c.args.layout.now) c.args.point.now.x c.args.point.now.y
    c.loop-child.at c.in-Some.child c.loop-child.invariant.there c.loop-child.invariant.covers
    (sym (ap (last_of (covers_node c.args.tree.now (rect_at c.args.layout.now) c.args.point.now.x c.args.point.now.y)) c.children.ensures)
    ∙ sym c.last_covering.ensures ∙ c.in-Some.is)).smaller

pub loop-child-preserved : goal.loop-child-preserved
loop-child-preserved c =
    let d =
    goes_down c.args.tree.now c.is_lawful.ensures (rect_at c.args.layout.now) c.args.point.now.x c.args.point.now.y
    c.loop-child.at c.in-Some.child c.loop-child.invariant.there c.loop-child.invariant.covers
    (sym (ap (last_of (covers_node c.args.tree.now (rect_at c.args.layout.now) c.args.point.now.x c.args.point.now.y)) c.children.ensures)
    ∙ sym c.last_covering.ensures ∙ c.in-Some.is) in
    record { there = d.there; covers = d.covers; same = c.loop-child.invariant.same ∙ d.same }

pub returns : goal.returns
returns c =
    sym (c.loop-child.invariant.same
    ∙ ends_here c.args.tree.now c.is_lawful.ensures (rect_at c.args.layout.now) c.args.point.now.x c.args.point.now.y
    c.loop-child.at c.loop-child.invariant.there c.loop-child.invariant.covers
    (sym (ap (last_of (covers_node c.args.tree.now (rect_at c.args.layout.now) c.args.point.now.x c.args.point.now.y)) c.children.ensures)
    ∙ sym c.last_covering.ensures ∙ c.in_default.is))
