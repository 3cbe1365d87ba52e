use Rattle.std.proofs.Common.{sym, ap, ◌∙◌, arith}
use Rattle.std.proofs.lemmas.Str.{encodes-chars}
use Rattle.std.specs.Str.Iter.{chars_rest}
use Rattle.atspi_units.proofs.LineLemmas.{in_line-start, in_line-more, in_line-feed, line_is, last_line_is, counted_all}
use Rattle.atspi_units.proofs.unit.line_at.Goals as goal

pub loop-c-init : goal.loop-c-init
loop-c-init c =
    let begun = ap chars_rest c.into_iter-c-iterator.ensures.into_iter_gives ∙ c.chars-c-items.ensures.rest in
    (in_line-start _ _ (encodes-chars _ c.utf8.text ∙ sym begun), omega arith)

pub returns-then-at-end : goal.returns-then-at-end
returns-then-at-end c =
    line_is _ _ _ _ _ _ _ c.loop-c.invariant.0 c.in-Some.ensures.steps.0 c.if-c-eq10.true c.loop-c.invariant.1 c.if-at-end.true

pub loop-c-preserved-then-c-eq10 : goal.loop-c-preserved-then-c-eq10
loop-c-preserved-then-c-eq10 c =
    (in_line-feed _ _ _ _ _ _ c.loop-c.invariant.0 c.in-Some.ensures.steps.0 c.if-c-eq10.true, c.if-at-end.false)

pub loop-c-preserved : goal.loop-c-preserved
loop-c-preserved c =
    (in_line-more _ _ _ _ _ _ c.loop-c.invariant.0 c.in-Some.ensures.steps.0 c.if-c-eq10.false, c.loop-c.invariant.1)

pub returns-then-at-end-2 : goal.returns-then-at-end-2
returns-then-at-end-2 c =
    last_line_is _ _ _ _ _ c.loop-c.invariant.0 c.in-None.ensures.steps.0.0 c.loop-c.invariant.1 c.if-at-end-2.true

pub returns-else-at-end-2 : goal.returns-else-at-end-2
returns-else-at-end-2 c =
    omega (arith, counted_all _ _ _ _ c.loop-c.invariant.0 c.in-None.ensures.steps.0.0, c.if-at-end-2.false)
