use Rattle.std.proofs.Common.{ap, ◌∙◌, arith}
use Rattle.unicode_segmentation.specs.Iter.{word_bounds_left}
use Rattle.atspi_units.proofs.WordLemmas.{among-start, among-fits, word_is, among-more, among-all}
use Rattle.atspi_units.proofs.unit.word_at.Goals as goal

pub loop-piece-init : goal.loop-piece-init
loop-piece-init c =
    (among-start _ _ (ap word_bounds_left c.into_iter-piece-iterator.ensures.into_iter_gives ∙ c.split_word_bounds-piece-items.ensures.left), omega arith)

pub overflow_cast-end : goal.overflow_cast-end
overflow_cast-end c =
    let fits = among-fits _ c.utf8.text _ _ c.loop-piece.invariant.0 _ _ c.in-Some.ensures.steps in
    omega (arith, fits, c.count.ensures, c.requires)

pub overflow_add-end : goal.overflow_add-end
overflow_add-end c =
    let fits = among-fits _ c.utf8.text _ _ c.loop-piece.invariant.0 _ _ c.in-Some.ensures.steps in
    omega (arith, fits, c.count.ensures, c.requires)

pub returns-then-at-end : goal.returns-then-at-end
returns-then-at-end c =
    rw c.count.ensures
    (word_is _ c.utf8.text _ _ c.loop-piece.invariant.0 _ _ c.in-Some.ensures.steps c.args.at c.loop-piece.invariant.1 (rw c.count.ensures at c.if-at-end.true))

pub loop-piece-preserved : goal.loop-piece-preserved
loop-piece-preserved c =
    rw c.count.ensures
    (among-more _ c.utf8.text _ _ c.loop-piece.invariant.0 _ _ c.in-Some.ensures.steps, rw c.count.ensures at c.if-at-end.false)

pub returns : goal.returns
returns c =
    omega (arith, among-all _ _ _ c.loop-piece.invariant.0 c.in-None.ensures.steps.0, c.loop-piece.invariant.1)
