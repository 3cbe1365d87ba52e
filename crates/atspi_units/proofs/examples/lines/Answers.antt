use Rattle.std.proofs.Common.{refl}
use Rattle.unicode_segmentation.specs.Segments.{cut}
use Rattle.atspi_units.proofs.examples.lines.Goals as goal

pub returns-clause-none : goal.returns-clause-none
unfolding cut
returns-clause-none c = refl

pub returns-clause-open : goal.returns-clause-open
unfolding cut
returns-clause-open c = refl

pub returns-clause-closed : goal.returns-clause-closed
unfolding cut
returns-clause-closed c = refl

pub returns-clause-two : goal.returns-clause-two
unfolding cut
returns-clause-two c = refl

pub returns-clause-empty : goal.returns-clause-empty
unfolding cut
returns-clause-empty c = refl

pub returns-clause-empty_first : goal.returns-clause-empty_first
unfolding cut
returns-clause-empty_first c = refl

pub returns-clause-with_return : goal.returns-clause-with_return
unfolding cut
returns-clause-with_return c = refl

pub returns-clause-feed_not_first : goal.returns-clause-feed_not_first
unfolding cut
returns-clause-feed_not_first c = λ e. cc
