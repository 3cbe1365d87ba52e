use Rattle.std.proofs.Common.{refl}
use Rattle.unicode_segmentation.proofs.Computing.{unicode_segmentation}
use Rattle.atspi_units.proofs.examples.words.Goals as goal

pub returns-clause-none : goal.returns-clause-none
unfolding unicode_segmentation
returns-clause-none c = refl

pub returns-clause-two : goal.returns-clause-two
unfolding unicode_segmentation
returns-clause-two c = refl

pub returns-clause-apostrophe : goal.returns-clause-apostrophe
unfolding unicode_segmentation
returns-clause-apostrophe c = refl

pub returns-clause-point : goal.returns-clause-point
unfolding unicode_segmentation
returns-clause-point c = refl

pub returns-clause-blanks : goal.returns-clause-blanks
unfolding unicode_segmentation
returns-clause-blanks c = refl

pub returns-clause-mark : goal.returns-clause-mark
unfolding unicode_segmentation
returns-clause-mark c = refl

pub returns-clause-return_and_feed : goal.returns-clause-return_and_feed
unfolding unicode_segmentation
returns-clause-return_and_feed c = refl

pub returns-clause-ideographs : goal.returns-clause-ideographs
unfolding unicode_segmentation
returns-clause-ideographs c = refl

pub returns-clause-flags : goal.returns-clause-flags
unfolding unicode_segmentation
returns-clause-flags c = refl

pub returns-clause-not_at_the_apostrophe : goal.returns-clause-not_at_the_apostrophe
unfolding unicode_segmentation
returns-clause-not_at_the_apostrophe c = λ e. cc
