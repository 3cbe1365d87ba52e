use Rattle.std.proofs.Common.{refl}
use Rattle.unicode_segmentation.proofs.Computing.{unicode_segmentation}
use Rattle.atspi_units.proofs.examples.unit_ends.Goals as goal

pub returns-clause-in_a_word : goal.returns-clause-in_a_word
unfolding unicode_segmentation
returns-clause-in_a_word c = refl

pub returns-clause-before_a_blank : goal.returns-clause-before_a_blank
unfolding unicode_segmentation
returns-clause-before_a_blank c = refl

pub returns-clause-before_a_mark : goal.returns-clause-before_a_mark
unfolding unicode_segmentation
returns-clause-before_a_mark c = refl
