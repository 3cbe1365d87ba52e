use Rattle.std.proofs.Common.{refl}
use Rattle.unicode_segmentation.specs.Segments.{cut}
use Rattle.atspi_units.proofs.examples.characters.Goals as goal

pub returns-clause-none : goal.returns-clause-none
unfolding cut
returns-clause-none c = refl

pub returns-clause-each : goal.returns-clause-each
unfolding cut
returns-clause-each c = refl

pub returns-clause-feed : goal.returns-clause-feed
unfolding cut
returns-clause-feed c = refl

pub returns-clause-mark : goal.returns-clause-mark
unfolding cut
returns-clause-mark c = refl

pub returns-clause-not_joined : goal.returns-clause-not_joined
unfolding cut
returns-clause-not_joined c = λ e. cc
