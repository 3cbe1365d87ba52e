use Rattle.std.proofs.Common.{refl}
use Rattle.unicode_segmentation.proofs.Computing.{unicode_segmentation}
use Rattle.unicode_segmentation.specs.Segments.{cut}
use Rattle.atspi_protocol.proofs.objects.examples.texts.pieces.Goals as goal

pub returns-clause-character : goal.returns-clause-character
unfolding cut
returns-clause-character c = refl

pub returns-clause-line : goal.returns-clause-line
unfolding cut
returns-clause-line c = refl

pub returns-clause-paragraph : goal.returns-clause-paragraph
unfolding cut
returns-clause-paragraph c = refl

pub returns-clause-behind : goal.returns-clause-behind
unfolding cut
returns-clause-behind c = refl

pub returns-clause-word : goal.returns-clause-word
unfolding unicode_segmentation
returns-clause-word c = refl

pub returns-clause-long_word : goal.returns-clause-long_word
unfolding unicode_segmentation
returns-clause-long_word c = refl
