use Rattle.std.proofs.Common.{refl}
use Rattle.atspi_protocol.proofs.exporting.examples.hearing.covered.Goals as goal

pub returns-clause-second : goal.returns-clause-second
unfolding lib.Utf8.encode
returns-clause-second c = refl

pub returns-clause-another : goal.returns-clause-another
unfolding lib.Utf8.encode
returns-clause-another c = refl

pub returns-clause-another_word : goal.returns-clause-another_word
unfolding lib.Utf8.encode
returns-clause-another_word c = refl
