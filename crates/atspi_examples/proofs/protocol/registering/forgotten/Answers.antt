use Rattle.std.proofs.Common.{refl}
use Rattle.atspi_examples.proofs.protocol.registering.forgotten.Goals as goal

pub returns : goal.returns
unfolding lib.Utf8.encode
returns c = refl
