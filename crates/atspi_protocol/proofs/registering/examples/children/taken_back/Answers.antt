use Rattle.std.proofs.Common.{refl}
use Rattle.atspi_protocol.proofs.registering.examples.children.taken_back.Goals as goal

pub returns-clause-told : goal.returns-clause-told
unfolding lib.Utf8.encode
returns-clause-told c = refl
