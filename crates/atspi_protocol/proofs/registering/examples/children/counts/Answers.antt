use Rattle.std.proofs.Common.{refl}
use Rattle.atspi_protocol.proofs.registering.examples.children.counts.Goals as goal

pub returns-clause-added : goal.returns-clause-added
unfolding lib.Utf8.encode
returns-clause-added c = refl

pub returns-clause-not_removed : goal.returns-clause-not_removed
unfolding lib.Utf8.encode
returns-clause-not_removed c = refl
