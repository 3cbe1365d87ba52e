use Rattle.std.proofs.Common.{refl}
use Rattle.atspi_protocol.proofs.registering.examples.leaving.of_an_application.Goals as goal

pub returns-clause-sent : goal.returns-clause-sent
unfolding lib.Utf8.encode
returns-clause-sent c = refl

pub returns-clause-both : goal.returns-clause-both
unfolding lib.Utf8.encode
returns-clause-both c = refl
