use Rattle.std.proofs.Common.{refl}
use Rattle.std.specs.Fmt.{digits}
use Rattle.atspi_protocol.proofs.objects.examples.properties.values.Goals as goal

pub returns-clause-accessible_id : goal.returns-clause-accessible_id
unfolding digits
returns-clause-accessible_id c = refl
