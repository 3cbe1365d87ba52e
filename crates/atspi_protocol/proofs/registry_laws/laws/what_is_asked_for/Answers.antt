use Rattle.atspi_protocol.proofs.OfRegistryLaws.Asking.{all_asked}
use Rattle.atspi_protocol.proofs.registry_laws.laws.what_is_asked_for.Goals as goal

pub returns : goal.returns
returns c = all_asked
