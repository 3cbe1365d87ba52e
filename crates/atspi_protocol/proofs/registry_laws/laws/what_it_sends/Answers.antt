use Rattle.atspi_protocol.proofs.OfRegistryLaws.Sending.{all_meet}
use Rattle.atspi_protocol.proofs.registry_laws.laws.what_it_sends.Goals as goal

pub returns : goal.returns
returns c = all_meet
