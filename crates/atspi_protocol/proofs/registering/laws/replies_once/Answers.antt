use Rattle.atspi_protocol.proofs.OfRegistering.Replies.{once}
use Rattle.atspi_protocol.proofs.registering.laws.replies_once.Goals as goal

pub returns : goal.returns
returns c = once
