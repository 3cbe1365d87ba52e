use Rattle.std.proofs.Common.{length}
use Rattle.atspi_live_host.proofs.peer.Peer.send.Goals as goal

pub returns-in_default-clause-moves : goal.returns-in_default-clause-moves
returns-in_default-clause-moves c = c.rest.ensures.moves (length c.args.into.now)
