use Rattle.atspi_auth.proofs.LawLemmas.{client_pieces, server_pieces}
use Rattle.atspi_auth.proofs.WholeLemmas.{after-append, behind-append}
use Rattle.atspi_auth.proofs.laws.any_cut.Goals as goal

pub returns-clause-after : goal.returns-clause-after
returns-clause-after c = after-append

pub returns-clause-behind : goal.returns-clause-behind
returns-clause-behind c = behind-append

pub returns-clause-server : goal.returns-clause-server
returns-clause-server c = server_pieces

pub returns-clause-client : goal.returns-clause-client
returns-clause-client c = client_pieces
