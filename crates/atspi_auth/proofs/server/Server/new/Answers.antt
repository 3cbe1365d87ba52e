use Rattle.std.proofs.Common.{◌∙◌}
use Rattle.atspi_auth.proofs.LawLemmas.{server_stands}
use Rattle.atspi_auth.proofs.server.Server.new.Goals as goal

pub returns-clause-whole : goal.returns-clause-whole
returns-clause-whole c = c.new.ensures ∙ server_stands
