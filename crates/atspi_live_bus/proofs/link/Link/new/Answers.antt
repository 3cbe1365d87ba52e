use Rattle.std.proofs.Common.{rules}
use Rattle.atspi_live_bus.proofs.Conversing.{begins}
use Rattle.atspi_live_bus.proofs.link.Link.new.Goals as goal

pub returns-clause-begins : goal.returns-clause-begins
returns-clause-begins c = begins _ (search rules) (search rules) (search rules)
