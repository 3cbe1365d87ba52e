use Rattle.std.proofs.Common.{arith}
use Rattle.atspi_pool.proofs.LinkSpecs as specs
use Rattle.atspi_pool.proofs.links.Links.give_front.Goals as goal

pub returns-else-count-gt0-clause-links : goal.returns-else-count-gt0-clause-links
returns-else-count-gt0-clause-links c = specs.none_given c.args.self.now c.args.chain c.args.count (omega arith)

pub returns-else-count-gt0-clause-apart : goal.returns-else-count-gt0-clause-apart
returns-else-count-gt0-clause-apart c = specs.apart_is c.self.inside.next.items c.self.inside.first_free c.self.inside.free c.self.inside.runs.items c.self.invariant c.args.self.now c.self.view_is
