use Rattle.atspi_pool.proofs.LinkSpecs as specs
use Rattle.atspi_pool.proofs.links.Links.marks.Goals as goal

pub returns-clause-apart : goal.returns-clause-apart
returns-clause-apart c = specs.apart_is c.self.inside.next.items c.self.inside.first_free c.self.inside.free c.self.inside.runs.items c.self.invariant c.args.self.now c.self.view_is
