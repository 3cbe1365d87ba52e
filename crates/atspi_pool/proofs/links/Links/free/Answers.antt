use Rattle.std.proofs.Common.{sym}
use Rattle.atspi_pool.proofs.LinkSpecs as specs
use Rattle.atspi_pool.proofs.links.Links.free.Goals as goal

pub returns-clause-free : goal.returns-clause-free
returns-clause-free c = sym (specs.free_is c.self.inside.next.items c.self.inside.first_free c.self.inside.free c.self.inside.runs.items c.self.invariant c.args.self.now c.self.view_is)

pub returns-clause-apart : goal.returns-clause-apart
returns-clause-apart c = specs.apart_is c.self.inside.next.items c.self.inside.first_free c.self.inside.free c.self.inside.runs.items c.self.invariant c.args.self.now c.self.view_is
