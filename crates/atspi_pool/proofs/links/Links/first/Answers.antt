use Rattle.std.proofs.Common.{sym}
use Rattle.atspi_pool.proofs.LinkSpecs as specs
use Rattle.atspi_pool.proofs.links.Links.first.Goals as goal

pub returns-clause-first : goal.returns-clause-first
returns-clause-first c = sym (specs.place_is c.self.inside.next.items c.self.inside.first_free c.self.inside.free c.self.inside.runs.items c.self.invariant c.args.self.now c.self.view_is c.args.chain c.requires.chain c.index.result.now c.index.ensures 0 c.requires.nonempty)
