use Rattle.std.proofs.Common.{arith}
use Rattle.atspi_pool.proofs.LinkSpecs as specs
use Rattle.atspi_pool.proofs.links.Links.take.Goals as goal

pub take_next-requires-clause-nonempty : goal.take_next-requires-clause-nonempty
take_next-requires-clause-nonempty c = omega (arith, specs.count_is c.self.inside.next.items c.self.inside.first_free c.self.inside.free c.self.inside.runs.items c.self.invariant c.args.self.now c.self.view_is c.args.chain c.requires.chain c.index.result.now c.index.ensures)

pub take_first-requires-clause-empty : goal.take_first-requires-clause-empty
take_first-requires-clause-empty c = omega (arith, specs.count_is c.self.inside.next.items c.self.inside.first_free c.self.inside.free c.self.inside.runs.items c.self.invariant c.args.self.now c.self.view_is c.args.chain c.requires.chain c.index.result.now c.index.ensures)
