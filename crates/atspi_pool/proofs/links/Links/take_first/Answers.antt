use Rattle.std.proofs.Common.{arith}
use Rattle.atspi_pool.proofs.LinkSpecs as specs
use Rattle.atspi_pool.proofs.links.Links.take_first.Goals as goal

pub index-requires : goal.index-requires
index-requires c = omega (arith, specs.first_free_in c.self.inside.next.items c.self.inside.first_free c.self.inside.free c.self.inside.runs.items c.self.invariant c.args.self.now c.self.view_is c.requires.free)

pub invariant_of-self : goal.invariant_of-self
invariant_of-self c =
    (specs.first_taken c.self.inside.next.items c.self.inside.first_free c.self.inside.free c.self.inside.runs.items c.self.invariant c.args.self.now c.self.view_is c.args.chain c.requires.chain c.index_mut-run.result.now c.index_mut-run.ensures.value c.index.result.now c.index.ensures c.requires.free c.requires.empty).linked

pub returns : goal.returns
returns c =
    (specs.first_taken c.self.inside.next.items c.self.inside.first_free c.self.inside.free c.self.inside.runs.items c.self.invariant c.args.self.now c.self.view_is c.args.chain c.requires.chain c.index_mut-run.result.now c.index_mut-run.ensures.value c.index.result.now c.index.ensures c.requires.free c.requires.empty).view
