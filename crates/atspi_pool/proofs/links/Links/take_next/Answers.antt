use Rattle.std.proofs.Common.{◌<◌, subst, arith}
use Rattle.atspi_pool.proofs.LinkSpecs as specs
use Rattle.atspi_pool.proofs.links.Links.take_next.Goals as goal

pub index-requires : goal.index-requires
index-requires c = omega (arith, specs.first_free_in c.self.inside.next.items c.self.inside.first_free c.self.inside.free c.self.inside.runs.items c.self.invariant c.args.self.now c.self.view_is c.requires.free)

pub index_mut-requires : goal.index_mut-requires
index_mut-requires c =
    let some : 0 < c.index-run.result.now.count = subst (λ n. 0 < n) (specs.count_is c.self.inside.next.items c.self.inside.first_free c.self.inside.free c.self.inside.runs.items c.self.invariant c.args.self.now c.self.view_is c.args.chain c.requires.chain c.index-run.result.now c.index-run.ensures) c.requires.nonempty in
    omega (arith, specs.last_in c.self.inside.next.items c.self.inside.first_free c.self.inside.free c.self.inside.runs.items c.self.invariant c.args.self.now c.self.view_is c.args.chain c.requires.chain c.index-run.result.now c.index-run.ensures some)

pub overflow_add-run : goal.overflow_add-run
overflow_add-run c = omega (arith, c.requires.free, specs.free_is c.self.inside.next.items c.self.inside.first_free c.self.inside.free c.self.inside.runs.items c.self.invariant c.args.self.now c.self.view_is, specs.room c.self.inside.next.items c.self.inside.first_free c.self.inside.free c.self.inside.runs.items c.self.invariant c.args.self.now c.self.view_is c.args.chain c.requires.chain c.index-run.result.now c.index-run.ensures)

pub invariant_of-self : goal.invariant_of-self
invariant_of-self c = (specs.next_taken c.self.inside.next.items c.self.inside.first_free c.self.inside.free c.self.inside.runs.items c.self.invariant c.args.self.now c.self.view_is c.args.chain c.requires.chain c.index-run.result.now c.index-run.ensures c.index.result.now c.index.ensures c.requires.free c.requires.nonempty).linked

pub returns : goal.returns
returns c = (specs.next_taken c.self.inside.next.items c.self.inside.first_free c.self.inside.free c.self.inside.runs.items c.self.invariant c.args.self.now c.self.view_is c.args.chain c.requires.chain c.index-run.result.now c.index-run.ensures c.index.result.now c.index.ensures c.requires.free c.requires.nonempty).view
