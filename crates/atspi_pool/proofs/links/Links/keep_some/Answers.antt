use Rattle.std.proofs.Common.{◌<◌, ◌-◌, length, arith}
use Rattle.atspi_pool.specs.Links.{entry_at}
use Rattle.atspi_pool.proofs.LinkSpecs as specs
use Rattle.atspi_pool.proofs.links.Links.keep_some.Goals as goal

pub index-behind-requires : goal.index-behind-requires
index-behind-requires c =
    let lt : c.args.count - 1 < length (entry_at c.args.self.now c.args.chain).blocks = omega arith in
    omega (arith, specs.found_in c.self.inside.next.items c.self.inside.first_free c.self.inside.free c.self.inside.runs.items c.self.invariant c.args.self.now c.self.view_is c.args.chain c.requires.chain c.index-run.result.now c.index-run.ensures (c.args.count - 1) c.at-last.result lt c.at-last.ensures.block)

pub index_mut-requires : goal.index_mut-requires
index_mut-requires c =
    let some : 0 < c.index-run.result.now.count = omega (arith, c.requires.in_chain, specs.count_is c.self.inside.next.items c.self.inside.first_free c.self.inside.free c.self.inside.runs.items c.self.invariant c.args.self.now c.self.view_is c.args.chain c.requires.chain c.index-run.result.now c.index-run.ensures) in
    omega (arith, specs.last_in c.self.inside.next.items c.self.inside.first_free c.self.inside.free c.self.inside.runs.items c.self.invariant c.args.self.now c.self.view_is c.args.chain c.requires.chain c.index-run.result.now c.index-run.ensures some)

pub overflow_add-self : goal.overflow_add-self
overflow_add-self c = omega (arith, c.requires.in_chain, specs.count_is c.self.inside.next.items c.self.inside.first_free c.self.inside.free c.self.inside.runs.items c.self.invariant c.args.self.now c.self.view_is c.args.chain c.requires.chain c.index-run.result.now c.index-run.ensures, specs.room c.self.inside.next.items c.self.inside.first_free c.self.inside.free c.self.inside.runs.items c.self.invariant c.args.self.now c.self.view_is c.args.chain c.requires.chain c.index-run.result.now c.index-run.ensures)

pub overflow_sub-self : goal.overflow_sub-self
overflow_sub-self c = omega (arith, c.requires.in_chain, specs.count_is c.self.inside.next.items c.self.inside.first_free c.self.inside.free c.self.inside.runs.items c.self.invariant c.args.self.now c.self.view_is c.args.chain c.requires.chain c.index-run.result.now c.index-run.ensures)

pub invariant_of-self : goal.invariant_of-self
invariant_of-self c = (specs.kept c.self.inside.next.items c.self.inside.first_free c.self.inside.free c.self.inside.runs.items c.self.invariant c.args.self.now c.self.view_is c.args.chain c.requires.chain c.index-run.result.now c.index-run.ensures c.args.count c.at-last.result c.index-behind.result.now c.at-last.ensures.block c.index-behind.ensures c.requires.some c.requires.in_chain).linked

pub returns-clause-links : goal.returns-clause-links
returns-clause-links c = (specs.kept c.self.inside.next.items c.self.inside.first_free c.self.inside.free c.self.inside.runs.items c.self.invariant c.args.self.now c.self.view_is c.args.chain c.requires.chain c.index-run.result.now c.index-run.ensures c.args.count c.at-last.result c.index-behind.result.now c.at-last.ensures.block c.index-behind.ensures c.requires.some c.requires.in_chain).view

pub returns-clause-apart : goal.returns-clause-apart
returns-clause-apart c = specs.apart_is c.self.inside.next.items c.self.inside.first_free c.self.inside.free c.self.inside.runs.items c.self.invariant c.args.self.now c.self.view_is
