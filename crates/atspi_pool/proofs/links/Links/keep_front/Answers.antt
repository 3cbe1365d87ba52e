use Rattle.std.proofs.Common.{◌≡◌, length, arith}
use Rattle.atspi_pool.specs.Links.{entry_at}
use Rattle.atspi_pool.proofs.LinkSpecs as specs
use Rattle.atspi_pool.proofs.links.Links.keep_front.Goals as goal

pub keep_some-requires-clause-in_chain : goal.keep_some-requires-clause-in_chain
keep_some-requires-clause-in_chain c = omega (arith, specs.count_is c.self.inside.next.items c.self.inside.first_free c.self.inside.free c.self.inside.runs.items c.self.invariant c.args.self.now c.self.view_is c.args.chain c.requires.chain c.index.result.now c.index.ensures)

pub returns-else-count-index-clause-links : goal.returns-else-count-index-clause-links
returns-else-count-index-clause-links c =
    let count = specs.count_is c.self.inside.next.items c.self.inside.first_free c.self.inside.free c.self.inside.runs.items c.self.invariant c.args.self.now c.self.view_is c.args.chain c.requires.chain c.index.result.now c.index.ensures in
    let all : c.args.count ≡ length (entry_at c.args.self.now c.args.chain).blocks = omega (arith, c.requires.in_chain) in
    specs.all_kept c.args.self.now c.args.chain c.args.count all

pub returns-else-count-index-clause-apart : goal.returns-else-count-index-clause-apart
returns-else-count-index-clause-apart c = specs.apart_is c.self.inside.next.items c.self.inside.first_free c.self.inside.free c.self.inside.runs.items c.self.invariant c.args.self.now c.self.view_is
