use Rattle.std.proofs.Common.{◌≤◌, ◌++◌, length, drop, ap, ◌∙◌, arith}
use Rattle.std.proofs.lemmas.List.{take_all, drop_all}
use Rattle.atspi_pool.specs.Links.{entry_at, with_blocks}
use Rattle.atspi_pool.proofs.LinkSpecs as specs
use Rattle.atspi_pool.proofs.links.Links.give_all.Goals as goal

pub give_front-requires-clause-in_chain : goal.give_front-requires-clause-in_chain
give_front-requires-clause-in_chain c = omega (arith, specs.count_is c.self.inside.next.items c.self.inside.first_free c.self.inside.free c.self.inside.runs.items c.self.invariant c.args.self.now c.self.view_is c.args.chain c.requires c.index.result.now c.index.ensures)

pub returns : goal.returns
returns c =
    let count = specs.count_is c.self.inside.next.items c.self.inside.first_free c.self.inside.free c.self.inside.runs.items c.self.invariant c.args.self.now c.self.view_is c.args.chain c.requires c.index.result.now c.index.ensures in
    let blocks = (entry_at c.args.self.now c.args.chain).blocks in
    let less : length (entry_at c.args.self.now c.args.chain).blocks ≤ c.index.result.now.count = omega arith in
    c.give_front.ensures.links
    ∙ ap (λ bs. with_blocks c.args.self.now (bs ++ c.args.self.now.unused) c.args.chain (drop c.index.result.now.count (entry_at c.args.self.now c.args.chain).blocks))
    (take_all c.index.result.now.count (entry_at c.args.self.now c.args.chain).blocks less)
    ∙ ap (with_blocks c.args.self.now ((entry_at c.args.self.now c.args.chain).blocks ++ c.args.self.now.unused) c.args.chain)
    (drop_all c.index.result.now.count (entry_at c.args.self.now c.args.chain).blocks less)
